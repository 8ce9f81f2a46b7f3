use Rattle.proof_writer.proofs.Planning.{plan-one, plan-all}
use Rattle.proof_writer.proofs.plan_below.Goals as goal

pub plan_versions-requires : goal.plan_versions-requires
plan_versions-requires c = c.requires

pub plan_span-requires : goal.plan_span-requires
plan_span-requires c = c.requires

pub returns-in-One : goal.returns-in-One
returns-in-One c =
    let a = c.args in
    λ ns G. plan-one a.work.now ns a.path a.query _ _ c.in-One.is (c.plan_versions.ensures ns G)

pub returns-in-All : goal.returns-in-All
returns-in-All c =
    let a = c.args in
    λ ns G. plan-all a.work.now ns a.path a.query _ _ c.in-All.is (c.plan_span.ensures ns G)
