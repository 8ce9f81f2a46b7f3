use Rattle.std.proofs.lemmas.Result.{err_from_is_err_and}
use Rattle.proof_reader.proofs.Walking.{versions-stop, versions_halt, version-found, versions_on}
use Rattle.proof_reader.proofs.walk_versions.Goals as goal

pub returns-then-unmet : goal.returns-then-unmet
returns-then-unmet c = search versions-stop

pub returns-in_err-open : goal.returns-in_err-open
returns-in_err-open c =
    let p = err_from_is_err_and c.from_residual.result c.from_residual.ensures.1 in
    let o = c.in_err-open.ensures in
    rw (p.1, p.2) (search versions_halt)

pub returns-in-Leaf : goal.returns-in-Leaf
returns-in-Leaf c = let o = c.in_ok-open.ensures in search version-found

pub loop-question-preserved : goal.loop-question-preserved
loop-question-preserved c = let o = c.in_ok-open.ensures in search versions_on
