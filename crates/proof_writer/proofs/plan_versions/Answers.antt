use mathlib.Core.Path.{refl}
use Rattle.question.specs.Directions.{question_of}
use Rattle.proof_writer.proofs.Seeking.{stopped_leads, reached_leads, sought-stopped, sought-reached, time-sought}
use Rattle.proof_writer.proofs.Planning.{reached-leaves, reached_range, plan-unmet, plan-found}
use native.Mathlib.Omega.{arith}
use Rattle.proof_writer.proofs.plan_versions.Goals as goal

pub seek-requires : goal.seek-requires
seek-requires c = let b = reached_range c.args.work.now _ c.requires.graph.ns c.requires.graph.graphed c.args.path c.requires.path _ _ c.reached_versions-leaves.ensures.from c.reached_versions-leaves.ensures.number in (c.requires.path.ranked.ranked, b.0, b.1)

pub overflow_mul-result : goal.overflow_mul-result
overflow_mul-result c =
    let H = c.requires in
    let l = stopped_leads _ _ c.seek.ensures.leads _ _ c.in-Stopped.is in
    omega (arith, l.1, (reached_range c.args.work.now _ c.requires.graph.ns c.requires.graph.graphed c.args.path c.requires.path _ _ c.reached_versions-leaves.ensures.from c.reached_versions-leaves.ensures.number).1, H.path.ranked.ranked.few)

pub overflow_add-result : goal.overflow_add-result
overflow_add-result c =
    let H = c.requires in
    let l = stopped_leads _ _ c.seek.ensures.leads _ _ c.in-Stopped.is in
    omega (arith, l.1, (reached_range c.args.work.now _ c.requires.graph.ns c.requires.graph.graphed c.args.path c.requires.path _ _ c.reached_versions-leaves.ensures.from c.reached_versions-leaves.ensures.number).1, H.path.ranked.ranked.few, H.path.shallow)

pub overflow_mul-result-in-Reached : goal.overflow_mul-result-in-Reached
overflow_mul-result-in-Reached c =
    let H = c.requires in
    let l = reached_leads _ _ c.seek.ensures.leads _ _ c.in-Reached.is in
    omega (arith, l.1, (reached_range c.args.work.now _ c.requires.graph.ns c.requires.graph.graphed c.args.path c.requires.path _ _ c.reached_versions-leaves.ensures.from c.reached_versions-leaves.ensures.number).1, H.path.ranked.ranked.few)

pub overflow_add-result-in-Reached : goal.overflow_add-result-in-Reached
overflow_add-result-in-Reached c =
    let H = c.requires in
    let l = reached_leads _ _ c.seek.ensures.leads _ _ c.in-Reached.is in
    omega (arith, l.1, (reached_range c.args.work.now _ c.requires.graph.ns c.requires.graph.graphed c.args.path c.requires.path _ _ c.reached_versions-leaves.ensures.from c.reached_versions-leaves.ensures.number).1, H.path.ranked.ranked.few, H.path.shallow)

pub overflow_add-result-in-Reached-2 : goal.overflow_add-result-in-Reached-2
overflow_add-result-in-Reached-2 c =
    let H = c.requires in
    let l = reached_leads _ _ c.seek.ensures.leads _ _ c.in-Reached.is in
    omega (arith, l.1, (reached_range c.args.work.now _ c.requires.graph.ns c.requires.graph.graphed c.args.path c.requires.path _ _ c.reached_versions-leaves.ensures.from c.reached_versions-leaves.ensures.number).1, H.path.ranked.ranked.few, H.path.shallow)

pub overflow_add-leaves : goal.overflow_add-leaves
overflow_add-leaves c =
    let H = c.requires in
    let l = reached_leads _ _ c.seek.ensures.leads _ _ c.in-Reached.is in
    omega (arith, l.0, (reached_range c.args.work.now _ c.requires.graph.ns c.requires.graph.graphed c.args.path c.requires.path _ _ c.reached_versions-leaves.ensures.from c.reached_versions-leaves.ensures.number).1, H.path.ranked.ranked.few)

pub slot_at-requires : goal.slot_at-requires
slot_at-requires c =
    let H = c.requires in
    let l = reached_leads _ _ c.seek.ensures.leads _ _ c.in-Reached.is in
    omega (arith, l.0, (reached_range c.args.work.now _ c.requires.graph.ns c.requires.graph.graphed c.args.path c.requires.path _ _ c.reached_versions-leaves.ensures.from c.reached_versions-leaves.ensures.number).1, H.path.ranked.ranked.room)

pub returns-in-Stopped : goal.returns-in-Stopped
returns-in-Stopped c =
    let a = c.args in
    let v = c.reached_versions-leaves.ensures in
    let l = stopped_leads _ _ c.seek.ensures.leads _ _ c.in-Stopped.is in
    λ ns G R.
    let leaves = reached-leaves a.work.now _ ns G a.path R.path _ _ v.from v.number in
    plan-unmet a.work.now _ ns G a.path R.path _ _ v.from v.number (question_of a.question) R _ _ _ l.0 l.1
    (sought-stopped _ _ _ _ _ _ (time-sought _ _ _ _ _ _ _ (c.seek.ensures.walk _ leaves _)) _ _ c.in-Stopped.is) refl

pub returns-in-Reached : goal.returns-in-Reached
returns-in-Reached c =
    let a = c.args in
    let v = c.reached_versions-leaves.ensures in
    let l = reached_leads _ _ c.seek.ensures.leads _ _ c.in-Reached.is in
    λ ns G R.
    let leaves = reached-leaves a.work.now _ ns G a.path R.path _ _ v.from v.number in
    plan-found a.work.now _ ns G a.path R.path _ _ v.from v.number (question_of a.question) R _ _ _ _ l.0 l.1 c.slot_at.ensures
    (sought-reached _ _ _ _ _ _ (time-sought _ _ _ _ _ _ _ (c.seek.ensures.walk _ leaves _)) _ _ c.in-Reached.is) refl
