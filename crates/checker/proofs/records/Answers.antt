use mathlib.Core.Path.{refl}
use Rattle.checker.proofs.Calls.{parted}
use Rattle.checker.proofs.records.Goals as goal

pub returns-clause-result : goal.returns-clause-result
returns-clause-result c =
    let a = c.args in
    parted _ _ _ _ a.commitment.now a.answer.now a.work.now _ _ c.record_bounds-start.ensures.result refl
