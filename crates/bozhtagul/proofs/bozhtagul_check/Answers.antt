use mathlib.Core.Path.{refl}
use Rattle.fields.proofs.Numbers.{octets}
use Rattle.model.specs.Numbers.{Bytes}
use Rattle.bozhtagul.specs.Demand3.{Sound, Complete}
use Rattle.bozhtagul.proofs.CheckedAnswer.{check_agrees, sound-of, complete_of, left_so}
use Rattle.bozhtagul.proofs.bozhtagul_check.Goals as goal

-- Of what the call returns and leaves in the output, each half of what the check promises is proved for the output as it is defined, and then
-- holds of what is left there.

pub returns-clause-sound : goal.returns-clause-sound
returns-clause-sound c =
    let a = c.args in
    let k = c.check-checking.ensures in
    left_so (λ (o : Bytes). Sound a.direction a.entity a.time a.until a.commitment.now a.answer.now a.work.now a.out.now o c.from.result) _ _ k.output
    (sound-of _ _ _ _ a.commitment.now a.answer.now a.out.now a.work.now _ _ (check_agrees _ _ k.result _ c.from.ensures) refl
    (octets a.answer.now (λ j. (c.type_inv.answer j).fits)))

pub returns-clause-complete : goal.returns-clause-complete
returns-clause-complete c =
    let a = c.args in
    let k = c.check-checking.ensures in
    left_so (λ (o : Bytes). Complete a.direction a.entity a.time a.until a.commitment.now a.answer.now a.work.now a.out.now o c.from.result) _ _ k.output
    (complete_of _ _ _ _ a.commitment.now a.answer.now a.out.now a.work.now _ _ (check_agrees _ _ k.result _ c.from.ensures) refl)

pub returns-clause-result : goal.returns-clause-result
returns-clause-result c = check_agrees _ _ c.check-checking.ensures.result _ c.from.ensures
