use Rattle.model.specs.Calls.{writing, answer_call}
use Rattle.bozhtagul.specs.Results.{written_of}
use Rattle.bozhtagul.proofs.Plain.{numbers_agree}
use Rattle.bozhtagul.proofs.bozhtagul_answer.Goals as goal

pub returns : goal.returns
unfolding written_of writing answer_call
returns c = let h = c.answer.ensures in record { result = numbers_agree _ _ h.result _ c.from.ensures; output = h.output; cleared = h.cleared }
