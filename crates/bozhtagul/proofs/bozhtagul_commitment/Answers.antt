use Rattle.model.specs.Calls.{writing, commitment_call}
use Rattle.bozhtagul.specs.Results.{outcome_of}
use Rattle.bozhtagul.proofs.Plain.{alone_agree}
use Rattle.bozhtagul.proofs.bozhtagul_commitment.Goals as goal

pub returns : goal.returns
unfolding outcome_of writing commitment_call
returns c = let h = c.commitment.ensures in record { result = alone_agree _ _ h.result _ c.from.ensures; output = h.output; cleared = h.cleared }
