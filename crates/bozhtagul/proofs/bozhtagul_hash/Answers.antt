use Rattle.model.specs.Calls.{writing, hash_call}
use Rattle.bozhtagul.specs.Results.{outcome_of}
use Rattle.bozhtagul.proofs.Plain.{alone_agree}
use Rattle.bozhtagul.proofs.bozhtagul_hash.Goals as goal

pub returns : goal.returns
unfolding outcome_of writing hash_call
returns c = let h = c.put_hash.ensures in record { result = alone_agree _ _ h.result _ c.from.ensures; output = h.output }
