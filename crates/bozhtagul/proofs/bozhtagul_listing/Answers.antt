use Rattle.model.specs.Calls.{writing, listing_call}
use Rattle.bozhtagul.specs.Results.{written_of}
use Rattle.bozhtagul.proofs.Plain.{numbers_agree}
use Rattle.bozhtagul.proofs.bozhtagul_listing.Goals as goal

pub returns : goal.returns
unfolding written_of writing listing_call
returns c = let h = c.list.ensures in record {
  result = numbers_agree _ _ h.result _ c.from.ensures;
  output = h.output;
}
