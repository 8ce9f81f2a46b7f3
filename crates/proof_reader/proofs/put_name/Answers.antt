use Rattle.proof_reader.proofs.Listing.{name-written}
use Rattle.proof_reader.proofs.put_name.Goals as goal

pub returns : goal.returns
returns c = search name-written
