use Rattle.proof_reader.proofs.Strings.{time_at}
use Rattle.proof_reader.proofs.leaf_time.Goals as goal

pub returns : goal.returns
returns c = search time_at
