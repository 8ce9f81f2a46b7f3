use Rattle.trace_reader.proofs.Passing.{same_test}
use Rattle.trace_reader.proofs.below.Goals as goal

pub returns : goal.returns
returns c = search same_test
