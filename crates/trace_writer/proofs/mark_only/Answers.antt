use Rattle.trace_writer.proofs.Marking.{only-marked}
use Rattle.trace_writer.proofs.mark_only.Goals as goal

pub returns : goal.returns
returns c = search only-marked
