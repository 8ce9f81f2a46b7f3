use Rattle.trace_writer.proofs.Searching.{done-backward, done-forward}
use Rattle.trace_writer.proofs.mark_trace.Goals as goal

pub returns-in-Backward : goal.returns-in-Backward
returns-in-Backward c = search done-backward

pub returns-in-Forward : goal.returns-in-Forward
returns-in-Forward c = search done-forward
