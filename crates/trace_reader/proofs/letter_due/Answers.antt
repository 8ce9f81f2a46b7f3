use Rattle.trace_reader.proofs.Letters.{due-backward, due-forward}
use Rattle.trace_reader.proofs.letter_due.Goals as goal

pub returns-in-Backward : goal.returns-in-Backward
returns-in-Backward c = search due-backward

pub returns-in-Forward : goal.returns-in-Forward
returns-in-Forward c = search due-forward
