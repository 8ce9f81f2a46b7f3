use Rattle.model.specs.Trace.{entry_letter}
use Rattle.question.specs.declared.Way.TheVariants.{Backward, Forward}
use Rattle.question.specs.Ways.{way_of}
use Rattle.question.proofs.Ways.{letter_of-way}
use Rattle.trace_writer.proofs.entry_letter.Goals as goal

pub returns-in-Backward : goal.returns-in-Backward
unfolding way_of
returns-in-Backward c = letter_of-way entry_letter _ Backward c.in-Backward.is

pub returns-in-Forward : goal.returns-in-Forward
unfolding way_of
returns-in-Forward c = letter_of-way entry_letter _ Forward c.in-Forward.is
