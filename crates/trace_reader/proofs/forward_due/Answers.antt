use Rattle.trace_reader.proofs.Letters.{due-first, due_T, due-later}
use Rattle.trace_reader.proofs.forward_due.Goals as goal

pub returns-then-i-eq0 : goal.returns-then-i-eq0
returns-then-i-eq0 c = search due-first

pub returns-then-letter-eq-LETTER_T : goal.returns-then-letter-eq-LETTER_T
returns-then-letter-eq-LETTER_T c = search due_T

pub returns : goal.returns
returns c = search due-later
