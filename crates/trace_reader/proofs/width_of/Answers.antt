use Rattle.trace_reader.proofs.Letters.{width_V, width_D, width_T, width_other}
use Rattle.trace_reader.proofs.width_of.Goals as goal

pub returns-then-letter-eq-LETTER_V : goal.returns-then-letter-eq-LETTER_V
returns-then-letter-eq-LETTER_V c = search width_V

pub returns-then-letter-eq-LETTER_D : goal.returns-then-letter-eq-LETTER_D
returns-then-letter-eq-LETTER_D c = search width_D

pub returns-then-letter-eq-LETTER_T : goal.returns-then-letter-eq-LETTER_T
returns-then-letter-eq-LETTER_T c = search width_T

pub returns : goal.returns
returns c = search width_other
