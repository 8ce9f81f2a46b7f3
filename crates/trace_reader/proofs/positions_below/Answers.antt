use Rattle.trace_reader.proofs.Passing.{both_below, first_not_below, one_below_D, one_below_T, none_below}
use Rattle.trace_reader.proofs.positions_below.Goals as goal

pub returns-then-below : goal.returns-then-below
returns-then-below c = search both_below

pub returns-then-letter-eq-LETTER_V : goal.returns-then-letter-eq-LETTER_V
returns-then-letter-eq-LETTER_V c = search first_not_below

pub returns-then-letter-eq-LETTER_D : goal.returns-then-letter-eq-LETTER_D
returns-then-letter-eq-LETTER_D c = search one_below_D

pub returns-then-letter-eq-LETTER_T : goal.returns-then-letter-eq-LETTER_T
returns-then-letter-eq-LETTER_T c = search one_below_T

pub returns : goal.returns
returns c = search none_below
