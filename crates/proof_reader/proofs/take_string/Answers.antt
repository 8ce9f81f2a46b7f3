use Rattle.proof_reader.proofs.Strings.{no_byte, other-letter, too_short, string_passes, other-digest}
use Rattle.proof_reader.proofs.take_string.Goals as goal

pub returns-then-left-eq0 : goal.returns-then-left-eq0
returns-then-left-eq0 c = search no_byte

pub returns-then-answer-at : goal.returns-then-answer-at
returns-then-answer-at c = search other-letter

pub returns-then-left-width : goal.returns-then-left-width
returns-then-left-width c = search too_short

pub returns-then-same : goal.returns-then-same
returns-then-same c = search string_passes

pub returns : goal.returns
returns c = search other-digest
