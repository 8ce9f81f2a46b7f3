use Rattle.question.proofs.Directions.{in_span, looks_back, looks_ahead, none}
use Rattle.question.proofs.asked_by.Goals as goal

pub returns-then-direction-eq6 : goal.returns-then-direction-eq6
returns-then-direction-eq6 c = search in_span

pub returns-then-direction-lt3 : goal.returns-then-direction-lt3
returns-then-direction-lt3 c = search looks_back

pub returns-then-direction-lt6 : goal.returns-then-direction-lt6
returns-then-direction-lt6 c = search looks_ahead

pub returns : goal.returns
returns c = search none
