use Rattle.question.proofs.Directions.{version_only, backward, forward}
use Rattle.question.proofs.trace_by.Goals as goal

pub returns-in-0 : goal.returns-in-0
returns-in-0 c = search version_only

pub returns-in-1 : goal.returns-in-1
returns-in-1 c = search backward

pub returns-in_default : goal.returns-in_default
returns-in_default c = search forward
