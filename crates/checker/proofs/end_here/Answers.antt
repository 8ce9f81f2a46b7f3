use Rattle.checker.proofs.Running.{bytes-behind, nothing-behind}
use Rattle.checker.proofs.end_here.Goals as goal

pub returns-then-at-answer : goal.returns-then-at-answer
returns-then-at-answer c = bytes-behind _ _ _ c.if-at-answer.true _ c.at.ensures

pub returns : goal.returns
returns c = nothing-behind _ _ _ c.if-at-answer.false
