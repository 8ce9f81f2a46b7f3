use Rattle.question.proofs.Keys.{key_below}
use Rattle.question.proofs.Directions.{times_reversed, asks_all}
use Rattle.question.proofs.span_by.Goals as goal

pub returns-then-lt : goal.returns-then-lt
returns-then-lt c = times_reversed _ _ _ _ (key_below _ _ _ c.lt.ensures) c.if-lt.true _ c.at.ensures

pub returns : goal.returns
returns c = asks_all _ _ _ _ (key_below _ _ _ c.lt.ensures) c.if-lt.false
