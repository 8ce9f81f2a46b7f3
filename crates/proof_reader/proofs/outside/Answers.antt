use Rattle.question.proofs.Keys.{key_below}
use Rattle.proof_reader.proofs.Descents.{below-least, above-greatest}
use Rattle.proof_reader.proofs.outside.Goals as goal

pub returns-then-lt : goal.returns-then-lt
returns-then-lt c = below-least _ _ _ _ c.least.ensures _ (key_below _ _ _ c.lt.ensures) c.if-lt.true

pub returns-else-lt : goal.returns-else-lt
returns-else-lt c =
    above-greatest _ _ _ _ c.least.ensures _ (key_below _ _ _ c.lt.ensures) c.if-lt.false _ c.greatest.ensures _ (key_below _ _ _ c.lt-else-lt.ensures)
