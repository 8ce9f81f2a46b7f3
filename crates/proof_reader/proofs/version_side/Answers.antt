use Rattle.question.proofs.Keys.{key_below}
use Rattle.proof_reader.proofs.Descents.{back_left, back_right, ahead_right, ahead_left}
use Rattle.proof_reader.proofs.version_side.Goals as goal

pub returns-then-lt : goal.returns-then-lt
returns-then-lt c =
    back_left _ _ _ _ _ c.new-right.ensures c.least.ensures _ (key_below _ _ _ c.lt.ensures) _ c.in-AtOrBefore.is c.if-lt.true _ c.new-left.ensures

pub returns-else-lt : goal.returns-else-lt
returns-else-lt c =
    back_right _ _ _ _ _ c.new-right.ensures c.least.ensures _ (key_below _ _ _ c.lt.ensures) _ c.in-AtOrBefore.is c.if-lt.false

pub returns-then-lt-2 : goal.returns-then-lt-2
returns-then-lt-2 c =
    ahead_right _ _ _ _ _ c.new-left.ensures c.greatest.ensures _ (key_below _ _ _ c.lt-in-AtOrAfter.ensures) _ c.in-AtOrAfter.is c.if-lt-2.true _ c.new-right.ensures

pub returns-else-lt-2 : goal.returns-else-lt-2
returns-else-lt-2 c =
    ahead_left _ _ _ _ _ c.new-left.ensures c.greatest.ensures _ (key_below _ _ _ c.lt-in-AtOrAfter.ensures) _ c.in-AtOrAfter.is c.if-lt-2.false
