use Rattle.question.proofs.Keys.{key_below}
use Rattle.proof_reader.proofs.Descents.{entity-right, entity-left}
use Rattle.proof_reader.proofs.entity_side.Goals as goal

pub returns-then-lt : goal.returns-then-lt
returns-then-lt c = entity-right _ _ _ _ _ c.new-left.ensures c.greatest.ensures _ (key_below _ _ _ c.lt.ensures) c.if-lt.true _ c.new-right.ensures

pub returns-else-lt : goal.returns-else-lt
returns-else-lt c = entity-left _ _ _ _ _ c.new-left.ensures c.greatest.ensures _ (key_below _ _ _ c.lt.ensures) c.if-lt.false
