use Rattle.checker.proofs.RowLaws.{entity-same, entity_differs}
use Rattle.checker.proofs.same_version.Goals as goal

pub returns-then-eq : goal.returns-then-eq
returns-then-eq c =
    entity-same _ _ _ _ _ c.leaf_entity.ensures _ _ c.entity_of.ensures c.eq.ensures c.if-eq.true _ _ _ c.leaf_time.ensures c.time_of.ensures c.eq-then-eq.ensures

pub returns-else-eq : goal.returns-else-eq
returns-else-eq c = entity_differs _ _ _ _ _ c.leaf_entity.ensures _ _ c.entity_of.ensures c.eq.ensures c.if-eq.false
