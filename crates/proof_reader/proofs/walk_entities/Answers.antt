use Rattle.std.proofs.lemmas.Result.{err_from_is_err_and}
use Rattle.proof_reader.proofs.Walking.{entities-stop, entities_halt, entity-found, entities-on}
use Rattle.proof_reader.proofs.walk_entities.Goals as goal

pub returns-then-outside : goal.returns-then-outside
returns-then-outside c = entities-stop _ _ _ _ _ _ c.loop-entity.invariant _ c.outside.ensures c.if-outside.true

pub returns-in_err-open : goal.returns-in_err-open
returns-in_err-open c =
    let p = err_from_is_err_and c.from_residual.result c.from_residual.ensures.1 in
    rw (p.1, p.2) (entities_halt _ _ _ _ _ _ c.loop-entity.invariant _ c.outside.ensures c.if-outside.false _ c.in_err-open.ensures)

pub returns-in-Leaf : goal.returns-in-Leaf
returns-in-Leaf c =
    entity-found _ _ _ _ _ _ c.loop-entity.invariant _ c.outside.ensures c.if-outside.false _ c.in_ok-open.ensures c.in-Leaf.is

pub loop-entity-preserved : goal.loop-entity-preserved
loop-entity-preserved c =
    entities-on _ _ _ _ _ _ c.loop-entity.invariant _ c.outside.ensures c.if-outside.false _ c.in_ok-open.ensures c.in-Inner.is _ c.entity_side-tree.ensures
