use native.Mathlib.Omega.{arith}
use mathlib.Core.Path.{refl}
use mathlib.Core.List.{[], ◌∷◌}
use Rattle.graph.specs.Table.{columns}
use Rattle.kept_trees.proofs.Rows.{digests_beside, ranked-same}
use Rattle.kept_trees.proofs.Entities.{entity_leaves, batch_none, batch_more, batch_all}
use Rattle.kept_trees.proofs.keep_batch.Goals as goal

pub loop-l-init : goal.loop-l-init
loop-l-init c = batch_none _ _ _ _ _ c.requires.0.1 c.requires.0.0

pub overflow_add-g : goal.overflow_add-g
overflow_add-g c = let R = c.loop-l.invariant.trees.ranked in
    omega (arith, c.loop-l-test.true, c.requires.0.3, R.fewer, R.few)

pub keep_entity-versions-requires : goal.keep_entity-versions-requires
keep_entity-versions-requires c = let l = c.loop-l in
    let h = c.loop-l-test.true in
    ((l.invariant.trees.ranked, omega (arith, h, c.requires.0.3), entity_leaves l.work c.args.ranks c.args.g _ _ l.invariant.trees refl (omega (arith, h, c.requires.0.3))), c.requires.1)

pub overflow_add-g-in-loop-l : goal.overflow_add-g-in-loop-l
overflow_add-g-in-loop-l c = let R = c.loop-l.invariant.trees.ranked in
    omega (arith, c.loop-l-test.true, c.requires.0.3, R.fewer, R.few)

pub entity_at-entity-requires : goal.entity_at-entity-requires
entity_at-entity-requires c = let l = c.loop-l in
    (ranked-same (columns 84 116 ∷ []) l.work _ c.keep_entity-versions.ensures.kept digests_beside c.args.ranks l.invariant.trees.ranked, omega (arith, c.loop-l-test.true, c.requires.0.3))

pub put_group-requires : goal.put_group-requires
put_group-requires c = let l = c.loop-l in
    omega (arith, c.loop-l-test.true, c.requires.0.2, l.invariant.strings.size)

pub loop-l-preserved : goal.loop-l-preserved
loop-l-preserved c = let l = c.loop-l in
    batch_more c.args.work.now l.work _ c.args.ranks c.args.g c.args.count l.l l.b _ _ _ c.requires.0.2 c.loop-l-test.true c.requires.0.3 c.keep_entity-versions.ensures.kept c.keep_entity-versions.ensures.tree c.entity_at-entity.ensures c.put_group.ensures l.invariant

pub shape_of-work : goal.shape_of-work
shape_of-work c = c.loop-l.invariant.kept.size

pub returns : goal.returns
returns c = let B = batch_all _ _ _ _ _ _ _ c.loop-l-test.false c.loop-l.invariant in record {
  kept = B.kept;
  trees = B.trees;
  strings = B.strings;
}
