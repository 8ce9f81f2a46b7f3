use borrow.Author.Rules.{rules}
use native.Mathlib.Omega.{arith}
use Prim.Native.Nat.{◌+◌}
use mathlib.Core.Path.{◌≡◌, sym}
use mathlib.Core.List.{[], ◌∷◌}
use Rattle.graph.specs.Table.{columns}
use Rattle.graph.proofs.Slots.{kept-none, kept_then}
use Rattle.kept_trees.proofs.Entities.{entities_to_all, groups-more}
use Rattle.kept_trees.proofs.keep_entities.Goals as goal

pub loop-g-init : goal.loop-g-init
loop-g-init c = record { kept = kept-none (columns 84 116 ∷ []) _; trees = c.requires.0; size = search rules }

pub overflow_sub-ranks : goal.overflow_sub-ranks
overflow_sub-ranks c = omega (arith, c.loop-g-test.true)

pub keep_batch-requires : goal.keep_batch-requires
keep_batch-requires c = let l = c.loop-g in
    ((l.invariant.size, l.invariant.trees, omega (arith, c.min-count.ensures), omega (arith, c.min-count.ensures, c.loop-g-test.true)), c.requires.1)

pub slice_bounds-digests-end : goal.slice_bounds-digests-end
slice_bounds-digests-end c = sym c.keep_batch.ensures.strings.size

pub digests-digests-requires : goal.digests-digests-requires
digests-digests-requires c = ((omega (arith, c.keep_batch.ensures.strings.size), omega (arith, c.min-count.ensures)), c.requires.1)

pub put_digests-requires : goal.put_digests-requires
put_digests-requires c = (c.keep_batch.ensures.trees.ranked, omega (arith, c.min-count.ensures), omega (arith, c.min-count.ensures, c.loop-g-test.true))

pub loop-g-preserved : goal.loop-g-preserved
loop-g-preserved c =
    let l = c.loop-g in
    let B = c.keep_batch.ensures in
    let F = c.put_digests.ensures in
    let e : c.min-count.result ≡ 8 = omega (arith, c.min-count.ensures) in
    record {
      kept = kept_then (columns 84 116 ∷ []) _ l.work _ l.invariant.kept (kept_then (columns 84 116 ∷ []) l.work _ _ B.kept F.kept);
      trees = rw e at (groups-more _ _ _ _ _ _ _ B.trees B.strings c.digests-digests.ensures F);
      size = B.strings.size;
    }

pub shape_of-work : goal.shape_of-work
shape_of-work c = c.loop-g.invariant.kept.size

pub returns-clause-trees : goal.returns-clause-trees
returns-clause-trees c = entities_to_all _ _ _ _ _ c.loop-g-test.false c.loop-g.invariant

pub returns-2-clause-trees : goal.returns-2-clause-trees
returns-2-clause-trees c =
    let l = c.loop-g in
    let B = c.keep_batch.ensures in
    let e : l.g + c.min-count.result ≡ c.args.ranks.entities = omega (arith, c.min-count.ensures, c.loop-g-test.true) in
    rw e at (groups-more _ _ _ _ _ _ _ B.trees B.strings c.digests-digests.ensures c.put_digests.ensures)
