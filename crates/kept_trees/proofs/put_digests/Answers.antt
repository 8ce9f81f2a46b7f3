use borrow.Author.Rules.{rules}
use native.Mathlib.Omega.{arith}
use Prim.Native.Nat.{◌+◌}
use mathlib.Core.List.{[], ◌∷◌}
use Rattle.graph.specs.Table.{columns}
use Rattle.ranks.proofs.Reading.{first-inside}
use Rattle.kept_trees.proofs.Rows.{digests_beside, ranked-same}
use Rattle.kept_trees.proofs.Entities.{entities-none, entities-more, entities-all}
use Rattle.kept_trees.proofs.put_digests.Goals as goal

pub loop-l-init : goal.loop-l-init
loop-l-init c = (omega arith, entities-none _ _ _ _)

pub overflow_add-g : goal.overflow_add-g
overflow_add-g c = omega (arith, c.loop-l-test.true, c.requires.2, c.requires.0.fewer, c.requires.0.few)

pub first_at-slot-requires : goal.first_at-slot-requires
first_at-slot-requires c = (ranked-same (columns 84 116 ∷ []) c.args.work.now _ c.loop-l.invariant.1.kept digests_beside c.args.ranks c.requires.0, omega (arith, c.loop-l-test.true, c.requires.2))

pub overflow_mul-slot : goal.overflow_mul-slot
overflow_mul-slot c = let R = ranked-same (columns 84 116 ∷ []) c.args.work.now _ c.loop-l.invariant.1.kept digests_beside c.args.ranks c.requires.0 in
    omega (arith, c.first_at-slot.ensures, first-inside _ c.args.ranks R (c.args.g + c.loop-l.l) (omega (arith, c.loop-l-test.true, c.requires.2)), R.room)

pub overflow_add-slot : goal.overflow_add-slot
overflow_add-slot c = let R = ranked-same (columns 84 116 ∷ []) c.args.work.now _ c.loop-l.invariant.1.kept digests_beside c.args.ranks c.requires.0 in
    omega (arith, c.first_at-slot.ensures, first-inside _ c.args.ranks R (c.args.g + c.loop-l.l) (omega (arith, c.loop-l-test.true, c.requires.2)), R.room)

pub copy-requires : goal.copy-requires
copy-requires c = let R = ranked-same (columns 84 116 ∷ []) c.args.work.now _ c.loop-l.invariant.1.kept digests_beside c.args.ranks c.requires.0 in
    (omega (arith, c.first_at-slot.ensures, first-inside _ c.args.ranks R (c.args.g + c.loop-l.l) (omega (arith, c.loop-l-test.true, c.requires.2)), R.room), omega (arith, c.loop-l-test.true, c.requires.1))

pub loop-l-preserved : goal.loop-l-preserved
loop-l-preserved c = let l = c.loop-l in
    let h = c.loop-l-test.true in
    (omega (arith, h), entities-more c.args.work.now l.work _ c.args.ranks c.args.g l.l _ _ c.requires.0 (search rules) (omega (arith, c.requires.1)) (omega (arith, c.requires.2)) c.first_at-slot.ensures c.copy.ensures l.invariant.1)

pub shape_of-work : goal.shape_of-work
shape_of-work c = c.loop-l.invariant.1.kept.size

pub returns : goal.returns
returns c = entities-all _ _ _ _ _ _ _ c.loop-l-test.false c.loop-l.invariant.0 c.loop-l.invariant.1
