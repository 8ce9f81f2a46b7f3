use native.Mathlib.Omega.{arith}
use Prim.Native.Nat.{◌+◌, ◌-◌, ◌≤◌}
use mathlib.Core.Path.{◌≡◌}
use lib.ListN.{length}
use Rattle.leaves.proofs.Keeping.{first_number, first_slots, first_kept}
use Rattle.kept_trees.proofs.Entities.{slots-there, leaves_none, leaves-more, leaves_all}
use Rattle.kept_trees.proofs.keep_leaves.Goals as goal

pub loop-from-init : goal.loop-from-init
loop-from-init c = leaves_none _ _ c.requires.0

pub slots_at-slots-requires : goal.slots_at-slots-requires
slots_at-slots-requires c = (c.loop-from.invariant.ranked, omega (arith, c.min-count.ensures), omega (arith, c.min-count.ensures, c.loop-from-test.true))

pub keep-requires : goal.keep-requires
keep-requires c =
    let l = c.loop-from in
    let R = l.invariant.ranked in
    let S = c.slots_at-slots.ensures in
    let there : c.min-count.result ≤ length c.slots_at-slots.result = omega (arith, S.size, c.min-count.ensures) in
    let most : l.from + c.min-count.result ≤ c.args.ranks.versions = omega (arith, c.min-count.ensures, c.loop-from-test.true) in
    let size = first_number _ _ there in
    ((omega (arith, size, S.size), first_slots _ _ there _ (slots-there l.work c.args.ranks l.from _ _ R most S), omega (arith, size, R.room)), c.requires.1)

pub loop-from-preserved : goal.loop-from-preserved
loop-from-preserved c =
    let l = c.loop-from in
    let S = c.slots_at-slots.ensures in
    let e : c.min-count.result ≡ 8 = omega (arith, c.min-count.ensures) in
    let done = leaves-more _ l.work _ _ l.from _ _ (omega arith) S (first_kept _ _ (omega (arith, S.size)) _ _ _ c.keep.ensures) l.invariant in
    rw e at done

pub shape_of-work : goal.shape_of-work
shape_of-work c = c.loop-from.invariant.kept.size

pub returns-clause-leaves : goal.returns-clause-leaves
returns-clause-leaves c = leaves_all _ _ _ _ c.loop-from-test.false c.loop-from.invariant

pub returns-2-clause-leaves : goal.returns-2-clause-leaves
returns-2-clause-leaves c =
    let l = c.loop-from in
    let S = c.slots_at-slots.ensures in
    let done = leaves-more _ l.work _ _ l.from _ _ (omega (arith, c.min-count.ensures, c.loop-from-test.true)) S (first_kept _ _ (omega (arith, S.size, c.min-count.ensures)) _ _ _ c.keep.ensures) l.invariant in
    leaves_all _ _ _ _ (omega (arith, c.min-count.ensures, c.loop-from-test.true)) done
