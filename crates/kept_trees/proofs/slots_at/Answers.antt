use borrow.Author.Rules.{rules}
use native.Mathlib.Omega.{arith}
use Rattle.kept_trees.proofs.Entities.{slots-none, slots-more, slots-all}
use Rattle.kept_trees.proofs.slots_at.Goals as goal

pub loop-l-init : goal.loop-l-init
loop-l-init c = (omega arith, search (slots-none, rules))

pub overflow_add-from : goal.overflow_add-from
overflow_add-from c = omega (arith, c.loop-l-test.true, c.requires.2, c.requires.0.few)

pub slot_at-requires : goal.slot_at-requires
slot_at-requires c = omega (arith, c.loop-l-test.true, c.requires.2, c.requires.0.room)

pub loop-l-preserved : goal.loop-l-preserved
loop-l-preserved c = let l = c.loop-l in
    (omega (arith, c.loop-l-test.true), slots-more c.args.work.now c.args.from l.slots l.l _ (omega (arith, c.loop-l-test.true, c.requires.1)) c.slot_at.ensures l.invariant.1)

pub returns : goal.returns
returns c = slots-all _ _ _ _ _ c.loop-l-test.false c.loop-l.invariant.0 c.loop-l.invariant.1
