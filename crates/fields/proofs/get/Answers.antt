use native.Mathlib.Omega.{arith}
use Prim.Native.Nat.{◌+◌}
use Rattle.fields.proofs.Loops.{got_none, got_short, got_more}
use Rattle.fields.proofs.get.Goals as goal

pub loop-i-init : goal.loop-i-init
loop-i-init c = search got_none

pub overflow_mul-r : goal.overflow_mul-r
overflow_mul-r c = omega (arith, got_short _ _ _ _ _ c.requires.0 c.loop-i-test.true (λ j. (c.type_inv.s j).fits) c.loop-i.invariant)

pub overflow_add-r : goal.overflow_add-r
overflow_add-r c =
    omega
    (arith, got_short _ _ _ _ _ c.requires.0 c.loop-i-test.true (λ j. (c.type_inv.s j).fits) c.loop-i.invariant, c.type_inv.s (c.args.at + c.loop-i.i))

pub loop-i-preserved : goal.loop-i-preserved
loop-i-preserved c = search got_more
