use Prim.Native.Nat.{◌≤◌}
use mathlib.Core.Path.{refl, sym, ◌∙◌}
use native.Mathlib.Omega.{arith}
use Rattle.round_constants.proofs.Cubes.{quotient, some_digit, refined_is, root_shifted}
use borrow.Author.Tests.{ltb-true, ltb-false}
use Rattle.round_constants.proofs.refined_root.Goals as goal

pub loop-x-init : goal.loop-x-init
loop-x-init c = quotient _ _ _ _ _ c.requires c.remainder.ensures refl

pub overflow_sub-x : goal.overflow_sub-x
overflow_sub-x c = some_digit _ _ _ _ c.loop-x.invariant.known (ltb-true _ _ (sym c.cube_exceeds.ensures ∙ c.loop-x-test.true))

pub loop-x-smaller : goal.loop-x-smaller
loop-x-smaller c = let h : 1 ≤ c.loop-x.x = some_digit _ _ _ _ c.loop-x.invariant.known (ltb-true _ _ (sym c.cube_exceeds.ensures ∙ c.loop-x-test.true)) in omega arith

pub returns : goal.returns
returns c = rw (root_shifted _ _ c.loop-x.invariant.known.small c.loop-x.invariant.known.few) (refined_is _ _ _ _ c.loop-x.invariant (ltb-false _ _ (sym c.cube_exceeds.ensures ∙ c.loop-x-test.false)))
