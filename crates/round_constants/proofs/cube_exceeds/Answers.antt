use native.Mathlib.Omega.{arith}
use native.Mathlib.Nat.{mul-le-mul}
use Rattle.round_constants.proofs.Cubes.{cube_exceeds_is}
use Rattle.round_constants.proofs.cube_exceeds.Goals as goal

pub overflow_add-result : goal.overflow_add-result
overflow_add-result c = let h = c.requires.bound in let k = c.requires.known.small in omega (arith, mul-le-mul (mul-le-mul k k) h, mul-le-mul (mul-le-mul k h) h, mul-le-mul (mul-le-mul h h) h, c.ceil_shift-y.ensures.small, c.ceil_shift-z.ensures.small)

pub returns : goal.returns
returns c = cube_exceeds_is _ _ _ _ _ _ _ c.requires c.ceil_shift-y.ensures c.ceil_shift-z.ensures c.remainder.ensures
