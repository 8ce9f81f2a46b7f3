use native.Mathlib.Omega.{arith}
use Rattle.round_constants.proofs.Cubes.{remainder_is, cube_is}
use Rattle.round_constants.proofs.remainder.Goals as goal

pub overflow_sub-result : goal.overflow_sub-result
overflow_sub-result c = omega (arith, c.cube.ensures, cube_is c.args.a, c.requires.root.low)

pub returns : goal.returns
returns c = remainder_is _ _ _ _ c.requires c.cube.ensures
