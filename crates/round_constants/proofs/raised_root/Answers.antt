use native.Mathlib.Omega.{arith}
use Rattle.round_constants.proofs.Cubes.{raised_is}
use Rattle.round_constants.proofs.raised_root.Goals as goal

pub returns : goal.returns
returns c = (raised_is _ _ c.loop-r.invariant.0 (omega (arith, c.cube.ensures, c.loop-r-test.false)), c.loop-r.invariant.1)
