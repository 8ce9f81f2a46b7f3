use Rattle.std.proofs.Common.{arith}
use Rattle.sha256.proofs.Rotations.{nested-σ0}
use Rattle.sha256.proofs.small_sigma0.Goals as goal

pub returns : goal.returns
returns c = rw (c.rotate_right-2.ensures, c.rotate_right.ensures) (nested-σ0 c.args.x (omega arith))
