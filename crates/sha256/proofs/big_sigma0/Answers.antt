use Rattle.std.proofs.Common.{arith}
use Rattle.sha256.proofs.Rotations.{nested-Σ0}
use Rattle.sha256.proofs.big_sigma0.Goals as goal

pub returns : goal.returns
returns c = rw (c.rotate_right-3.ensures, c.rotate_right-2.ensures, c.rotate_right.ensures) (nested-Σ0 c.args.x (omega arith))
