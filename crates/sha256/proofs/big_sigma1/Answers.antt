use Rattle.std.proofs.Common.{arith}
use Rattle.sha256.proofs.Rotations.{nested-Σ1}
use Rattle.sha256.proofs.big_sigma1.Goals as goal

pub returns : goal.returns
returns c = rw (c.rotate_right.ensures, c.rotate_right-3.ensures, c.rotate_right-2.ensures) (nested-Σ1 c.args.x (omega arith))
