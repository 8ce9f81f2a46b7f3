use Rattle.std.proofs.Common.{arith}
use Rattle.sha256.proofs.Bits.{short-Maj}
use Rattle.sha256.proofs.majority.Goals as goal

pub returns : goal.returns
returns c = short-Maj c.args.x c.args.y c.args.z (omega arith) (omega arith) (omega arith)
