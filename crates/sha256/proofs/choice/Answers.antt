use Rattle.std.proofs.Common.{arith}
use Rattle.sha256.proofs.Bits.{short-Ch}
use Rattle.sha256.proofs.choice.Goals as goal

pub returns : goal.returns
returns c = short-Ch c.args.x c.args.y c.args.z (omega arith) (omega arith) (omega arith)
