use Rattle.std.proofs.Common.{rules}
use Rattle.sha256.proofs.Arrays.{loaded_none, loaded_more}
use Rattle.sha256.proofs.load.Goals as goal

pub loop-t-init : goal.loop-t-init
loop-t-init c = search (loaded_none, rules)

pub loop-t-preserved : goal.loop-t-preserved
loop-t-preserved c = search loaded_more
