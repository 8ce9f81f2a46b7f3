use Rattle.std.proofs.Common.{rules}
use Rattle.lanes.proofs.Messages.{spelling_none, spelling_more}
use Rattle.lanes.proofs.value_bytes.Goals as goal

pub loop-l-init : goal.loop-l-init
loop-l-init c = search (spelling_none, rules)

pub loop-l-preserved : goal.loop-l-preserved
loop-l-preserved c = search (spelling_more, rules)
