use Rattle.std.proofs.Common.{rules}
use Rattle.lanes.proofs.Messages.{all-ended}
use Rattle.lanes.proofs.ended.Goals as goal

pub returns : goal.returns
returns c = search (all-ended, rules)
