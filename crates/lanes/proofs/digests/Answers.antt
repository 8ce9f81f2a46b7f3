use Rattle.std.proofs.Common.{rules}
use Rattle.lanes.proofs.Messages.{first_of_eight}
use Rattle.lanes.proofs.digests.Goals as goal

pub returns : goal.returns
returns c = search (first_of_eight, rules)
