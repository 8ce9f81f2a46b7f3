use Rattle.std.proofs.Common.{rules}
use Rattle.lanes.proofs.Messages.{initial_lanes}
use Rattle.lanes.proofs.initial.Goals as goal

pub returns : goal.returns
returns c = search (initial_lanes, rules)
