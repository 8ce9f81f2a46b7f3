use Rattle.std.proofs.Common.{rules}
use Rattle.lanes.specs.Lanes.{state_at}
use Rattle.lanes.proofs.variables.Goals as goal

pub returns : goal.returns
unfolding state_at
returns c = search rules
