use Rattle.std.proofs.Common.{rules}
use Rattle.lanes.specs.Lanes.{lane}
use Rattle.lanes.proofs.words_of.Goals as goal

pub returns : goal.returns
unfolding lane
returns c = search rules
