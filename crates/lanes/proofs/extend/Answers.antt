use Rattle.std.proofs.Common.{rules}
use Rattle.lanes.proofs.Places.{spread_more}
use Rattle.lanes.proofs.extend.Goals as goal

pub loop-i-preserved : goal.loop-i-preserved
loop-i-preserved c = search (spread_more, rules)
