use Rattle.std.proofs.Common.{rules}
use Rattle.lanes.proofs.Places.{turned_more}
use Rattle.lanes.proofs.turn.Goals as goal

pub loop-i-preserved : goal.loop-i-preserved
loop-i-preserved c = search (turned_more, rules)
