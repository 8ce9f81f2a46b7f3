use Rattle.incoming.proofs.Incoming.{skipped_none, skipped_more}
use Rattle.incoming.proofs.next_with_in_edges.Goals as goal

pub loop-i-init : goal.loop-i-init
loop-i-init c = search skipped_none

pub loop-i-preserved : goal.loop-i-preserved
loop-i-preserved c = search skipped_more
