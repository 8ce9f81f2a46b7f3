use Rattle.incoming.proofs.Incoming.{entries_none, entries-more, entries-all}
use Rattle.incoming.proofs.fill_entries.Goals as goal

pub loop-i-init : goal.loop-i-init
loop-i-init c = search entries_none

pub loop-i-preserved : goal.loop-i-preserved
loop-i-preserved c = search entries-more

pub shape_of-work : goal.shape_of-work
shape_of-work c = c.loop-i.invariant.done.kept.size

pub returns : goal.returns
returns c = search entries-all
