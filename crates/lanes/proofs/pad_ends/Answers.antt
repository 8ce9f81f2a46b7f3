use Rattle.std.proofs.Common.{arith, rules}
use Rattle.lanes.proofs.Places.{row_fits}
use Rattle.lanes.proofs.Messages.{padded-none, padded-more}
use Rattle.lanes.proofs.pad_ends.Goals as goal

pub loop-l-init : goal.loop-l-init
loop-l-init c = search (padded-none, rules)

pub loop-l-preserved : goal.loop-l-preserved
loop-l-preserved c = let l = c.loop-l in padded-more _ c.args.at c.args.step c.args.n _ l.l _ _ (omega arith) c.requires.1.0 (row_fits c.args.at c.args.step l.l c.args.n _ (omega arith) c.requires.1.1) c.pad_one.ensures l.invariant
