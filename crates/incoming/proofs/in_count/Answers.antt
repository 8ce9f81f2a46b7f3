use Rattle.incoming.proofs.Strings.{in_count_is}
use Rattle.incoming.proofs.in_count.Goals as goal

pub returns : goal.returns
returns c = in_count_is c.args.work.now c.args.i _ _ _ _ c.previous_of.ensures c.edge_count.ensures.1 c.source_of.ensures c.edge_count-2.ensures.1
