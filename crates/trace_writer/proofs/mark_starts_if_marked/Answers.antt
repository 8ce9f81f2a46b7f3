use Rattle.trace_writer.proofs.Edges.{spread_marked, spread_none}
use Rattle.trace_writer.proofs.mark_starts_if_marked.Goals as goal

pub returns-then-marked : goal.returns-then-marked
returns-then-marked c = search spread_marked

pub returns : goal.returns
returns c = search spread_none
