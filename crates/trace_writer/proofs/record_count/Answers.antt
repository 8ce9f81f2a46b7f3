use Rattle.trace_writer.proofs.Positions.{count-one, count_none}
use Rattle.trace_writer.proofs.record_count.Goals as goal

pub returns-then-marked : goal.returns-then-marked
returns-then-marked c = search count-one

pub returns : goal.returns
returns c = search count_none
