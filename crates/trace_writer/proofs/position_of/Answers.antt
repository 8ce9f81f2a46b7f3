use Rattle.trace_writer.proofs.Positions.{slot_position-is}
use Rattle.trace_writer.proofs.position_of.Goals as goal

pub returns : goal.returns
returns c = search slot_position-is
