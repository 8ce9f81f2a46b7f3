use Rattle.trace_writer.proofs.Writing.{position_put}
use Rattle.trace_writer.proofs.put_position.Goals as goal

pub returns : goal.returns
returns c = search position_put
