use Rattle.trace_reader.proofs.Slotting.{version_put}
use Rattle.trace_reader.proofs.put_record_node.Goals as goal

pub returns : goal.returns
returns c = search version_put
