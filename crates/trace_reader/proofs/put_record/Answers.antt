use Rattle.trace_reader.proofs.Slotting.{record_put}
use Rattle.trace_reader.proofs.put_record.Goals as goal

pub returns : goal.returns
returns c = search record_put
