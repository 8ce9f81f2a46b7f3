use Rattle.trace_writer.proofs.Writing.{slot-room, slot_put, slot_empty}
use Rattle.trace_writer.proofs.put_record.Goals as goal

pub put_marked-requires : goal.put_marked-requires
put_marked-requires c = search slot-room

pub returns-then-marked : goal.returns-then-marked
returns-then-marked c = search slot_put

pub returns : goal.returns
returns c = search slot_empty
