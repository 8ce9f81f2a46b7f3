use Rattle.trace_writer.proofs.Writing.{length_set_byte, records-room, records_ask, trace-size, trace_put}
use native.Mathlib.Omega.{arith}
use Rattle.trace_writer.proofs.write.Goals as goal

pub bounds-out-0 : goal.bounds-out-0
bounds-out-0 c = omega (arith, records-room _ _ _ c.args.out.now c.requires)

pub put_u32-requires : goal.put_u32-requires
put_u32-requires c =
    omega (arith, records-room _ _ _ c.args.out.now c.requires, length_set_byte c.args.out.now 0 c.trace_letter.result)

pub put_records-requires : goal.put_records-requires
put_records-requires c =
    records_ask _ _ _ c.args.out.now c.requires _ _ _ c.put_u32.ensures

pub shape_of-out : goal.shape_of-out
shape_of-out c =
    trace-size _ _ _ c.args.out.now c.requires _ _ _ c.put_u32.ensures _ c.put_records.ensures

pub returns : goal.returns
returns c =
    trace_put _ _ _ c.args.out.now c.requires _ _ _ c.put_u32.ensures _ c.trace_letter.ensures c.count_of.ensures c.put_records.ensures
