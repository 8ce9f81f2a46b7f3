use Rattle.question.specs.Ways.{way_of}
use Prim.Native.Nat.{◌-◌}
use Rattle.trace_writer.proofs.Writing.{Filling}
use Rattle.trace_writer.proofs.put_records.Given as goal

abbrev pub invariant-loop-i : goal.invariant-loop-i
invariant-loop-i l = Filling (way_of l.way) l.work l.n l.initial.out l.out l.at l.i
