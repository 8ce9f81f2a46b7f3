use Prim.Native.Nat.{◌-◌}
use Rattle.trace_writer.proofs.Records.{Measuring}
use Rattle.trace_writer.proofs.trace_length.Given as goal

abbrev pub invariant-loop-i : goal.invariant-loop-i
invariant-loop-i l = Measuring l.work l.n l.length l.i
