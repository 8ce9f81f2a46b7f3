use Prim.Native.Nat.{◌-◌}
use Rattle.trace_writer.proofs.Positions.{Positioning}
use Rattle.trace_writer.proofs.set_positions.Given as goal

abbrev pub invariant-loop-i : goal.invariant-loop-i
invariant-loop-i l = Positioning l.initial.work l.work l.n l.position l.i
