use Prim.Native.Nat.{◌-◌}
use Rattle.trace_writer.proofs.Searching.{ForTurn}
use Rattle.trace_writer.proofs.mark_forward.Given as goal

abbrev pub invariant-loop-i : goal.invariant-loop-i
invariant-loop-i l = ForTurn l.initial.work l.work l.n l.v l.i
