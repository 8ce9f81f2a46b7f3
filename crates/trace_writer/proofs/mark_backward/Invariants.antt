use Rattle.trace_writer.proofs.Searching.{BackTurn}
use Rattle.trace_writer.proofs.mark_backward.Given as goal

abbrev pub invariant-loop-i : goal.invariant-loop-i
invariant-loop-i l = BackTurn l.initial.work l.work l.n l.v l.i
