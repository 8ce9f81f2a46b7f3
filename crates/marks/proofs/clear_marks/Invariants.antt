use Prim.Native.Nat.{◌-◌}
use Rattle.marks.proofs.Marking.{Clearing}
use Rattle.marks.proofs.clear_marks.Given as goal

abbrev pub invariant-loop-i : goal.invariant-loop-i
invariant-loop-i l = Clearing l.initial.work l.work l.n l.i
