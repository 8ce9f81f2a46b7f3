use Rattle.checker.proofs.Referring.{Referring}
use Rattle.checker.proofs.find_unreferenced_backward.Given as goal

abbrev pub invariant-loop-i : goal.invariant-loop-i
invariant-loop-i l = Referring l.initial.work l.work l.n l.i l.lowest
