use Rattle.incoming.proofs.Incoming.{Entering}
use Rattle.incoming.proofs.fill_entries.Given as goal

abbrev pub invariant-loop-i : goal.invariant-loop-i
invariant-loop-i l = Entering l.initial.work l.work l.n l.i
