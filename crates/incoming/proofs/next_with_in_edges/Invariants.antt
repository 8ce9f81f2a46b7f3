use Rattle.incoming.specs.Groups.{Skipped}
use Rattle.incoming.proofs.next_with_in_edges.Given as goal

abbrev pub invariant-loop-i : goal.invariant-loop-i
invariant-loop-i l = Skipped l.work l.n l.from l.i
