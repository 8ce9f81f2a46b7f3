use Rattle.lanes.proofs.Messages.{Digested}
use Rattle.lanes.proofs.one_by_one.Given as goal

abbrev pub invariant-loop-l : goal.invariant-loop-l
invariant-loop-l l = Digested l.m l.step l.n l.count l.d l.l
