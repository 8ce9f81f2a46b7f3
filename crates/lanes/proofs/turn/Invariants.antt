use Rattle.lanes.specs.Lanes.{Turned}
use Rattle.lanes.proofs.turn.Given as goal

abbrev pub invariant-loop-i : goal.invariant-loop-i
invariant-loop-i l = Turned l.k l.w l.initial.a l.initial.e l.i l.a l.e
