use Rattle.lanes.specs.Lanes.{Begun}
use Rattle.lanes.proofs.begin.Given as goal

abbrev pub invariant-loop-i : goal.invariant-loop-i
invariant-loop-i l = Begun l.h l.from l.i l.a
