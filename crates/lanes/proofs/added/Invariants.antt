use Rattle.lanes.specs.Lanes.{Added}
use Rattle.lanes.proofs.added.Given as goal

abbrev pub invariant-loop-i : goal.invariant-loop-i
invariant-loop-i l = Added l.h l.a l.e l.i l.r
