use Rattle.lanes.proofs.Messages.{Filled}
use Rattle.lanes.proofs.initial.Given as goal

abbrev pub invariant-loop-i : goal.invariant-loop-i
invariant-loop-i l = Filled l.h l.i l.r
