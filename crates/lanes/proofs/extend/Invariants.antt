use Rattle.lanes.specs.Lanes.{Spread}
use Rattle.lanes.proofs.extend.Given as goal

abbrev pub invariant-loop-i : goal.invariant-loop-i
invariant-loop-i l = Spread l.initial.w l.i l.w
