use Rattle.round_constants.proofs.Filling.{Filled}
use Rattle.round_constants.proofs.work_out.Given as goal

abbrev pub invariant-loop-i : goal.invariant-loop-i
invariant-loop-i l = Filled l.k l.marks l.p l.a l.i
