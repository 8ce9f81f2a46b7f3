use Rattle.fields.proofs.Loops.{Got}
use Rattle.fields.proofs.get.Given as goal

abbrev pub invariant-loop-i : goal.invariant-loop-i
invariant-loop-i l = Got l.s l.at l.w l.r l.i
