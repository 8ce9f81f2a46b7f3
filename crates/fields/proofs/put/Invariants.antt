use Rattle.fields.proofs.Loops.{Put}
use Rattle.fields.proofs.put.Given as goal

abbrev pub invariant-loop-i : goal.invariant-loop-i
invariant-loop-i l = Put l.initial.s l.at l.w l.n l.s l.m l.i
