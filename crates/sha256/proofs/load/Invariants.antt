use Rattle.sha256.proofs.Arrays.{Loaded}
use Rattle.sha256.proofs.load.Given as goal

abbrev pub invariant-loop-t : goal.invariant-loop-t
invariant-loop-t l = Loaded l.m l.at l.w l.t
