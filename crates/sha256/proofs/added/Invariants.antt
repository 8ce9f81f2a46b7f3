use Rattle.sha256.proofs.Arrays.{Added}
use Rattle.sha256.proofs.added.Given as goal

abbrev pub invariant-loop-i : goal.invariant-loop-i
invariant-loop-i l = Added l.h l.v l.r l.i
