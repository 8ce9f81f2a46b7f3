use Rattle.sha256.proofs.Arrays.{Spelled}
use Rattle.sha256.proofs.word_bytes.Given as goal

abbrev pub invariant-loop-i : goal.invariant-loop-i
invariant-loop-i l = Spelled l.h l.d l.i
