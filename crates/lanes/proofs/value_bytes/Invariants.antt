use Rattle.lanes.proofs.Messages.{Spelling}
use Rattle.lanes.proofs.value_bytes.Given as goal

abbrev pub invariant-loop-l : goal.invariant-loop-l
invariant-loop-l l = Spelling l.h l.d l.l
