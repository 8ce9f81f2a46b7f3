use Rattle.lanes.specs.Lanes.{Padded}
use Rattle.lanes.proofs.pad_ends.Given as goal

abbrev pub invariant-loop-l : goal.invariant-loop-l
invariant-loop-l l = Padded l.m l.at l.step l.n l.bits l.l l.b
