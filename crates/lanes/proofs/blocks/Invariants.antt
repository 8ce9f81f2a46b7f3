use Rattle.lanes.proofs.Messages.{AllPassed}
use Rattle.lanes.proofs.blocks.Given as goal

abbrev pub invariant-loop-j : goal.invariant-loop-j
invariant-loop-j l = AllPassed l.m l.at l.step l.n l.initial.x l.x l.j
