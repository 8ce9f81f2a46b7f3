use Rattle.sha256.proofs.Messages.{Passed}
use Rattle.sha256.proofs.blocks.Given as goal

abbrev pub invariant-loop-j : goal.invariant-loop-j
invariant-loop-j l = Passed l.m l.at l.n l.initial.x l.x l.j
