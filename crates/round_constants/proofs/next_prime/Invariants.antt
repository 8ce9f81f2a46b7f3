use Rattle.round_constants.proofs.Sieve.{Seeking}
use Rattle.round_constants.proofs.next_prime.Given as goal

abbrev pub invariant-loop-n : goal.invariant-loop-n
invariant-loop-n l = Seeking l.from l.marks l.n
