use Rattle.round_constants.proofs.Sieve.{seeking_more}
use Rattle.round_constants.proofs.next_prime.Goals as goal

pub loop-n-preserved : goal.loop-n-preserved
loop-n-preserved c = search seeking_more
