use Rattle.std.proofs.Common.{◌≡◌, [], ◌∷◌, sym, refl}
use Rattle.round_constants.specs.Constants.{undivided, prime, primes_from, primes, root_from, root, fraction}
use Rattle.sha256.specs.Sha256.{H0}
use Rattle.sha256.proofs.initial.Goals as goal

-- the eight words, tied to their definition by one computation
initial_is : H0 ≡ 0x6a09e667 ∷ 0xbb67ae85 ∷ 0x3c6ef372 ∷ 0xa54ff53a ∷ 0x510e527f ∷ 0x9b05688c ∷ 0x1f83d9ab ∷ 0x5be0cd19 ∷ []
unfolding undivided prime primes_from primes root_from root fraction H0
initial_is = refl

pub returns : goal.returns
returns c = sym initial_is
