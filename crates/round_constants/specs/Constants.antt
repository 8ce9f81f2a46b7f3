-- FIPS 180-4, sections 4.2.2 and 5.3.3: the constants of SHA-256 are digits of roots of the first primes. Assumes nothing.
use Rattle.std.specs.Prelude.{◌≡◌, Bool, true, cond, ◌&&◌, not, ◌⊎◌, List, [], ◌∷◌, map, ℕ, zero, suc, ◌+◌, ◌-◌, ◌*◌, ◌%◌, ◌^◌, ◌<◌, ◌≤◌, eqb, leb}

-- no number from 2 up to d + 1 divides n
unfoldable pub undivided : ℕ → ℕ → Bool
undivided zero n = true
undivided (suc d) n = not (eqb (n % (d + 2)) 0) && undivided d n

unfoldable pub prime : ℕ → Bool
prime n = undivided (n - 2) n

-- the primes among the k numbers from n on
unfoldable pub primes_from : ℕ → ℕ → List ℕ
primes_from zero n = []
primes_from (suc k) n = cond (prime n) (n ∷ primes_from k (suc n)) (primes_from k (suc n))

-- the first 64 primes: those up to 311
unfoldable pub primes : List ℕ
primes = primes_from 310 2

-- the greatest number r + x with x below 2 ^ b and a k-th power of at most n, by its binary digits from the highest
unfoldable pub root_from : ℕ → ℕ → ℕ → ℕ → ℕ
root_from zero r k n = r
root_from (suc b) r k n = root_from b (cond (leb ((r + 2 ^ b) ^ k) n) (r + 2 ^ b) r) k n

-- the greatest whole number whose k-th power is at most n, where it has at most 40 binary digits
unfoldable pub root : ℕ → ℕ → ℕ
root k n = root_from 40 0 k n

-- the first 32 bits of the fractional part of the k-th root of a prime: the low 32 bits of the greatest whole number whose
-- k-th power is at most p * 2 ^ (32 * k)
unfoldable pub fraction : ℕ → ℕ → ℕ
fraction k p = root k (p * 2 ^ (32 * k)) % 2 ^ 32

-- 4.2.2: the 64 constants, from the cube roots of the first 64 primes
unfoldable pub K : List ℕ
K = map (fraction 3) primes

-- ---- what each of them is, said without a computation (request A3; `Roots.each-constant` proves it of K)

-- r is the greatest whole number whose k-th power is at most n
pub record Greatest (k n r : ℕ) : Type 0 where
  pub low : r ^ k ≤ n
  pub high : n < suc r ^ k

-- x is the low 32 bits of the greatest whole number whose k-th power is at most p * 2 ^ (32 * k)
pub record Fraction (k p x : ℕ) : Type 0 where
  pub whole : ℕ
  pub greatest : Greatest k (p * 2 ^ (32 * k)) whole
  pub low : x ≡ whole % 2 ^ 32

-- p is prime: at least 2, and no product but of 1 and itself
pub record IsPrime (p : ℕ) : Type 0 where
  pub low : 2 ≤ p
  pub only : (a b : ℕ) → a * b ≡ p → (a ≡ 1) ⊎ (b ≡ 1)

-- q is the least prime above p
pub record NextPrime (p q : ℕ) : Type 0 where
  pub above : p < q
  pub is_prime : IsPrime q
  pub least : (r : ℕ) → IsPrime r → p < r → q ≤ r

-- p is the prime with i primes below it
pub data NthPrime : ℕ → ℕ → Type 0 where
  first : {p : ℕ} → NextPrime 0 p → NthPrime 0 p
  next : {i p q : ℕ} → NthPrime i p → NextPrime p q → NthPrime (suc i) q

-- x is the round constant at place i: "the low 32 bits of the greatest whole number whose cube is at most its prime times 2^96"
pub record RoundConstant (i x : ℕ) : Type 0 where
  pub p : ℕ
  pub nth : NthPrime i p
  pub bits : Fraction 3 p x
