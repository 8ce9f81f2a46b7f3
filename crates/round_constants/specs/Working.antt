-- What the routines that work the constants out ask and leave. Assumes nothing.
use Rattle.std.specs.Prelude.{◌≡◌, true, false, List, ℕ, ◌+◌, ◌-◌, ◌*◌, ◌%◌, ◌^◌, ◌<◌, ◌≤◌, length, get_or}
use Rattle.round_constants.specs.Constants.{Greatest, undivided, primes_from}

-- c is y / 2 ^ b, rounded up
pub record RoundedUp (y b c : ℕ) : Type 0 where
  pub enough : y ≤ c * 2 ^ b
  pub least : c * 2 ^ b < y + 2 ^ b
  pub small : c ≤ y

-- a is the cube root of n, and b digits more are sought
pub record Known (n a b : ℕ) : Type 0 where
  pub root : Greatest 3 n a
  pub some : 1 ≤ a
  pub small : a ≤ 262144
  pub few : b ≤ 17

-- x is tried for them
pub record Tried (n a b x : ℕ) : Type 0 where
  pub known : Known n a b
  pub bound : x ≤ 262144

-- the marks of the numbers from n on, up to 311: marked is what a number from 2 on below n divides
pub record Sieved (n : ℕ) (marks : List ℕ) : Type 0 where
  pub size : length marks ≡ 312
  pub free : (m : ℕ) → n ≤ m → m < 312 → get_or marks m 0 ≡ 0 → undivided (n - 2) m ≡ true
  pub struck : (m : ℕ) → n ≤ m → m < 312 → (get_or marks m 0 ≡ 0 → ⊥) → undivided (n - 2) m ≡ false

-- the multiples of p above it are marked too
pub record Struck (p : ℕ) (marks marks' : List ℕ) : Type 0 where
  pub size : length marks' ≡ 312
  pub hit : (m : ℕ) → p < m → m < 312 → m % p ≡ 0 → get_or marks' m 0 ≡ 1
  pub kept : (m : ℕ) → (m % p ≡ 0 → ⊥) → get_or marks' m 0 ≡ get_or marks m 0

-- r is the first number from n on that is not marked, or 312 where there is none
pub record NextUnmarked (n : ℕ) (marks : List ℕ) (r : ℕ) : Type 0 where
  pub sieved : Sieved r marks
  pub same : primes_from (312 - n) n ≡ primes_from (312 - r) r
  pub low : n ≤ r
  pub high : r ≤ 312
  pub here : r < 312 → get_or marks r 0 ≡ 0

-- a is the cube root of p, a prime up to 311, with six binary digits after the point
pub record SixDigits (p a : ℕ) : Type 0 where
  pub low : 2 ≤ p
  pub high : p < 312
  pub root : Greatest 3 (p * 262144) a
