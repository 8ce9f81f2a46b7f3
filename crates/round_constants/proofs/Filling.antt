-- The constants one by one. Assumes nothing.
use mathlib.Core.Path.{◌≡◌, refl, sym, ap, ap₂, subst, ◌∙◌}
use mathlib.Core.Bool.{true}
use mathlib.Core.List.{List, [], ◌∷◌, ◌++◌, map, append-nil, append_assoc}
use Prim.Native.Nat.{ℕ, suc, ◌+◌, ◌-◌, ◌*◌, ◌%◌, ◌^◌, ◌≤◌, ◌<◌}
use native.Mathlib.Numerals.{add-one}
use native.Mathlib.Omega.{arith}
use lib.ListN.{length, set, take, replicate, length-set, length-replicate, length-append}
use lib.Seq.{take-suc-set, take_all}
use Rattle.round_constants.specs.Constants.{Greatest, prime, primes_from, primes, fraction, K}
use Rattle.round_constants.specs.Working.{Known, Sieved, Struck, NextUnmarked, SixDigits}
use Rattle.round_constants.proofs.Cubes.{cube_is, cube_small, not_above}
use Rattle.round_constants.proofs.Roots.{greatest_is_root, count}
use Rattle.round_constants.proofs.Sieve.{fresh, sieved-struck, primes-here}

-- ---- one constant

some-root : (n a : ℕ) → 1 ≤ n → Greatest 3 n a → 1 ≤ a
some-root n a h g =
    not_above 1 a
    (λ (z : a < 1).
    let e : a ≡ 0 = omega arith in
    let k : n < (suc 0) ^ 3 = rw e at g.high in
    omega (arith, k))

small-root : (n a m : ℕ) → n < m * m * m → Greatest 3 n a → a < m
small-root n a m h g = cube_small a m (omega (arith, cube_is a, g.low))

pub six_known : (p a : ℕ) → SixDigits p a → Known (p * 262144) a 9
six_known p a f =
    let s : a < 512 = small-root (p * 262144) a 512 (omega (arith, f.high)) f.root in
    record {
      root = f.root;
      some = some-root (p * 262144) a (omega (arith, f.low)) f.root;
      small = omega arith;
      few = omega arith;
    }

pub fifteen_known : (p a b : ℕ) → SixDigits p a → Greatest 3 (p * 262144 * (2 ^ 9 * 2 ^ 9 * 2 ^ 9)) b → Known (p * 35184372088832) b 17
fifteen_known p a b f g =
    let e : p * 262144 * (2 ^ 9 * 2 ^ 9 * 2 ^ 9) ≡ p * 35184372088832 = omega arith in
    let h : Greatest 3 (p * 35184372088832) b = subst (λ (n : ℕ). Greatest 3 n b) e g in
    let s : b < 262144 = small-root (p * 35184372088832) b 262144 (omega (arith, f.high)) h in
    record {
      root = h;
      some = some-root (p * 35184372088832) b (omega (arith, f.low)) h;
      small = omega arith;
      few = omega arith;
    }

pub fraction-is : (p a r : ℕ) → SixDigits p a → Greatest 3 (p * 35184372088832 * (2 ^ 17 * 2 ^ 17 * 2 ^ 17)) r → r % 4294967296 ≡ fraction 3 p
unfolding fraction
fraction-is p a r f g =
    let e : p * 35184372088832 * (2 ^ 17 * 2 ^ 17 * 2 ^ 17) ≡ p * 2 ^ (32 * 3) = omega arith in
    let h : Greatest 3 (p * 2 ^ (32 * 3)) r = subst (λ (n : ℕ). Greatest 3 n r) e g in
    ap (λ (x : ℕ). x % 4294967296) (greatest_is_root 2 (p * 2 ^ (32 * 3)) r (omega (arith, f.high)) h)

-- ---- all of them

-- the constants of the first i primes stand in k; p is the last of them, 1 before the first, and a its root with six digits
pub record Filled (k marks : List ℕ) (p a i : ℕ) : Type 0 where
  pub few : i ≤ 64
  pub long : length k ≡ 64
  pub taken : List ℕ
  pub number : length taken ≡ i
  pub split : primes ≡ taken ++ primes_from (312 - (p + 1)) (p + 1)
  pub same : take i k ≡ map (fraction 3) taken
  pub sieved : Sieved (p + 1) marks
  pub low : 1 ≤ p
  pub high : p < 312
  pub root : a * a * a ≤ p * 262144

pub filled_none : Filled (replicate 64 0) (replicate 312 0) 1 0 0
unfolding primes
filled_none =
    record {
      few = omega arith;
      long = length-replicate {A = ℕ} 64 0;
      taken = [];
      number = refl;
      split = refl;
      same = refl;
      sieved = fresh;
      low = omega arith;
      high = omega arith;
      root = omega arith;
    }

-- there is a prime left
pub next-there : (k marks : List ℕ) (p a i q : ℕ) → Filled k marks p a i → i < 64 → NextUnmarked (p + 1) marks q → q < 312
unfolding primes_from
next-there k marks p a i q f h n =
    not_above (suc q) 312
    (λ (z : 312 < suc q).
    let e : q ≡ 312 = omega (arith, n.high) in
    let s : primes ≡ f.taken ++ primes_from (312 - q) q = f.split ∙ ap (λ (l : List ℕ). f.taken ++ l) n.same in
    let t : primes ≡ f.taken ++ [] = s ∙ rw e in
    let u : length primes ≡ length f.taken = ap length (t ∙ append-nil f.taken) in
    omega (arith, u, count, f.number))

pub next_six : (k marks : List ℕ) (p a i q c : ℕ) → Filled k marks p a i → i < 64 → NextUnmarked (p + 1) marks q → Greatest 3 (q * 262144) c → SixDigits q c
next_six k marks p a i q c f h n g =
    record { low = omega (arith, n.low, f.low); high = next-there k marks p a i q f h n; root = g }

map_snoc : (f : ℕ → ℕ) (l : List ℕ) (x : ℕ) → map f (l ++ (x ∷ [])) ≡ map f l ++ (f x ∷ [])
map_snoc f [] x = refl
map_snoc f (y ∷ l) x = ap (λ (r : List ℕ). f y ∷ r) (map_snoc f l x)

pub filled_more : (k marks marks' : List ℕ) (p a i q c x : ℕ) → Filled k marks p a i → i < 64 → NextUnmarked (p + 1) marks q → Struck q marks marks'
    → Greatest 3 (q * 262144) c → x ≡ fraction 3 q → Filled (set k i x) marks' q c (i + 1)
unfolding prime
filled_more k marks marks' p a i q c x f h n t g e =
    let l : q < 312 = next-there k marks p a i q f h n in
    let two : 2 ≤ q = omega (arith, n.low, f.low) in
    let w : prime q ≡ true = n.sieved.free q (omega arith) l (n.here l) in
    let rest = primes_from (312 - (q + 1)) (q + 1) in
    let s : primes ≡ f.taken ++ (q ∷ rest) = f.split ∙ ap (λ (r : List ℕ). f.taken ++ r) (n.same ∙ primes-here q l w) in
    record {
      few = omega arith;
      long = length-set k i x ∙ f.long;
      taken = f.taken ++ (q ∷ []);
      number = length-append f.taken (q ∷ []) ∙ omega (arith, f.number);
      split = s ∙ sym (append_assoc f.taken (q ∷ []) rest);
      same =
          rw (add-one i)
          (take-suc-set k i x (omega (arith, f.long))
          ∙ ap₂ (λ (r : List ℕ) (y : ℕ). r ++ (y ∷ [])) f.same e
          ∙ sym (map_snoc (fraction 3) f.taken q));
      sieved = sieved-struck q marks marks' two n.sieved t;
      low = omega arith;
      high = l;
      root = omega (arith, cube_is c, g.low);
    }

length_none : (a b : List ℕ) → length (a ++ b) ≡ length a → b ≡ []
length_none a [] h = refl
length_none a (x ∷ b) h = absurd (let e = length-append a (x ∷ b) in let z : ⊥ = omega arith in z)

pub filled-all : (k marks : List ℕ) (p a i : ℕ) → Filled k marks p a i → 64 ≤ i → k ≡ K
unfolding K
filled-all k marks p a i f h =
    let rest = primes_from (312 - (p + 1)) (p + 1) in
    let z : rest ≡ [] = length_none f.taken rest (sym (ap length f.split) ∙ count ∙ omega (arith, f.number, f.few)) in
    let s : primes ≡ f.taken = f.split ∙ ap (λ (l : List ℕ). f.taken ++ l) z ∙ append-nil f.taken in
    sym (take_all i k (omega (arith, f.long))) ∙ f.same ∙ ap (map (fraction 3)) (sym s)
