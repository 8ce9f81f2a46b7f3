-- The sieve: what is marked is what a smaller number divides. Assumes nothing.
use mathlib.Core.Path.{◌≡◌, refl, sym, ap, ◌∙◌}
use mathlib.Core.Bool.{Bool, true, false, not, ◌&&◌}
use mathlib.Core.Logic.{⊎_elim}
use mathlib.Core.List.{List, ◌∷◌}
use Prim.Native.Nat.{ℕ, zero, suc, ◌+◌, ◌-◌, ◌*◌, ◌/◌, ◌%◌, ◌≤◌, ◌<◌}
use native.Mathlib.Nat.{div-add-mod', mul-le-mul_right, lt_of_mul-lt-mul_right, mod_self, add-mul-mod_self_right, mul-mod_left, eq-zero-or-pos}
use native.Mathlib.Numerals.{add-one}
use native.Mathlib.Omega.{arith}
use lib.Dec.{eqb}
use lib.ListN.{length, get_or, set, replicate, length-set, length-replicate, get_or-replicate}
use lib.Seq.{get_or-set_same, get_or-set_other}
use borrow.Author.Tests.{eq-eqb, ne_eqb, eqb-false}
use Rattle.round_constants.specs.Constants.{undivided, prime, primes_from}
use Rattle.round_constants.specs.Working.{Sieved, Struck, NextUnmarked}
use Rattle.round_constants.proofs.Primes.{clash, and_true}

-- what divides a divisor divides the number
through : (d n m : ℕ) → m % n ≡ 0 → n % d ≡ 0 → m % d ≡ 0
through d n m h k =
    let a : m / n * n + 0 ≡ m = rw h at (div-add-mod' m n) in
    let b : n / d * d + 0 ≡ n = rw k at (div-add-mod' n d) in
    let e : m ≡ m / n * (n / d) * d = omega (arith, a, ap (λ (x : ℕ). m / n * x) b) in
    ap (λ (x : ℕ). x % d) e ∙ mul-mod_left (m / n * (n / d)) d

-- a multiple without small divisors: the number has none
undivided-part : (d n m : ℕ) → m % n ≡ 0 → undivided d m ≡ true → undivided d n ≡ true
unfolding undivided
undivided-part zero n m h t = refl
undivided-part (suc d) n m h t =
    let p = and_true (eqb (m % (d + 2)) 0) (undivided d m) t in
    let e : eqb (n % (d + 2)) 0 ≡ false = ne_eqb (n % (d + 2)) 0 (λ k. eqb-false (m % (d + 2)) 0 p.0 (through (d + 2) n m h k)) in
    rw (e, undivided-part d n m h p.1)

one_more : (n m : ℕ) → 2 ≤ n → undivided (n + 1 - 2) m ≡ (not (eqb (m % n) 0) && undivided (n - 2) m)
unfolding undivided
one_more n m h =
    let e : n + 1 - 2 ≡ suc (n - 2) = omega arith in
    let f : n - 2 + 2 ≡ n = omega arith in
    rw (e, undivided, f)

no_more : (n m : ℕ) → 2 ≤ n → m % n ≡ 0 → undivided (n + 1 - 2) m ≡ false
no_more n m h k = one_more n m h ∙ rw (eq-eqb (m % n) 0 k)

not_divided : (n m : ℕ) → 2 ≤ n → (m % n ≡ 0 → ⊥) → undivided (n + 1 - 2) m ≡ undivided (n - 2) m
not_divided n m h k = one_more n m h ∙ rw (ne_eqb (m % n) 0 k)

and_false : (a : Bool) → (a && false) ≡ false
and_false true = refl
and_false false = refl

-- ---- the marks of a fresh sieve

pub fresh : Sieved 2 (replicate 312 0)
unfolding undivided
fresh =
    record {
      size = length-replicate {A = ℕ} 312 0;
      free = λ m l h z. refl;
      struck = λ m l h z. absurd (z (get_or-replicate 312 m 0 0 h));
    }

-- ---- one number more

sieved_skip : (n : ℕ) (marks : List ℕ) → 2 ≤ n → n < 312 → Sieved n marks → (get_or marks n 0 ≡ 0 → ⊥) → Sieved (n + 1) marks
sieved_skip n marks h k s z =
    record {
      size = s.size;
      free = λ m l u y.
          let t : undivided (n - 2) m ≡ true = s.free m (omega arith) u y in
          not_divided n m h (λ d. clash (undivided (n - 2) n) (undivided-part (n - 2) n m d t) (s.struck n (omega arith) k z)) ∙ t;
      struck = λ m l u y. one_more n m h ∙ ap (λ (b : Bool). not (eqb (m % n) 0) && b) (s.struck m (omega arith) u y) ∙ and_false (not (eqb (m % n) 0));
    }

pub sieved-struck : (p : ℕ) (marks marks' : List ℕ) → 2 ≤ p → Sieved p marks → Struck p marks marks' → Sieved (p + 1) marks'
sieved-struck p marks marks' h s t =
    record {
      size = t.size;
      free = λ m l u y.
          ⊎_elim
          (λ (d : m % p ≡ 0). absurd (let z : get_or marks' m 0 ≡ 1 = t.hit m (omega arith) u d in omega arith))
          (λ (d : 0 < m % p).
          let n : m % p ≡ 0 → ⊥ = λ e. omega arith in
          not_divided p m h n ∙ s.free m (omega arith) u (sym (t.kept m n) ∙ y))
          (eq-zero-or-pos (m % p));
      struck = λ m l u y.
          ⊎_elim
          (λ (d : m % p ≡ 0). no_more p m h d)
          (λ (d : 0 < m % p).
          let n : m % p ≡ 0 → ⊥ = λ e. omega arith in
          not_divided p m h n ∙ s.struck m (omega arith) u (λ z. y (t.kept m n ∙ z)))
          (eq-zero-or-pos (m % p));
    }

-- ---- the next number that is not marked

primes_skip : (n : ℕ) → n < 312 → prime n ≡ false → primes_from (312 - n) n ≡ primes_from (312 - (n + 1)) (n + 1)
unfolding primes_from
primes_skip n h p =
    let e : 312 - n ≡ suc (312 - (n + 1)) = omega arith in
    rw (e, primes_from, p, add-one n)

pub primes-here : (n : ℕ) → n < 312 → prime n ≡ true → primes_from (312 - n) n ≡ n ∷ primes_from (312 - (n + 1)) (n + 1)
unfolding primes_from
primes-here n h p =
    let e : 312 - n ≡ suc (312 - (n + 1)) = omega arith in
    rw (e, primes_from, p, add-one n)

pub record Seeking (from : ℕ) (marks : List ℕ) (n : ℕ) : Type 0 where
  pub sieved : Sieved n marks
  pub same : primes_from (312 - from) from ≡ primes_from (312 - n) n
  pub two : 2 ≤ n
  pub low : from ≤ n
  pub high : n ≤ 312

pub seeking_none : (from : ℕ) (marks : List ℕ) → Sieved from marks → 2 ≤ from → from ≤ 312 → Seeking from marks from
seeking_none from marks s h k = record { sieved = s; same = refl; two = h; low = omega arith; high = k }

pub seeking_more : (from : ℕ) (marks : List ℕ) (n : ℕ) → Seeking from marks n → n < 312 → (get_or marks n 0 ≡ 0 → ⊥) → Seeking from marks (n + 1)
unfolding prime
seeking_more from marks n s h z =
    record {
      sieved = sieved_skip n marks s.two h s.sieved z;
      same = s.same ∙ primes_skip n h (s.sieved.struck n (omega arith) h z);
      two = omega (arith, s.two);
      low = omega (arith, s.low);
      high = omega arith;
    }

-- ---- marking the multiples

between : (p m j : ℕ) → m % p ≡ 0 → j % p ≡ 0 → m < j → j < m + p → ⊥
between p m j h k l u =
    let a : m / p * p + 0 ≡ m = rw h at (div-add-mod' m p) in
    let b : j / p * p + 0 ≡ j = rw k at (div-add-mod' j p) in
    let q : m / p < j / p = lt_of_mul-lt-mul_right p (omega arith) in
    omega (arith, mul-le-mul_right p q)

pub record Striking (p : ℕ) (marks₀ marks : List ℕ) (m : ℕ) : Type 0 where
  pub size : length marks ≡ 312
  pub multiple : m % p ≡ 0
  pub pos : 1 ≤ p
  pub small : p < 312
  pub low : p < m
  pub hit : (j : ℕ) → p < j → j < m → j < 312 → j % p ≡ 0 → get_or marks j 0 ≡ 1
  pub kept : (j : ℕ) → (j % p ≡ 0 → ⊥) → get_or marks j 0 ≡ get_or marks₀ j 0
