-- The computed test for a prime is the definition, and the computed list has each prime in its place. Assumes nothing.
use mathlib.Core.Path.{◌≡◌, refl, sym, ap, subst, ◌∙◌}
use mathlib.Core.Bool.{Bool, true, false, cond, not, ◌&&◌}
use mathlib.Core.Logic.{◌⊎◌, inl, inr, ⊎_elim}
use mathlib.Core.List.{List, ◌∷◌}
use Prim.Native.Nat.{ℕ, zero, suc, ◌+◌, ◌-◌, ◌*◌, ◌/◌, ◌%◌, ◌≤◌, ◌<◌}
use native.Mathlib.Nat.{div-add-mod', mul-mod_left, mul_comm, mul-le-mul_left, zero-add, eq-zero-or-pos}
use native.Mathlib.Omega.{arith}
use lib.Dec.{eqb}
use lib.ListN.{length, get_or}
use borrow.Author.Tests.{ne_eqb, eqb-false}
use Rattle.round_constants.specs.Constants.{undivided, prime, primes_from, primes, IsPrime, NextPrime, NthPrime, first, next}

-- ---- the test is the definition

pub clash : (b : Bool) → b ≡ true → b ≡ false → ⊥
clash b p q = let z : ◌≡◌ {A = ℕ} 0 1 = cc in omega arith

pub and_true : (a b : Bool) → (not a && b) ≡ true → (a ≡ false) × (b ≡ true)
and_true true b h = absurd (clash false h refl)
and_true false b h = (refl, h)

undivided_tried : (d n e : ℕ) → undivided d n ≡ true → 2 ≤ e → e < d + 2 → n % e ≡ 0 → ⊥
unfolding undivided
undivided_tried zero n e t l h z = omega arith
undivided_tried (suc d) n e t l h z =
    let p = and_true (eqb (n % (d + 2)) 0) (undivided d n) t in
    ⊎_elim
    (λ (x : d + 2 - e ≡ 0). let y : e ≡ d + 2 = omega arith in eqb-false (n % (d + 2)) 0 p.0 (subst (λ (m : ℕ). n % m ≡ 0) y z))
    (λ (x : 0 < d + 2 - e). undivided_tried d n e p.1 l (omega arith) z)
    (eq-zero-or-pos (d + 2 - e))

tried_undivided : (d n : ℕ) → ((e : ℕ) → 2 ≤ e → e < d + 2 → n % e ≡ 0 → ⊥) → undivided d n ≡ true
unfolding undivided
tried_undivided zero n f = refl
tried_undivided (suc d) n f =
    rw (ne_eqb (n % (d + 2)) 0 (f (d + 2) (omega arith) (omega arith)), tried_undivided d n (λ e l h. f e l (omega arith)))

below_2 : (a : ℕ) → (a ≡ 0) ⊎ ((a ≡ 1) ⊎ (2 ≤ a))
below_2 zero = inl refl
below_2 (suc zero) = inr (inl refl)
below_2 (suc (suc a)) = inr (inr (omega arith))

-- a product of two numbers from 2 on is divided
split_divided : (n a b : ℕ) → prime n ≡ true → a * b ≡ n → 2 ≤ a → 2 ≤ b → ⊥
unfolding prime
split_divided n a b t e l h =
    let less : a < n = omega (arith, mul-le-mul_left a h) in
    undivided_tried (n - 2) n a t l (omega arith) (ap (λ (m : ℕ). m % a) (sym e ∙ mul_comm a b) ∙ mul-mod_left b a)

prime-is : (n : ℕ) → 2 ≤ n → prime n ≡ true → IsPrime n
prime-is n two t =
    record {
      low = two;
      only = λ a b e.
          ⊎_elim
          (λ (x : a ≡ 0). absurd (let y : 0 * b ≡ n = rw x at e in omega (arith, y)))
          (⊎_elim
          (λ (x : a ≡ 1). inl x)
          (λ (x : 2 ≤ a).
          ⊎_elim
          (λ (y : b ≡ 0). absurd (let z : a * 0 ≡ n = rw y at e in omega (arith, z)))
          (⊎_elim (λ (y : b ≡ 1). inr y) (λ (y : 2 ≤ b). absurd (split_divided n a b t e x y)))
          (below_2 b)))
          (below_2 a);
    }

is_prime : (n : ℕ) → IsPrime n → prime n ≡ true
unfolding prime
is_prime n p =
    tried_undivided (n - 2) n
    (λ e l h z.
    let d : n / e * e + 0 ≡ n = rw z at (div-add-mod' n e) in
    ⊎_elim
    (λ (x : n / e ≡ 1). let y : 1 * e + 0 ≡ n = rw x at d in omega (arith, y, p.low))
    (λ (x : e ≡ 1). omega arith)
    (p.only (n / e) e (omega (arith, d))))

-- ---- each in its place

-- the list has prime number i and those that follow it
abbrev Placed : List ℕ → ℕ → Type 0
Placed l i = (j : ℕ) → j < length l → NthPrime (i + j) (get_or l j 0)

one_placed : (n i : ℕ) (rest : List ℕ) → NthPrime i n → Placed rest (suc i) → Placed (n ∷ rest) i
one_placed n i rest p f zero h = subst (λ (m : ℕ). NthPrime m n) (let z : i ≡ i + 0 = omega arith in z) p
one_placed n i rest p f (suc j) h = subst (λ (m : ℕ). NthPrime m (get_or rest j 0)) (let z : suc i + j ≡ i + suc j = omega arith in z) (f j (omega arith))

by_test : (b : Bool) (n i : ℕ) (rest : List ℕ) → (b ≡ true → Placed (n ∷ rest) i) → (b ≡ false → Placed rest i) → Placed (cond b (n ∷ rest) rest) i
by_test true n i rest f g = f refl
by_test false n i rest f g = g refl

-- the primes among the k numbers from n on, where none lies between p and n, and the next one above p is prime number i
placed-from : (k n i p : ℕ) → 2 ≤ n → p < n → ((r : ℕ) → IsPrime r → p < r → n ≤ r) → ((q : ℕ) → NextPrime p q → NthPrime i q)
    → Placed (primes_from k n) i
unfolding primes_from
placed-from zero n i p two l none make = λ j h. absurd (let z : ⊥ = omega arith in z)
placed-from (suc k) n i p two l none make =
    by_test (prime n) n i (primes_from k (suc n))
    (λ t.
    let here = make n (record { above = l; is_prime = prime-is n two t; least = none }) in
    one_placed n i (primes_from k (suc n)) here (placed-from k (suc n) (suc i) n (omega arith) (omega arith) (λ r x y. omega arith) (λ q. next here)))
    (λ t.
    placed-from k (suc n) i p (omega arith) (omega arith)
    (λ r x y.
    ⊎_elim
    (λ (z : r - n ≡ 0). absurd (let e : r ≡ n = omega (arith, none r x y) in clash (prime r) (is_prime r x) (ap prime e ∙ t)))
    (λ (z : 0 < r - n). omega arith)
    (eq-zero-or-pos (r - n)))
    make)

pub nth-prime : (i : ℕ) → i < length primes → NthPrime i (get_or primes i 0)
unfolding primes
nth-prime i h = rw zero-add at (placed-from 310 2 0 0 (omega arith) (omega arith) (λ r x y. x.low) (λ q. first) i h)

-- ---- one number in each place

one-next : (p q r : ℕ) → NextPrime p q → NextPrime p r → q ≡ r
one-next p q r x y = omega (arith, x.least r y.is_prime y.above, y.least q x.is_prime x.above)

pub one-nth : (i p q : ℕ) → NthPrime i p → NthPrime i q → p ≡ q
one-nth zero p q (first x) (first y) = one-next 0 p q x y
one-nth (suc i) p q (next {p = a} m x) (next {p = b} n y) = one-next a p q x (subst (λ (c : ℕ). NextPrime c q) (sym (one-nth i a b m n)) y)
