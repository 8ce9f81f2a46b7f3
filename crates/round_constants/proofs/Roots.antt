-- The constants are what section 4.2.2 says: digits of roots, of the first 64 primes. Assumes nothing.
use mathlib.Core.Path.{◌≡◌, refl, sym, ap, subst, ◌∙◌}
use mathlib.Core.Bool.{Bool, true, false, cond, not}
use Prim.Native.Nat.{ℕ, zero, suc, ◌+◌, ◌*◌, ◌%◌, ◌^◌, ◌≤◌, ◌<◌}
use native.Mathlib.Nat.{add_assoc, zero-add, mul-zero, pow-suc, two-pow-succ, pow-le-pow_left, lt_of_not-le}
use native.Mathlib.Numerals.{add-one}
use native.Mathlib.Omega.{arith}
use lib.Dec.{T, leb, leb→le, nleb→lt}
use lib.ListN.{length, get_or}
use mathlib.Core.List.{List, [], ◌∷◌, map}
use Rattle.round_constants.specs.Constants.{undivided, prime, primes_from, primes, root_from, root, fraction, K, Greatest, Fraction, RoundConstant}
use Rattle.round_constants.proofs.Primes.{nth-prime, one-nth}

pick : (b : ℕ) (test : Bool) (r k n : ℕ) → (T test → (r + 2 ^ b) ^ k ≤ n) → (T (not test) → n < (r + 2 ^ b) ^ k)
    → r ^ k ≤ n → n < (r + 2 ^ suc b) ^ k → ((x : ℕ) → x ^ k ≤ n → n < (x + 2 ^ b) ^ k → Greatest k n (root_from b x k n))
    → Greatest k n (root_from b (cond test (r + 2 ^ b) r) k n)
pick b true r k n p q l h next =
    let e : r + 2 ^ suc b ≡ r + 2 ^ b + 2 ^ b = ap (λ (x : ℕ). r + x) (two-pow-succ b) ∙ sym (add_assoc r (2 ^ b) (2 ^ b)) in
    next (r + 2 ^ b) (p tt) (rw e at h)
pick b false r k n p q l h next = next r l (q tt)

rootFrom-greatest : (b r k n : ℕ) → r ^ k ≤ n → n < (r + 2 ^ b) ^ k → Greatest k n (root_from b r k n)
unfolding root_from
rootFrom-greatest zero r k n l h = record { low = l; high = rw (add-one r) at h }
rootFrom-greatest (suc b) r k n l h =
    pick b (leb ((r + 2 ^ b) ^ k) n) r k n (leb→le ((r + 2 ^ b) ^ k) n) (nleb→lt ((r + 2 ^ b) ^ k) n) l h (λ x. rootFrom-greatest b x k n)

pub root-greatest : (k n : ℕ) → n < (2 ^ 40) ^ suc k → Greatest (suc k) n (root (suc k) n)
unfolding root
root-greatest k n h =
    let low : 0 ^ suc k ≤ n = rw (pow-suc 0 k, mul-zero) (omega arith) in
    rootFrom-greatest 40 0 (suc k) n low (rw zero-add h)

pub fraction-greatest : (k p : ℕ) → p * 2 ^ (32 * suc k) < (2 ^ 40) ^ suc k → Fraction (suc k) p (fraction (suc k) p)
unfolding fraction
fraction-greatest k p h =
    record { whole = root (suc k) (p * 2 ^ (32 * suc k)); greatest = root-greatest k (p * 2 ^ (32 * suc k)) h; low = refl }

-- 64 primes
pub count : length primes ≡ 64
unfolding undivided prime primes_from primes
count = refl

not_greater : (k n r s : ℕ) → Greatest (suc k) n r → Greatest (suc k) n s → r ≤ s
not_greater k n r s g h =
    let l : r < suc s = lt_of_not-le (λ (l : suc s ≤ r). omega (arith, pow-le-pow_left l (suc k), g.low, h.high)) in
    omega arith

-- there is but one
pub one-greatest : (k n r s : ℕ) → Greatest (suc k) n r → Greatest (suc k) n s → r ≡ s
one-greatest k n r s g h = omega (arith, not_greater k n r s g h, not_greater k n s r h g)

pub greatest_is_root : (k n r : ℕ) → n < (2 ^ 40) ^ suc k → Greatest (suc k) n r → r ≡ root (suc k) n
greatest_is_root k n r h g = one-greatest k n r (root (suc k) n) g (root-greatest k n h)

-- ---- every constant

below_both : (b : Bool) (n m : ℕ) (l : List ℕ) (i : ℕ) → n ≤ m → ((j : ℕ) → get_or l j 0 ≤ m) → get_or (cond b (n ∷ l) l) i 0 ≤ m
below_both true n m l zero h r = h
below_both true n m l (suc i) h r = r i
below_both false n m l i h r = r i

primes-below : (k n m i : ℕ) → n + k ≤ m → get_or (primes_from k n) i 0 ≤ m
unfolding primes_from
primes-below zero n m i h = omega arith
primes-below (suc k) n m i h = below_both (prime n) n m (primes_from k (suc n)) i (omega arith) (λ j. primes-below k (suc n) m j (omega arith))

get_d_map : (f : ℕ → ℕ) (l : List ℕ) (i : ℕ) → i < length l → get_or (map f l) i 0 ≡ f (get_or l i 0)
get_d_map f [] i h = absurd (let z : ⊥ = omega arith in z)
get_d_map f (x ∷ l) zero h = refl
get_d_map f (x ∷ l) (suc i) h = get_d_map f l i (omega arith)

-- each of the 64 is the low 32 bits of the greatest whole number whose cube is at most its prime times 2 ^ 96
pub each_constant : (i : ℕ) → i < 64 → RoundConstant i (get_or K i 0)
unfolding primes K
each_constant i h =
    let p = get_or (primes_from 310 2) i 0 in
    let l : p ≤ 312 = primes-below 310 2 312 i (omega arith) in
    let k : i < length primes = omega (arith, count) in
    record { p = p; nth = nth-prime i k; bits = rw (get_d_map (fraction 3) (primes_from 310 2) i k) (fraction-greatest 2 p (omega arith)) }

-- nothing else is the constant at a place
pub one_constant : (i x y : ℕ) → RoundConstant i x → RoundConstant i y → x ≡ y
one_constant i x y c d =
    let e : c.p ≡ d.p = one-nth i c.p d.p c.nth d.nth in
    let g : Greatest 3 (c.p * 2 ^ (32 * 3)) d.bits.whole = subst (λ (p : ℕ). Greatest 3 (p * 2 ^ (32 * 3)) d.bits.whole) (sym e) d.bits.greatest in
    c.bits.low ∙ ap (λ (r : ℕ). r % 2 ^ 32) (one-greatest 2 (c.p * 2 ^ (32 * 3)) c.bits.whole d.bits.whole c.bits.greatest g) ∙ sym d.bits.low
