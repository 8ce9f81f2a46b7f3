-- Cubes of whole numbers: digits of a cube root from a quotient. Assumes nothing.
use mathlib.Core.Path.{◌≡◌, refl, ap, ◌∙◌}
use mathlib.Core.Bool.{Bool, true, false, not}
use Prim.Native.Nat.{ℕ, suc, ◌+◌, ◌-◌, ◌*◌, ◌/◌, ◌%◌, ◌^◌, ◌≤◌, ◌<◌}
use native.Mathlib.Nat.{pow-zero, pow-suc, lt_of_not-le, mul-le-mul, mul-le-mul_right, mul-le-mul_left, pow-le-pow_right, mod-eq_of_lt, mod-lt, div-add-mod', lt-div-mul-add, div-le_of_le-mul}
use native.Mathlib.Numerals.{add-one}
use native.Mathlib.Omega.{arith}
use lib.Dec.{T, ltb, ltb→lt, lt→ltb, nltb→le, not_T}
use Rattle.round_constants.specs.Constants.{Greatest}
use Rattle.round_constants.specs.Working.{RoundedUp, Known, Tried}

pub cube_is : (r : ℕ) → r ^ 3 ≡ r * r * r
cube_is r = pow-suc r 2 ∙ ap (λ (x : ℕ). x * r) (pow-suc r 1 ∙ ap (λ (x : ℕ). x * r) (pow-suc r 0 ∙ ap (λ (x : ℕ). x * r) (pow-zero r) ∙ omega arith))

pub not_above : (m n : ℕ) → (n < m → ⊥) → m ≤ n
not_above m n f = let h : m < suc n = lt_of_not-le f in omega arith

pub two_low : (b : ℕ) → 1 ≤ 2 ^ b
two_low b = pow-le-pow_right {n = 2} (omega arith) {i = 0} {j = b} (omega arith)

pub two_high : (b : ℕ) → b ≤ 17 → 2 ^ b ≤ 131072
two_high b h = pow-le-pow_right {n = 2} (omega arith) {i = b} {j = 17} h

same_test : (p q : Bool) → (T p → T q) → (T (not p) → T (not q)) → p ≡ q
same_test true true f g = refl
same_test true false f g = absurd (f tt)
same_test false true f g = absurd (g tt)
same_test false false f g = refl

shift : (x b : ℕ) → x * 2 ^ b < 2 ^ 64 → (x * 2 ^ b) % 2 ^ 64 ≡ x * 2 ^ b
shift x b h = mod-eq_of_lt h

-- ---- the exact test

-- n w^3 by what n has above a^3
apart : (n a w : ℕ) → a * a * a ≤ n → n * (w * w * w) ≡ (a * a * a + (n - a * a * a)) * (w * w * w)
apart n a w l = ap (λ (x : ℕ). x * (w * w * w)) (omega arith)

-- With w = 2 ^ b the cube of a w + x is a^3 w^3 + 3 a^2 x w^2 + 3 a x^2 w + x^3. Let y be x^3 / w and z be (3 a x^2 + y) / w, each rounded up:
-- then 3 a^2 x + z compares with (n - a^3) w as the cube does with n w^3.
fits : (n a w x y z : ℕ) → a * a * a ≤ n → x * x * x ≤ y * w → 3 * a * x * x + y ≤ z * w → 3 * a * a * x + z ≤ (n - a * a * a) * w
    → (a * w + x) * (a * w + x) * (a * w + x) ≤ n * (w * w * w)
fits n a w x y z l p q r = omega (arith, mul-le-mul_right w q, mul-le-mul_right (w * w) r, apart n a w l, p)

exceeds : (n a w x y z : ℕ) → a * a * a ≤ n → y * w < x * x * x + w → z * w < 3 * a * x * x + y + w → (n - a * a * a) * w < 3 * a * a * x + z
    → n * (w * w * w) < (a * w + x) * (a * w + x) * (a * w + x)
exceeds n a w x y z l p q r = omega (arith, mul-le-mul_right w q, mul-le-mul_right (w * w) r, apart n a w l, p)

pub cube_exceeds_is : (n a b x y z l : ℕ) → Tried n a b x → RoundedUp (x * x * x) b y → RoundedUp (3 * a * x * x + y) b z → l ≡ (n - a * a * a) * 2 ^ b
    → ltb l (3 * a * a * x + z) ≡ ltb (n * (2 ^ b * 2 ^ b * 2 ^ b)) ((a * 2 ^ b + x) * (a * 2 ^ b + x) * (a * 2 ^ b + x))
cube_exceeds_is n a b x y z l t p q e =
    let w = 2 ^ b in
    let k : a * a * a ≤ n = omega (arith, cube_is a, t.known.root.low) in
    let r = 3 * a * a * x + z in
    let u = n * (w * w * w) in
    let v = (a * w + x) * (a * w + x) * (a * w + x) in
    same_test
    (ltb l r)
    (ltb u v)
    (λ h. lt→ltb u v (exceeds n a w x y z k p.least q.least (let i : l < r = ltb→lt l r h in rw e at i)))
    (λ h.
    let i : r ≤ l = nltb→le l r h in
    let f : v ≤ u = fits n a w x y z k p.enough q.enough (rw e at i) in
    not_T (ltb u v) (λ (j : T (ltb u v)). let g : u < v = ltb→lt u v j in omega arith))

-- ---- the digits that a root gains

-- x is not below the digits sought
pub record Digits (n a b x : ℕ) : Type 0 where
  pub known : Known n a b
  pub bound : x ≤ 262144
  pub high : n * (2 ^ b * 2 ^ b * 2 ^ b) < (a * 2 ^ b + (x + 1)) * (a * 2 ^ b + (x + 1)) * (a * 2 ^ b + (x + 1))

next_cube : (a : ℕ) → (suc a) ^ 3 ≡ a * a * a + 3 * a * a + 3 * a + 1
next_cube a = cube_is (suc a) ∙ omega arith

rest-bound : (n a b : ℕ) → Known n a b → n - a * a * a ≤ 6 * a * a
rest-bound n a b k = omega (arith, next_cube a, k.root.high, mul-le-mul_left a k.some)

-- the quotient by 3 a^2 leaves out the lower terms of the cube, so it is not below them
pub quotient : (n a b l x : ℕ) → Known n a b → l ≡ (n - a * a * a) * 2 ^ b → x ≡ l / (3 * a * a) → Digits n a b x
quotient n a b l x k e f =
    let w = 2 ^ b in
    let s = 3 * a * a in
    let d = n - a * a * a in
    let low : a * a * a ≤ n = omega (arith, cube_is a, k.root.low) in
    let pos : 0 < s = omega (arith, mul-le-mul k.some k.some) in
    let one : 1 ≤ w * w = mul-le-mul (two_low b) (two_low b) in
    let g : l < x * s + s = rw f (lt-div-mul-add pos) in
    let g' = mul-le-mul_right (w * w) g in
    let j : l * (w * w) ≡ d * w * (w * w) = ap (λ (x : ℕ). x * (w * w)) e in
    let m : l ≤ s * (2 * w) = omega (arith, mul-le-mul_right w (rest-bound n a b k)) in
    let o : x ≤ 2 * w = rw f (div-le_of_le-mul s m) in
    record {
      known = k;
      bound = omega (arith, two_high b k.few);
      high = omega (arith, g', apart n a w low, j, one);
    }

-- zero digits are never too many
pub some_digit : (n a b x : ℕ) → Known n a b → n * (2 ^ b * 2 ^ b * 2 ^ b) < (a * 2 ^ b + x) * (a * 2 ^ b + x) * (a * 2 ^ b + x) → 1 ≤ x
some_digit n a b x k h =
    let w = 2 ^ b in
    not_above 1 x
    (λ (z : x < 1).
    let e : x ≡ 0 = omega arith in
    let low : a * a * a ≤ n = omega (arith, cube_is a, k.root.low) in
    let h' : n * (w * w * w) < (a * w + 0) * (a * w + 0) * (a * w + 0) = rw e at h in
    omega (arith, mul-le-mul_right (w * w * w) low, h'))

pub refined_is : (n a b x : ℕ) → Digits n a b x → (a * 2 ^ b + x) * (a * 2 ^ b + x) * (a * 2 ^ b + x) ≤ n * (2 ^ b * 2 ^ b * 2 ^ b)
    → Greatest 3 (n * (2 ^ b * 2 ^ b * 2 ^ b)) (a * 2 ^ b + x)
refined_is n a b x d h =
    let e : suc (a * 2 ^ b + x) ≡ a * 2 ^ b + (x + 1) = omega arith in
    record {
      low = rw (cube_is (a * 2 ^ b + x)) h;
      high = rw (e, cube_is (a * 2 ^ b + (x + 1))) d.high;
    }

-- ---- the first digits

pub cube_small : (r m : ℕ) → r * r * r < m * m * m → r < m
cube_small r m h =
    let l : suc r ≤ m = not_above (suc r) m (λ (z : m < suc r). let k : m ≤ r = omega arith in omega (arith, mul-le-mul (mul-le-mul k k) k)) in l

pub raised_is : (n r : ℕ) → r * r * r ≤ n → n < (r + 1) * (r + 1) * (r + 1) → Greatest 3 n r
raised_is n r l h = record { low = rw (cube_is r) l; high = rw (← add-one r, cube_is (r + 1)) h }

pub remainder_is : (n a b q : ℕ) → Known n a b → q ≡ a * a * a → ((n - q) * 2 ^ b) % 2 ^ 64 ≡ (n - a * a * a) * 2 ^ b
remainder_is n a b q k e =
    rw e
    (shift (n - a * a * a) b (omega (arith, mul-le-mul (rest-bound n a b k) (two_high b k.few), mul-le-mul k.small k.small)))

pub root_shifted : (a b : ℕ) → a ≤ 262144 → b ≤ 17 → (a * 2 ^ b) % 2 ^ 64 ≡ a * 2 ^ b
root_shifted a b h k = shift a b (omega (arith, mul-le-mul h (two_high b k)))
