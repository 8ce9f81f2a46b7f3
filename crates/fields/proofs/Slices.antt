-- What the library's methods on parts of a slice do, in the words of this crate. Assumes nothing.
use mathlib.Core.Path.{◌≡◌, refl, ap, ap₂, ◌∙◌}
use mathlib.Core.Bool.{Bool, ◌&&◌}
use mathlib.Core.List.{List, [], ◌∷◌}
use Prim.Native.Nat.{ℕ, ◌+◌, ◌-◌, ◌≤◌}
use native.Mathlib.Omega.{arith}
use borrow.Rule.Slice.PartMut.{put_mid}
use lib.Dec.{eqb}
use lib.Pointwise.{pointwise}
use lib.ListN.{length, drop, take}
use Rattle.std.specs.List.{between}
use Rattle.std.proofs.lemmas.List.{drop-drop}
use Rattle.fields.specs.Fields.{part, written, equal}
use Rattle.fields.proofs.Places.{length_part}

-- a part of a slice, by its ends
part_between : (l : List ℕ) (at n : ℕ) → between at (at + n) l ≡ part l at n
unfolding part
part_between l at n = let e : at + n - at ≡ n = omega arith in ap (λ (k : ℕ). take k (drop at l)) e

-- a part that a copy took the place of
pub copied : (d s vs : List ℕ) (at from n : ℕ) → from + n ≤ length s → vs ≡ between from (from + n) s
    → put_mid at (at + n - at) d vs ≡ written d at (part s from n)
unfolding written
copied d s vs at from n h e =
    let k : vs ≡ part s from n = e ∙ part_between s from n in
    let a : at + n - at ≡ n = omega arith in
    rw (k, a, drop-drop n at d, length_part s from n h) refl

equal_pointwise : (x y : List ℕ) → pointwise eqb x y ≡ equal x y
unfolding equal
equal_pointwise [] [] = refl
equal_pointwise [] (y ∷ ys) = refl
equal_pointwise (x ∷ xs) [] = refl
equal_pointwise (x ∷ xs) (y ∷ ys) = ap (λ (b : Bool). eqb x y && b) (equal_pointwise xs ys)

-- parts that are compared
pub compared : (a b : List ℕ) (at from n : ℕ) (r : Bool) → r ≡ pointwise eqb (between at (at + n) a) (between from (from + n) b)
    → r ≡ equal (part a at n) (part b from n)
compared a b at from n r e = e ∙ ap₂ (pointwise eqb) (part_between a at n) (part_between b from n) ∙ equal_pointwise (part a at n) (part b from n)
