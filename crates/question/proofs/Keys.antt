-- Keys compare as their numbers. Assumes nothing.
use mathlib.Core.Path.{◌≡◌, ◌∙◌}
use mathlib.Core.Bool.{Bool}
use Prim.Native.Nat.{ℕ}
use native.Mathlib.Omega.{arith}
use lib.Dec.{eqb, ltb, leb}
use Rattle.std.specs.Prelude.{◌==◌}
use Rattle.std.proofs.Common.{is_lt, is_le, nat_cmp}
use Rattle.std.proofs.lemmas.Grind.{common_steps}

below : (x y : ℕ) → is_lt (nat_cmp x y) ≡ ltb x y
below x y = grind (arith, common_steps)

at_most : (x y : ℕ) → is_le (nat_cmp x y) ≡ leb x y
at_most x y = grind (arith, common_steps)

pub key_below : (b : Bool) (x y : ℕ) → b ≡ is_lt (nat_cmp x y) → b ≡ ltb x y
key_below b x y e = e ∙ below x y

pub key_at_most : (b : Bool) (x y : ℕ) → b ≡ is_le (nat_cmp x y) → b ≡ leb x y
key_at_most b x y e = e ∙ at_most x y

pub keys_equal : (b : Bool) (x y : ℕ) → b ≡ (x == y) → b ≡ eqb x y
keys_equal b x y e = e
