-- What ranked columns say. Assumes nothing.
use mathlib.Core.Path.{◌≡◌, sym, ap, ◌∙◌}
use mathlib.Core.Bool.{Bool, cond}
use mathlib.Core.Logic.{◌⊎◌, inl, inr}
use Prim.Native.Nat.{ℕ, ◌+◌, ◌*◌, ◌≤◌, ◌<◌}
use native.Mathlib.Omega.{arith}
use borrow.Author.Tests.{lt-ltb, le-ltb}
use Rattle.fields.specs.Fields.{field}
use Rattle.fields.proofs.Numbers.{le_or_lt}
use lib.ListN.{length}
use Rattle.model.specs.Numbers.{Bytes}
use Rattle.ranks.specs.declared.Ranks.{Ranks}
use Rattle.ranks.specs.Ranked.{slot_at, first_in, count_in, entity_at, Ranked}

pub slot_read : (m : Bytes) (i r : ℕ) → r ≡ field 2 m (128 * i + 116) → r ≡ slot_at m i
unfolding slot_at
slot_read m i r e = e

pub first_below : (m : Bytes) (r : Ranks) (g v : ℕ) → g < r.entities → v ≡ field 2 m (128 * g + 120) → v ≡ first_in m r g
unfolding first_in
first_below m r g v h f = f ∙ ap (λ (c : Bool). cond c (field 2 m (128 * g + 120)) r.versions) (sym (lt-ltb g r.entities h))

pub first-end : (m : Bytes) (r : Ranks) (g : ℕ) → r.entities ≤ g → r.versions ≡ first_in m r g
unfolding first_in
first-end m r g h = ap (λ (c : Bool). cond c (field 2 m (128 * g + 120)) r.versions) (sym (le-ltb g r.entities h))

module _ (m : Bytes) (r : Ranks) (R : Ranked m r) where
  -- an entity's versions are among all
  pub first-inside : (g : ℕ) → g < r.entities → first_in m r g < r.versions
  first-inside g h = let a = R.rise g r.entities h (omega arith) in omega (arith, first-end m r r.entities (omega arith))

  pub some-versions : (g : ℕ) → g < r.entities → 0 < count_in m r g
  unfolding count_in
  some-versions g h = let a = R.rise g (g + 1) (omega arith) (omega arith) in omega arith

  pub first_to : (g : ℕ) → g ≤ r.entities → first_in m r g ≤ r.versions
  first_to g h =
      let a = first-end m r r.entities (omega arith) in
      by_cases (le_or_lt r.entities g)
    where
      by_cases : (r.entities ≤ g) ⊎ (g < r.entities) → first_in m r g ≤ r.versions
      by_cases (inl l) = omega (arith, first-end m r g l)
      by_cases (inr l) = omega (arith, first-inside g l)

  pub count-inside : (g : ℕ) → g < r.entities → first_in m r g + count_in m r g ≤ r.versions
  unfolding count_in
  count-inside g h = let a = R.rise g (g + 1) (omega arith) (omega arith) in let b = first_to (g + 1) (omega arith) in omega arith

  pub slot-inside : (g f s : ℕ) → g < r.entities → f ≡ first_in m r g → s ≡ slot_at m f → 128 * s + 128 ≤ length m
  slot-inside g f s h p q = let a = first-inside g h in omega (arith, R.slots f (omega arith))

pub entity-read : (m : Bytes) (r : Ranks) (g f s e : ℕ) → f ≡ first_in m r g → s ≡ slot_at m f → e ≡ field 4 m (128 * s + 72) → e ≡ entity_at m r g
unfolding entity_at
entity-read m r g f s e p q t = t ∙ ap (λ (x : ℕ). field 4 m (128 * x + 72)) (q ∙ ap (slot_at m) p)
