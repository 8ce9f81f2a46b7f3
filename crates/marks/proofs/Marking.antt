-- Marks set and taken off. Assumes nothing.
use mathlib.Core.Path.{◌≡◌, refl, sym, ap, ◌∙◌, subst}
use mathlib.Core.Bool.{Bool, true, false}
use mathlib.Core.List.{List, [], ◌∷◌}
use Prim.Native.Nat.{ℕ, ◌+◌, ◌*◌, ◌^◌, ◌≤◌, ◌<◌}
use native.Mathlib.Decide.{ℕ_discrete}
use native.Mathlib.Omega.{arith}
use lib.Dec.{T, eqb, lit≤}
use lib.ListN.{length, get_or, set}
use Rattle.fields.specs.Fields.{decode, field}
use Rattle.fields.proofs.Places.{set-written, field_byte}
use Rattle.model.specs.Numbers.{Bytes}
use Rattle.graph.specs.Table.{Columns, outside, Kept}
use Rattle.graph.proofs.Slots.{kept-none, kept_then, kept-written, slot-here, slot_apart}
use Rattle.marks.specs.Marks.{mark_column, is_marked, MarkSet, Unmarked}

-- ---- one mark

module _ (work : Bytes) (i : ℕ) (room : 128 * i + 128 ≤ length work) where
  pub marked-is : eqb (get_or work (128 * i + 81) 0) 1 ≡ is_marked work i
  unfolding is_marked
  marked-is = ap (λ (x : ℕ). eqb x 1) (sym (field_byte work (128 * i + 81) (omega arith)))

  byte_set : (x : ℕ) → MarkSet work (set work (128 * i + 81) x) i (eqb x 1)
  unfolding is_marked field decode
  byte_set x =
      rw (set-written work (128 * i + 81) x (omega arith))
      (record {
        kept = kept-written work i 81 (x ∷ []) 1 refl room (lit≤ tt) 81 82 (lit≤ tt) (lit≤ tt);
        here = ap (λ (y : ℕ). eqb y 1) (ap decode (slot-here work i 81 (x ∷ []) 1 refl room (lit≤ tt)) ∙ let z : x * 256 ^ 0 + 0 ≡ x = omega arith in z);
        others = λ j d. ap (λ (y : Bytes). eqb (decode y) 1) (slot_apart work i 81 (x ∷ []) 1 refl room (lit≤ tt) j 81 1 d (lit≤ tt));
      })

  pub mark_set : (b : Bool) → b ≡ true → MarkSet work (set work (128 * i + 81) 1) i b
  mark_set b e = subst (MarkSet work (set work (128 * i + 81) 1) i) (sym e) (byte_set 1)

  pub mark_cleared : (b : Bool) → b ≡ false → MarkSet work (set work (128 * i + 81) 0) i b
  mark_cleared b e = subst (MarkSet work (set work (128 * i + 81) 0) i) (sym e) (byte_set 0)

pub marked-kept : (cs : List Columns) (work work' : Bytes) → Kept cs work work' → T (outside cs 81 1) → (j : ℕ) → is_marked work' j ≡ is_marked work j
unfolding is_marked field
marked-kept cs work work' kept t j = ap (λ (y : Bytes). eqb (decode y) 1) (kept.same j 81 1 t)

-- ---- all marks cleared, and one set

pub record Clearing (work work' : Bytes) (n i : ℕ) : Type 0 where
  pub few : i ≤ n
  pub cleared : Unmarked work work' i

pub clearing_none : (work : Bytes) (n : ℕ) → Clearing work work n 0
clearing_none work n = record { few = omega arith; cleared = record { kept = kept-none mark_column work; none = λ j h. absurd (let z : ⊥ = omega arith in z) } }

pub clearing_more : (work w1 w2 : Bytes) (n i : ℕ) → i < n → Clearing work w1 n i → MarkSet w1 w2 i false → Clearing work w2 n (i + 1)
clearing_more work w1 w2 n i h c m =
    record {
      few = omega arith;
      cleared = record { kept = kept_then mark_column work w1 w2 c.cleared.kept m.kept; none = λ j k. go j k (ℕ_discrete j i) };
    }
  where
    go : (j : ℕ) → j < i + 1 → Dec (j ≡ i) → is_marked w2 j ≡ false
    go j k (yes e) = ap (is_marked w2) e ∙ m.here
    go j k (no d) = m.others j d ∙ c.cleared.none j (omega arith)

pub clearing_size : (work work' : Bytes) (n i : ℕ) → Clearing work work' n i → length work' ≡ length work
clearing_size work work' n i c = c.cleared.kept.size

pub clearing_all : (work work' : Bytes) (n i : ℕ) → n ≤ i → Clearing work work' n i → Unmarked work work' n
clearing_all work work' n i h c = let e : i ≡ n = omega (arith, c.few) in rw e at c.cleared
