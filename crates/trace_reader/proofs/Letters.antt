-- The letters of records: which are due, and the bytes of a record. Assumes nothing.
use mathlib.Core.Path.{◌≡◌, refl, sym, ap, ◌∙◌}
use mathlib.Core.Bool.{Bool, true, false, cond, ◌||◌}
use Prim.Native.Nat.{ℕ, zero, suc, ◌≤◌}
use native.Mathlib.Omega.{arith}
use borrow.Author.Tests.{eq-eqb, ne_eqb}
use lib.Dec.{eqb}
use Rattle.model.specs.Trace.{letter_width}
use Rattle.model.specs.Question.{forward}
use Rattle.model.specs.CheckRows.{due}
use Rattle.question.specs.declared.Way.{Way}
use Rattle.question.specs.declared.Way.TheVariants.{Backward, Forward}
use Rattle.question.specs.Ways.{way_of}

pub first_of : (c a b : ℕ) → c ≡ a → true ≡ (eqb c a || eqb c b)
first_of c a b e = simp (eq-eqb c a e)

pub second_of : (c a b : ℕ) → (c ≡ a → ⊥) → eqb c b ≡ (eqb c a || eqb c b)
second_of c a b h = simp (ne_eqb c a h)

-- ---- letters due

pub due-first : (i c : ℕ) → i ≡ 0 → eqb c 83 ≡ due forward i c
unfolding due
due-first zero c e = refl
due-first (suc i) c e = absurd (let z : ⊥ = omega arith in z)

pub due_T : (i c : ℕ) → (i ≡ 0 → ⊥) → c ≡ 84 → true ≡ due forward i c
unfolding due
due_T zero c h e = absurd (h refl)
due_T (suc i) c h e = simp (eq-eqb c 84 e)

pub due-later : (i c : ℕ) (b : Bool) → (i ≡ 0 → ⊥) → (c ≡ 84 → ⊥) → b ≡ (eqb c 68 || eqb c 86) → b ≡ due forward i c
unfolding due
due-later zero c b h g e = absurd (h refl)
due-later (suc i) c b h g e = simp (ne_eqb c 84 g) e

pub due-backward : (way : Way) (i c : ℕ) (b : Bool) → way ≡ Backward → b ≡ (eqb c 69 || eqb c 86) → b ≡ due (way_of way) i c
unfolding due way_of
due-backward way i c b w e = e ∙ sym (ap (λ (x : Way). due (way_of x) i c) w)

pub due-forward : (way : Way) (i c : ℕ) (b : Bool) → way ≡ Forward → b ≡ due forward i c → b ≡ due (way_of way) i c
unfolding way_of
due-forward way i c b w e = e ∙ sym (ap (λ (x : Way). due (way_of x) i c) w)

-- ---- widths

pub width_V : (c : ℕ) → c ≡ 86 → 22 ≡ letter_width c
width_V c e = simp (eq-eqb c 86 e)

pub width_D : (c : ℕ) → (c ≡ 86 → ⊥) → c ≡ 68 → 18 ≡ letter_width c
width_D c v e = simp (ne_eqb c 86 v, eq-eqb c 68 e)

pub width_T : (c : ℕ) → (c ≡ 86 → ⊥) → (c ≡ 68 → ⊥) → c ≡ 84 → 17 ≡ letter_width c
width_T c v d e = simp (ne_eqb c 86 v, ne_eqb c 68 d, eq-eqb c 84 e)

pub width_other : (c : ℕ) → (c ≡ 86 → ⊥) → (c ≡ 68 → ⊥) → (c ≡ 84 → ⊥) → 13 ≡ letter_width c
width_other c v d t = simp (ne_eqb c 86 v, ne_eqb c 68 d, ne_eqb c 84 t)

pub width_most : (c : ℕ) → letter_width c ≤ 22
width_most c = go (eqb c 86) (eqb c 68) (eqb c 84)
  where
    go : (v d t : Bool) → cond v 22 (cond d 18 (cond t 17 13)) ≤ 22
    go true d t = omega arith
    go false true t = omega arith
    go false false true = omega arith
    go false false false = omega arith

-- every record has an entity and a time
pub width_least : (c : ℕ) → 13 ≤ letter_width c
width_least c = go (eqb c 86) (eqb c 68) (eqb c 84)
  where
    go : (v d t : Bool) → 13 ≤ cond v 22 (cond d 18 (cond t 17 13))
    go true d t = omega arith
    go false true t = omega arith
    go false false true = omega arith
    go false false false = omega arith
