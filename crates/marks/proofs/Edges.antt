-- The edges of a slot by the places of their starts: which slots they mark. Assumes nothing.
use mathlib.Core.Path.{◌≡◌, refl, sym, ap, ap₂, ◌∙◌}
use mathlib.Core.Bool.{Bool, true, false, cond, ◌&&◌, ◌||◌, or-false, or-true, or_assoc}
use mathlib.Core.List.{List, [], ◌∷◌, ◌++◌}
use Prim.Native.Nat.{ℕ, ◌+◌, ◌*◌, ◌^◌, ◌≤◌, ◌<◌}
use native.Mathlib.Decide.{ℕ_discrete}
use native.Mathlib.Omega.{arith}
use borrow.Author.Tests.{lt-ltb, le-ltb, eq-eqb, ne_eqb}
use lib.Dec.{eqb, ltb}
use lib.ListN.{length}
use Rattle.fields.specs.Fields.{field}
use Rattle.model.specs.Numbers.{Bytes}
use Rattle.model.specs.Graph.{InEdge, temporal, dependency}
use Rattle.model.specs.Trace.{refers}
use Rattle.graph.specs.Table.{absent, present, node_in}
use Rattle.graph.specs.Links.{Starts}
use Rattle.graph.proofs.Slots.{kept-none, kept_then}
use Rattle.graph.proofs.Strings.{start_there, in_edges-are, previous-before, source-before}
use Rattle.marks.specs.Marks.{mark_column, is_marked, Stands, MarkSet, StartMarked, StartsMarked}

abbrev previous_in : Bytes → ℕ → ℕ
previous_in work i = field 2 work (128 * i + 76)

abbrev source_in : Bytes → ℕ → ℕ
source_in work i = field 2 work (128 * i + 78)

-- ---- starts that stand in the table

module _ (work : Bytes) (i : ℕ) (s : Starts work i) (p : ℕ) where
  pub previous_stands : p ≡ field 2 work (128 * i + 76) → Stands work p
  previous_stands e = record { room = λ h. let l = previous-before work i s p e h in omega (arith, s.room) }

  pub source_stands : p ≡ field 2 work (128 * i + 78) → Stands work p
  source_stands e = record { room = λ h. let l = source-before work i s p e h in omega (arith, s.room) }

pub stands_then : (work w1 : Bytes) (p s : ℕ) → StartMarked work w1 p → Stands work s → Stands w1 s
stands_then work w1 p s m t = record { room = λ h. let r = t.room h in omega (arith, m.kept.size) }

pub stands_there : (work : Bytes) (p : ℕ) → Stands work p → p < 2 ^ 16 → (p ≡ 65535 → ⊥) → 128 * p + 128 ≤ length work
stands_there work p s h d = s.room (start_there p h d)

-- ---- a start that is marked

pub start-absent : (work : Bytes) (p : ℕ) → p ≡ 65535 → StartMarked work work p
unfolding absent
start-absent work p e =
    record { kept = kept-none mark_column work; is = λ j. sym (or-false (is_marked work j)) ∙ ap (λ (b : Bool). is_marked work j || (b && eqb p j)) (sym (le-ltb p 65535 (omega arith))) }

pub start-present : (work work' : Bytes) (p : ℕ) → p < absent → MarkSet work work' p true → StartMarked work work' p
start-present work work' p h m = record { kept = m.kept; is = λ j. go j (ℕ_discrete j p) ∙ ap (λ (b : Bool). is_marked work j || (b && eqb p j)) (sym (lt-ltb p absent h)) }
  where
    go : (j : ℕ) → Dec (j ≡ p) → is_marked work' j ≡ (is_marked work j || eqb p j)
    go j (yes e) = ap (is_marked work') e ∙ m.here ∙ sym (or-true (is_marked work j)) ∙ ap (λ (b : Bool). is_marked work j || b) (sym (eq-eqb p j (sym e)))
    go j (no d) = m.others j d ∙ sym (or-false (is_marked work j)) ∙ ap (λ (b : Bool). is_marked work j || b) (sym (ne_eqb p j (λ e. d (sym e))))

-- ---- both edges of a slot

refers-append : (j : ℕ) (a b : List InEdge) → refers j (a ++ b) ≡ (refers j a || refers j b)
unfolding refers
refers-append j [] b = refl
refers-append j (e ∷ a) b = ap (λ (x : Bool). eqb e.start j || x) (refers-append j a b) ∙ sym (or_assoc (eqb e.start j) (refers j a) (refers j b))

refers-present : (j p : ℕ) (e : InEdge) → e.start ≡ p → refers j (present p e) ≡ (ltb p absent && eqb p j)
unfolding refers present
refers-present j p e h = go (ltb p absent)
  where
    go : (b : Bool) → refers j (cond b (e ∷ []) []) ≡ (b && eqb p j)
    go true = or-false (eqb e.start j) ∙ ap (λ (x : ℕ). eqb x j) h
    go false = refl

slot-refers : (work : Bytes) (i j : ℕ)
    → refers j (node_in work i).in_edges ≡ ((ltb (previous_in work i) absent && eqb (previous_in work i) j) || (ltb (source_in work i) absent && eqb (source_in work i) j))
slot-refers work i j =
    let p = previous_in work i in
    let s = source_in work i in
    let k = field 1 work (128 * i + 80) in
    ap (refers j) (in_edges-are work i p s k refl refl refl)
    ∙ refers-append j (present p (temporal p)) (present s (dependency k s))
    ∙ ap₂ (λ (x y : Bool). x || y) (refers-present j p (temporal p) refl) (refers-present j s (dependency k s) refl)

pub both-marked : (work w1 w2 : Bytes) (i p s : ℕ) → p ≡ field 2 work (128 * i + 76) → s ≡ field 2 work (128 * i + 78)
    → StartMarked work w1 p → StartMarked w1 w2 s → StartsMarked work w2 i
both-marked work w1 w2 i p s ep es m1 m2 =
    record {
      kept = kept_then mark_column work w1 w2 m1.kept m2.kept;
      is = λ j.
          m2.is j
          ∙ ap (λ (b : Bool). b || (ltb s absent && eqb s j)) (m1.is j)
          ∙ or_assoc (is_marked work j) (ltb p absent && eqb p j) (ltb s absent && eqb s j)
          ∙ ap (λ (b : Bool). is_marked work j || b)
          (ap₂ (λ (x y : ℕ). (ltb x absent && eqb x j) || (ltb y absent && eqb y j)) ep es ∙ sym (slot-refers work i j));
    }
