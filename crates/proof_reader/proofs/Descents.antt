-- The rules of the walks: where one stops, and the side on which it goes on. Assumes nothing.
use mathlib.Core.Path.{◌≡◌, sym, ap, ◌∙◌}
use mathlib.Core.Bool.{Bool, true, false}
use Prim.Native.Nat.{ℕ, ◌+◌}
use borrow.Author.Tests.{le-leb, lt-leb, ltb-true, ltb-false}
use lib.Dec.{ltb}
use Rattle.fields.specs.Fields.{field}
use Rattle.model.specs.Numbers.{Bytes}
use Rattle.model.specs.Question.{Descent, by_entity, by_time}
use Rattle.model.specs.CheckRows.{subtree_in}
use Rattle.question.specs.declared.TimeKey.{TimeKey}
use Rattle.question.specs.declared.Relation.{Relation}
use Rattle.question.specs.declared.Relation.TheVariants.{AtOrBefore, AtOrAfter}
use Rattle.question.specs.Directions.{relation_of}
use Rattle.proof_reader.specs.declared.Stop.TheVariants.{NotYet, NoneSoLate}
use Rattle.proof_reader.specs.Walks.{side_of, stop_of}

module _ (answer : Bytes) (tree s least : ℕ) (l : least ≡ field 8 answer tree) (b : Bool) (below : b ≡ ltb s least) where
  pub below-least : b ≡ true → b ≡ (by_entity s).stops (subtree_in answer tree)
  unfolding by_entity subtree_in
  below-least e = e ∙ simp (sym l, sym below ∙ e)

  pub above-greatest : b ≡ false → (greatest : ℕ) → greatest ≡ field 8 answer (tree + 8) → (r : Bool) → r ≡ ltb greatest s
      → r ≡ (by_entity s).stops (subtree_in answer tree)
  unfolding by_entity subtree_in
  above-greatest e greatest g r above = simp (sym l, sym below ∙ e, sym g) above

-- by the relation
abbrev rules : Relation → ℕ → Descent
rules r t = by_time (relation_of r) t

module _ (answer : Bytes) (r : Relation) where
  -- "if t is below the least key, stop: not yet"
  module _ (back : r ≡ AtOrBefore) (tree : ℕ) (least : TimeKey) (l : least.0 ≡ field 8 answer tree) where
    pub back_stops : (t : ℕ) (b : Bool) → b ≡ ltb t least.0 → b ≡ (rules r t).stops (subtree_in answer tree)
    unfolding by_time subtree_in relation_of
    back_stops t b below = below ∙ ap (ltb t) l ∙ ap (λ (x : Relation). (rules x t).stops (subtree_in answer tree)) (sym back)

    pub back_stop : (t : ℕ) → NotYet least ≡ stop_of ((rules r t).stop_at (subtree_in answer tree))
    unfolding by_time subtree_in relation_of stop_of
    back_stop t = ap (λ (x : ℕ). NotYet (record { 0 = x })) l ∙ ap (λ (x : Relation). stop_of ((rules x t).stop_at (subtree_in answer tree))) (sym back)

  -- "if t is above the greatest key"
  module _ (ahead : r ≡ AtOrAfter) (tree : ℕ) (greatest : TimeKey) (g : greatest.0 ≡ field 8 answer (tree + 8)) where
    pub ahead_stops : (t : ℕ) (b : Bool) → b ≡ ltb greatest.0 t → b ≡ (rules r t).stops (subtree_in answer tree)
    unfolding by_time subtree_in relation_of
    ahead_stops t b above = above ∙ ap (λ (x : ℕ). ltb x t) g ∙ ap (λ (x : Relation). (rules x t).stops (subtree_in answer tree)) (sym ahead)

    pub ahead_stop : (t : ℕ) → NoneSoLate greatest ≡ stop_of ((rules r t).stop_at (subtree_in answer tree))
    unfolding by_time subtree_in relation_of stop_of
    ahead_stop t = ap (λ (x : ℕ). NoneSoLate (record { 0 = x })) g ∙ ap (λ (x : Relation). stop_of ((rules x t).stop_at (subtree_in answer tree))) (sym ahead)

-- "going left if s is at most the left's greatest key, else right": by an entity, and by a time looking ahead
module _ (answer : Bytes) (at s left greatest : ℕ) (l : left ≡ at + 1) (g : greatest ≡ field 8 answer (left + 8)) (b : Bool) (above : b ≡ ltb greatest s) where
  greatest_is : greatest ≡ field 8 answer (at + 1 + 8)
  greatest_is = g ∙ ap (λ (n : ℕ). field 8 answer (n + 8)) l

  pub entity-right : b ≡ true → (right : ℕ) → right ≡ at + 49 → right ≡ side_of (by_entity s) answer at
  unfolding side_of by_entity subtree_in
  entity-right e right r = r ∙ simp (sym greatest_is, lt-leb s greatest (ltb-true greatest s (sym above ∙ e)))

  pub entity-left : b ≡ false → left ≡ side_of (by_entity s) answer at
  unfolding side_of by_entity subtree_in
  entity-left e = l ∙ simp (sym greatest_is, le-leb s greatest (ltb-false greatest s (sym above ∙ e)))

  pub ahead_right : (r : Relation) → r ≡ AtOrAfter → b ≡ true → (right : ℕ) → right ≡ at + 49 → right ≡ side_of (rules r s) answer at
  unfolding side_of by_entity by_time relation_of
  ahead_right r ahead e right k = entity-right e right k ∙ ap (λ (x : Relation). side_of (rules x s) answer at) (sym ahead)

  pub ahead_left : (r : Relation) → r ≡ AtOrAfter → b ≡ false → left ≡ side_of (rules r s) answer at
  unfolding side_of by_entity by_time relation_of
  ahead_left r ahead e = entity-left e ∙ ap (λ (x : Relation). side_of (rules x s) answer at) (sym ahead)

-- "going right if t is at least the right's least key, else left"
module _ (answer : Bytes) (at t right least : ℕ) (k : right ≡ at + 49) (l : least ≡ field 8 answer right) (b : Bool) (below : b ≡ ltb t least) (r : Relation)
    (back : r ≡ AtOrBefore)
  where
    least_is : least ≡ field 8 answer (at + 49)
    least_is = l ∙ ap (field 8 answer) k

    pub back_left : b ≡ true → (left : ℕ) → left ≡ at + 1 → left ≡ side_of (rules r t) answer at
    unfolding side_of by_time subtree_in relation_of
    back_left e left h = h ∙ simp (back, sym least_is, lt-leb least t (ltb-true t least (sym below ∙ e)))

    pub back_right : b ≡ false → right ≡ side_of (rules r t) answer at
    unfolding side_of by_time subtree_in relation_of
    back_right e = k ∙ simp (back, sym least_is, le-leb least t (ltb-false t least (sym below ∙ e)))
