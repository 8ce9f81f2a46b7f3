-- The walk through the tree of some leaves of a row, half by half, by their keys. Assumes nothing.
use mathlib.Core.Path.{◌≡◌, refl, sym, ap, ap₂, ◌∙◌, subst}
use mathlib.Core.Logic.{◌⊎◌, inl, inr}
use mathlib.Core.Bool.{Bool, true, false, not, ◌||◌}
use mathlib.Core.List.{List, ◌++◌, map}
use Prim.Native.Nat.{ℕ, ◌+◌, ◌-◌, ◌≤◌, ◌<◌}
use native.Mathlib.Omega.{arith}
use borrow.Author.Tests.{lt-ltb, le-ltb, le-leb, lt-leb}
use lib.Dec.{ltb, leb}
use lib.ListN.{length, take, drop, length-drop}
use lib.Seq.{length-take-le, take-append_seam, drop-append_seam}
use Rattle.fields.proofs.Numbers.{le_or_lt}
use Rattle.question.specs.declared.EntityKey.{EntityKey}
use Rattle.question.specs.declared.TimeKey.{TimeKey}
use Rattle.model.specs.Numbers.{Bytes}
use Rattle.model.specs.Accumulator.{Subtree as Known, tip, Layout, subtree, largest_power_below, tree}
use Rattle.model.specs.Question as model
use Rattle.model.specs.Question.{by_entity, by_time, Opened}
use Rattle.question.specs.declared.Relation.{Relation as Declared}
use Rattle.question.specs.declared.Relation.TheVariants.{AtOrBefore, AtOrAfter}
use Rattle.question.specs.Directions.{relation_of}
use Rattle.graph.specs.Table.{time_in}
use Rattle.graph.proofs.Nodes.{map-length}
use Rattle.accumulator.specs.Halves.{own, subtree_of}
use Rattle.accumulator.proofs.Splitting.{split_bounds, subtree_of-tree, map-take, map-drop}
use Rattle.ranks.specs.declared.Ranks.{Ranks}
use Rattle.ranks.specs.Ranked.{slot_at, entity_at}
use Rattle.kept_trees.specs.declared.Row.{Row}
use Rattle.kept_trees.specs.declared.Row.TheVariants.{Versions, Entities}
use Rattle.kept_trees.specs.Leaves.{Leaves, stretch, tree_of, versions_row, entities_row, row_leaves, size_of}
use Rattle.kept_trees.proofs.Stretches.{stretch-length, stretch-take, stretch-drop, tree-least, tree-greatest}
use Rattle.kept_trees.proofs.Rows.{version-key, entity-key, row_greatest}
use Rattle.proof_writer.specs.declared.Stretch.{Stretch}
use Rattle.proof_writer.specs.declared.Descent.{Descent}
use Rattle.proof_writer.specs.declared.Descent.TheVariants.{ByEntity, ByTime}
use Rattle.proof_writer.specs.declared.Sought.{Sought}
use Rattle.proof_writer.specs.declared.Sought.TheVariants.{Stopped, Reached}
use Rattle.proof_writer.specs.Walks.{descent_of, row_of, LeafOf, layout_of, none_of, Among, half_of, StoppedAt, ReachedAt, SoughtIs, target_of, depth_of, Leads}
use Rattle.proof_writer.proofs.Descents.{Way, way-none, way-stopped, way-leaf, way-tip, turns_left, way_half}

-- ---- the keys of a tree

not_above : (a b : ℕ) → ltb a b ≡ not (leb b a)
not_above a b = go (le_or_lt b a)
  where
    go : (b ≤ a) ⊎ (a < b) → ltb a b ≡ not (leb b a)
    go (inl h) = le-ltb a b h ∙ ap not (sym (le-leb b a h))
    go (inr h) = lt-ltb a b h ∙ ap not (sym (lt-leb b a h))

module _ (m : Bytes) (r : Ranks) where
  first-entity : (i n x : ℕ) → 0 < n → x ≡ entity_at m r i → x ≡ (tree_of (entities_row m r) i n).least
  first-entity i n x h e = entity-key Entities m r i x refl e ∙ sym (tree-least (entities_row m r) i n h)

  last-entity : (i n x : ℕ) → 0 < n → x ≡ entity_at m r (i + (n - 1)) → x ≡ (tree_of (entities_row m r) i n).greatest
  last-entity i n x h e = entity-key Entities m r (i + (n - 1)) x refl e ∙ sym (row_greatest Entities m r (i + (n - 1))) ∙ sym (tree-greatest (entities_row m r) i n h)

  pub first-time : (i n t : ℕ) → 0 < n → t ≡ time_in m (slot_at m i) → t ≡ (tree_of (versions_row m) i n).least
  first-time i n t h e = version-key Versions m r i t refl e ∙ sym (tree-least (versions_row m) i n h)

  pub last_time : (i n t : ℕ) → 0 < n → t ≡ time_in m (slot_at m (i + (n - 1))) → t ≡ (tree_of (versions_row m) i n).greatest
  last_time i n t h e = version-key Versions m r (i + (n - 1)) t refl e ∙ sym (row_greatest Versions m r (i + (n - 1))) ∙ sym (tree-greatest (versions_row m) i n h)

  -- ---- whether the walk stops

  module _ (s : Stretch) (x : ℕ) (some : 0 < s.n) where
    pub outside_low : (k : ℕ) (b : Bool) → k ≡ entity_at m r s.from → b ≡ ltb x k → b ≡ true → true ≡ (by_entity x).stops (tree_of (entities_row m r) s.from s.n)
    unfolding by_entity
    outside_low k b e t h = ap (λ (c : Bool). c || ltb (tree_of (entities_row m r) s.from s.n).greatest x) (sym h ∙ t ∙ ap (ltb x) (first-entity s.from s.n k some e))

    pub outside_high : (k j : ℕ) (b c : Bool) → k ≡ entity_at m r s.from → b ≡ ltb x k → b ≡ false → j ≡ entity_at m r (s.from + (s.n - 1)) → c ≡ ltb j x
        → c ≡ (by_entity x).stops (tree_of (entities_row m r) s.from s.n)
    unfolding by_entity
    outside_high k j b c e t h f u =
        u
        ∙ ap (λ (y : ℕ). ltb y x) (last-entity s.from s.n j some f)
        ∙ ap (λ (d : Bool). d || ltb (tree_of (entities_row m r) s.from s.n).greatest x) (sym h ∙ t ∙ ap (ltb x) (first-entity s.from s.n k some e))

  module _ (s : Stretch) (q : Declared) (t : ℕ) (some : 0 < s.n) where
    pub unmet_back : (k : ℕ) (b : Bool) → q ≡ AtOrBefore → k ≡ time_in m (slot_at m s.from) → b ≡ ltb t k → b ≡ (by_time (relation_of q) t).stops (tree_of (versions_row m) s.from s.n)
    unfolding by_time relation_of
    unmet_back k b z e u = u ∙ ap (ltb t) (first-time s.from s.n k some e) ∙ ap (λ (y : Declared). (by_time (relation_of y) t).stops (tree_of (versions_row m) s.from s.n)) (sym z)

    pub unmet_ahead : (k : ℕ) (b : Bool) → q ≡ AtOrAfter → k ≡ time_in m (slot_at m (s.from + (s.n - 1))) → b ≡ ltb k t → b ≡ (by_time (relation_of q) t).stops (tree_of (versions_row m) s.from s.n)
    unfolding by_time relation_of
    unmet_ahead k b z e u =
        u ∙ ap (λ (y : ℕ). ltb y t) (last_time s.from s.n k some e) ∙ ap (λ (y : Declared). (by_time (relation_of y) t).stops (tree_of (versions_row m) s.from s.n)) (sym z)

  -- ---- whether it goes left

  module _ (s : Stretch) (k : ℕ) (low : 0 < k) (high : k < s.n) where
    pub entity-left : (x j : ℕ) (b : Bool) → j ≡ entity_at m r (s.from + (k - 1)) → b ≡ leb x j
        → b ≡ (by_entity x).goes_left (tree_of (entities_row m r) s.from k) (tree_of (entities_row m r) (s.from + k) (s.n - k))
    unfolding by_entity
    entity-left x j b e u = u ∙ ap (leb x) (last-entity s.from k j low e)

    module _ (q : Declared) (t : ℕ) where
      abbrev goes : Declared → Bool
      goes y = (by_time (relation_of y) t).goes_left (tree_of (versions_row m) s.from k) (tree_of (versions_row m) (s.from + k) (s.n - k))

      pub left_back : (j : ℕ) (b : Bool) → q ≡ AtOrBefore → j ≡ time_in m (slot_at m (s.from + k)) → b ≡ ltb t j → b ≡ goes q
      unfolding by_time relation_of
      left_back j b z e u = u ∙ not_above t j ∙ ap (λ (y : ℕ). not (leb y t)) (first-time (s.from + k) (s.n - k) j (omega arith) e) ∙ ap goes (sym z)

      pub left_ahead : (j : ℕ) (b : Bool) → q ≡ AtOrAfter → j ≡ time_in m (slot_at m (s.from + (k - 1))) → b ≡ leb t j → b ≡ goes q
      unfolding by_time relation_of
      left_ahead j b z e u = u ∙ ap (leb t) (last_time s.from k j low e) ∙ ap goes (sym z)

-- ---- by the descent

abbrev pub tree_at : Descent → Bytes → Ranks → ℕ → ℕ → Known
tree_at d m r i n = tree_of (row_leaves (row_of d) m r) i n

module _ (d : Descent) (m : Bytes) (r : Ranks) where
  pub among-entity : (s : Stretch) (e : EntityKey) → d ≡ ByEntity e → Among (row_of d) r s → Among Entities r s
  among-entity s e z A = subst (λ (x : Descent). Among (row_of x) r s) z A

  pub among-version : (s : Stretch) (q : Declared) (t : TimeKey) → d ≡ ByTime q t → Among (row_of d) r s → Among Versions r s
  among-version s q t z A = subst (λ (x : Descent). Among (row_of x) r s) z A

  pub stops-entity : (i n : ℕ) (e : EntityKey) (b : Bool) → d ≡ ByEntity e → b ≡ (by_entity e.0).stops (tree_of (entities_row m r) i n) → b ≡ (descent_of d).stops (tree_at d m r i n)
  unfolding descent_of
  stops-entity i n e b z u = u ∙ ap (λ (x : Descent). (descent_of x).stops (tree_at x m r i n)) (sym z)

  pub stops-version : (i n : ℕ) (q : Declared) (t : TimeKey) (b : Bool) → d ≡ ByTime q t → b ≡ (by_time (relation_of q) t.0).stops (tree_of (versions_row m) i n) → b ≡ (descent_of d).stops (tree_at d m r i n)
  unfolding descent_of
  stops-version i n q t b z u = u ∙ ap (λ (x : Descent). (descent_of x).stops (tree_at x m r i n)) (sym z)

  pub left-entity : (i n k : ℕ) (e : EntityKey) (b : Bool) → d ≡ ByEntity e → b ≡ (by_entity e.0).goes_left (tree_of (entities_row m r) i k) (tree_of (entities_row m r) (i + k) (n - k))
      → b ≡ (descent_of d).goes_left (tree_at d m r i k) (tree_at d m r (i + k) (n - k))
  unfolding descent_of
  left-entity i n k e b z u = u ∙ ap (λ (x : Descent). (descent_of x).goes_left (tree_at x m r i k) (tree_at x m r (i + k) (n - k))) (sym z)

  pub left-version : (i n k : ℕ) (q : Declared) (t : TimeKey) (b : Bool) → d ≡ ByTime q t → b ≡ (by_time (relation_of q) t.0).goes_left (tree_of (versions_row m) i k) (tree_of (versions_row m) (i + k) (n - k))
      → b ≡ (descent_of d).goes_left (tree_at d m r i k) (tree_at d m r (i + k) (n - k))
  unfolding descent_of
  left-version i n k q t b z u = u ∙ ap (λ (x : Descent). (descent_of x).goes_left (tree_at x m r i k) (tree_at x m r (i + k) (n - k))) (sym z)

-- ---- halves

-- the left half is taken where the test says so
pub took_left : (s : Stretch) (k : ℕ) (f : ℕ → Bool) (b : Bool) → k ≡ largest_power_below s.n → b ≡ f k → b ≡ true → record { from = s.from; n = k } ≡ half_of s (f (largest_power_below s.n))
unfolding half_of
took_left s k f b e u h = ap (λ (m : ℕ). record { from = s.from; n = m }) e ∙ ap (half_of s) (sym (ap f (sym e) ∙ sym u ∙ h))

pub took_right : (s : Stretch) (k : ℕ) (f : ℕ → Bool) (b : Bool) → k ≡ largest_power_below s.n → b ≡ f k → b ≡ false
    → record { from = s.from + k; n = s.n - k } ≡ half_of s (f (largest_power_below s.n))
unfolding half_of
took_right s k f b e u h = ap (λ (m : ℕ). record { from = s.from + m; n = s.n - m }) e ∙ ap (half_of s) (sym (ap f (sym e) ∙ sym u ∙ h))

module _ (s : Stretch) (more : 1 < s.n) where
  half_low : (b : Bool) → s.from ≤ (half_of s b).from
  unfolding half_of
  half_low true = omega arith
  half_low false = omega arith

  half_some : (b : Bool) → 0 < (half_of s b).n
  unfolding half_of
  half_some true = (split_bounds s.n more).0
  half_some false = let k = (split_bounds s.n more).1 in omega arith

  half_high : (b : Bool) → (half_of s b).from + (half_of s b).n ≤ s.from + s.n
  unfolding half_of
  half_high true = let k = (split_bounds s.n more).1 in omega arith
  half_high false = let k = (split_bounds s.n more).1 in omega arith

  pub half_less : (b : Bool) → (half_of s b).n < s.n
  unfolding half_of
  half_less true = (split_bounds s.n more).1
  half_less false = let k = split_bounds s.n more in let k0 = k.0 in let k1 = k.1 in omega arith

-- ---- the walk over any row whose leaves are those of a layout

module _ {A : Type 0} (l : Layout A) (d : model.Descent) (inside : A → Opened) (a : A) (xs : List A) (R : Leaves) (i₀ n₀ : ℕ) (same : R.letter ≡ l.inner_letter) (leaves : stretch R i₀ n₀ ≡ own l xs)
    (i n depth : ℕ) (W : Way l d inside a xs i n depth) (fits : i + n ≤ n₀) where
  own-part : stretch R (i₀ + i) n ≡ own l W.part
  unfolding own
  own-part =
      sym (stretch-take R (i₀ + i) (n₀ - i) n (omega arith))
      ∙ ap (take n) (sym (stretch-drop R i₀ n₀ i (omega arith)) ∙ ap (drop i) (leaves ∙ ap (own l) W.whole))
      ∙ ap (take n) (map-drop (λ (x : A). subtree l (tip x)) i (W.front ++ (W.part ++ W.back)) ∙ ap (map (λ (x : A). subtree l (tip x))) (ap (λ (k : ℕ). drop k (W.front ++ (W.part ++ W.back))) (sym W.before) ∙ drop-append_seam W.front (W.part ++ W.back)))
      ∙ map-take (λ (x : A). subtree l (tip x)) n (W.part ++ W.back)
      ∙ ap (map (λ (x : A). subtree l (tip x))) (ap (λ (k : ℕ). take k (W.part ++ W.back)) (sym W.number) ∙ take-append_seam W.part W.back)

  tree_is : (ys : List A) (j k : ℕ) → 0 < k → length ys ≡ k → stretch R j k ≡ own l ys → tree_of R j k ≡ subtree l (tree a ys)
  unfolding own
  tree_is ys j k h e f = ap₂ subtree_of same f ∙ subtree_of-tree l a ys (omega arith)

  pub stops-is : d.stops (subtree l (tree a W.part)) ≡ d.stops (tree_of R (i₀ + i) n)
  stops-is = ap d.stops (sym (tree_is W.part (i₀ + i) n W.some-leaf W.number own-part))

  pub turns_is : (more : 1 < n) (on : d.stops (subtree l (tree a W.part)) ≡ false)
      → turns_left l d inside a xs i n depth W more on ≡ d.goes_left (tree_of R (i₀ + i) (largest_power_below n)) (tree_of R (i₀ + i + largest_power_below n) (n - largest_power_below n))
  unfolding turns_left own
  turns_is more on =
      let k = largest_power_below n in
      let b = split_bounds n more in
      let b0 = b.0 in
      let b1 = b.1 in
      ap₂ d.goes_left
      (sym (tree_is (take k W.part) (i₀ + i) k b0 (length_part_take k (omega arith))
      (sym (stretch-take R (i₀ + i) n k (omega arith)) ∙ ap (take k) own-part ∙ map-take (λ (x : A). subtree l (tip x)) k W.part)))
      (sym (tree_is (drop k W.part) (i₀ + i + k) (n - k) (omega arith) (length_part_drop k)
      (sym (stretch-drop R (i₀ + i) n k (omega arith)) ∙ ap (drop k) own-part ∙ map-drop (λ (x : A). subtree l (tip x)) k W.part)))
    where
      length_part_take : (k : ℕ) → k ≤ n → length (take k W.part) ≡ k
      length_part_take k h = length-take-le k W.part (omega (arith, W.number))

      length_part_drop : (k : ℕ) → length (drop k W.part) ≡ n - k
      length_part_drop k = length-drop k W.part ∙ omega (arith, W.number)

-- ---- where it leads

pub stopped_target : (target depth : ℕ) → target_of (Stopped target depth) ≡ target
unfolding target_of
stopped_target target depth = refl

pub stopped_depth : (target depth : ℕ) → depth_of (Stopped target depth) ≡ depth
unfolding depth_of
stopped_depth target depth = refl

pub reached_target : (target depth : ℕ) → target_of (Reached target depth) ≡ target
unfolding target_of
reached_target target depth = refl

pub reached_depth : (target depth : ℕ) → depth_of (Reached target depth) ≡ depth
unfolding depth_of
reached_depth target depth = refl

-- ---- the loop

row_letter : (row : Row) (m : Bytes) (r : Ranks) → (row_leaves row m r).letter ≡ (layout_of row).inner_letter
unfolding versions_row entities_row
row_letter Versions m r = refl
row_letter Entities m r = refl

pub record Seeking (d : Descent) (m : Bytes) (r : Ranks) (i₀ n₀ : ℕ) (s : Stretch) (depth : ℕ) : Type 0 where
  pub among : Among (row_of d) r s
  pub low : i₀ ≤ s.from
  pub high : s.from + s.n ≤ i₀ + n₀
  pub deep : s.n + depth ≤ n₀
  pub way : (xs : List (LeafOf (row_of d))) → stretch (row_leaves (row_of d) m r) i₀ n₀ ≡ own (layout_of (row_of d)) xs → (inside : LeafOf (row_of d) → Opened)
      → Way (layout_of (row_of d)) (descent_of d) inside (none_of (row_of d)) xs (s.from - i₀) s.n depth

module _ (d : Descent) (m : Bytes) (r : Ranks) (i₀ n₀ : ℕ) where
  own-length : (row : Row) (xs : List (LeafOf row)) → length (own (layout_of row) xs) ≡ length xs
  unfolding own
  own-length row xs = map-length _ xs

  pub seeking_none : 0 < n₀ → i₀ + n₀ ≤ size_of (row_of d) r → Seeking d m r i₀ n₀ (record { from = i₀; n = n₀ }) 0
  seeking_none h g =
      record {
        among = record { some = h; inside = g };
        low = omega arith;
        high = omega arith;
        deep = omega arith;
        way = λ xs e f.
            subst (λ (k : ℕ). Way (layout_of (row_of d)) (descent_of d) f (none_of (row_of d)) xs k n₀ 0) (let z : 0 ≡ i₀ - i₀ = omega arith in z)
            (way-none (layout_of (row_of d)) (descent_of d) f (none_of (row_of d)) xs n₀
            (sym (stretch-length (row_leaves (row_of d) m r) i₀ n₀) ∙ ap length e ∙ own-length (row_of d) xs) h);
      }

  module _ (s : Stretch) (depth : ℕ) (S : Seeking d m r i₀ n₀ s depth) (b : Bool) (tested : b ≡ (descent_of d).stops (tree_at d m r s.from s.n)) where
    module _ (xs : List (LeafOf (row_of d))) (e : stretch (row_leaves (row_of d) m r) i₀ n₀ ≡ own (layout_of (row_of d)) xs) (f : LeafOf (row_of d) → Opened) where
      abbrev W : Way (layout_of (row_of d)) (descent_of d) f (none_of (row_of d)) xs (s.from - i₀) s.n depth
      W = S.way xs e f

      back : i₀ + (s.from - i₀) ≡ s.from
      back = omega (arith, S.low)

      fits : s.from - i₀ + s.n ≤ n₀
      fits = omega (arith, S.low, S.high)

      stops-here : (descent_of d).stops (subtree (layout_of (row_of d)) (tree (none_of (row_of d)) W.part)) ≡ b
      stops-here =
          stops-is (layout_of (row_of d)) (descent_of d) f (none_of (row_of d)) xs (row_leaves (row_of d) m r) i₀ n₀ (row_letter (row_of d) m r) e (s.from - i₀) s.n depth W fits
          ∙ ap (λ (k : ℕ). (descent_of d).stops (tree_at d m r k s.n)) back
          ∙ sym tested

      turns_here : (more : 1 < s.n) (on : (descent_of d).stops (subtree (layout_of (row_of d)) (tree (none_of (row_of d)) W.part)) ≡ false)
          → turns_left (layout_of (row_of d)) (descent_of d) f (none_of (row_of d)) xs (s.from - i₀) s.n depth W more on
          ≡ (descent_of d).goes_left (tree_at d m r s.from (largest_power_below s.n)) (tree_at d m r (s.from + largest_power_below s.n) (s.n - largest_power_below s.n))
      turns_here more on =
          turns_is (layout_of (row_of d)) (descent_of d) f (none_of (row_of d)) xs (row_leaves (row_of d) m r) i₀ n₀ (row_letter (row_of d) m r) e (s.from - i₀) s.n depth W fits more on
          ∙ ap (λ (k : ℕ). (descent_of d).goes_left (tree_at d m r k (largest_power_below s.n)) (tree_at d m r (k + largest_power_below s.n) (s.n - largest_power_below s.n))) back

    pub seeking_leads : (r : Sought) → target_of r ≡ s.from - i₀ → depth_of r ≡ depth → Leads n₀ r
    seeking_leads r e f = record { inside = omega (arith, S.low, S.high, S.among.some); shallow = omega (arith, S.deep) }

    pub seeking_stopped : b ≡ true → (xs : List (LeafOf (row_of d))) → stretch (row_leaves (row_of d) m r) i₀ n₀ ≡ own (layout_of (row_of d)) xs → (f : LeafOf (row_of d) → Opened)
        → SoughtIs (layout_of (row_of d)) (descent_of d) f (none_of (row_of d)) xs (Stopped (s.from - i₀) depth)
    unfolding SoughtIs
    seeking_stopped h xs e f =
        record {
          known = _;
          walked = way-stopped (layout_of (row_of d)) (descent_of d) f (none_of (row_of d)) xs (s.from - i₀) s.n depth (W xs e f) (stops-here xs e f ∙ h);
        }

    pub seeking_reached : b ≡ false → s.n ≤ 1 → (xs : List (LeafOf (row_of d))) → stretch (row_leaves (row_of d) m r) i₀ n₀ ≡ own (layout_of (row_of d)) xs → (f : LeafOf (row_of d) → Opened)
        → SoughtIs (layout_of (row_of d)) (descent_of d) f (none_of (row_of d)) xs (Reached (s.from - i₀) depth)
    unfolding SoughtIs
    seeking_reached h g xs e f =
        record {
          met = way-tip (layout_of (row_of d)) (descent_of d) f (none_of (row_of d)) xs (s.from - i₀) s.n depth (W xs e f) g (stops-here xs e f ∙ h);
          walked = way-leaf (layout_of (row_of d)) (descent_of d) f (none_of (row_of d)) xs (s.from - i₀) s.n depth (W xs e f) g (stops-here xs e f ∙ h);
        }

    abbrev left : Bool
    left = (descent_of d).goes_left (tree_at d m r s.from (largest_power_below s.n)) (tree_at d m r (s.from + largest_power_below s.n) (s.n - largest_power_below s.n))

    half_from : (c : Bool) → (half_of (record { from = s.from - i₀; n = s.n }) c).from ≡ (half_of s c).from - i₀
    unfolding half_of
    half_from true = refl
    half_from false = omega (arith, S.low)

    half_n : (c : Bool) → (half_of (record { from = s.from - i₀; n = s.n }) c).n ≡ (half_of s c).n
    unfolding half_of
    half_n true = refl
    half_n false = refl

    pub seeking_more : b ≡ false → 1 < s.n → (s' : Stretch) → s' ≡ half_of s left → Seeking d m r i₀ n₀ s' (depth + 1)
    seeking_more h more s' e =
        subst (λ (z : Stretch). Seeking d m r i₀ n₀ z (depth + 1)) (sym e)
        (record {
          among = record { some = half_some s more left; inside = omega (arith, half_high s more left, S.among.inside) };
          low = omega (arith, S.low, half_low s more left);
          high = omega (arith, S.high, half_high s more left);
          deep = omega (arith, half_less s more left, S.deep);
          way = λ xs u f.
              subst (λ (k : ℕ). Way (layout_of (row_of d)) (descent_of d) f (none_of (row_of d)) xs k (half_of s left).n (depth + 1)) (half_from left)
              (subst (λ (k : ℕ). Way (layout_of (row_of d)) (descent_of d) f (none_of (row_of d)) xs (half_of (record { from = s.from - i₀; n = s.n }) left).from k (depth + 1)) (half_n left)
              (way_half (layout_of (row_of d)) (descent_of d) f (none_of (row_of d)) xs (s.from - i₀) s.n depth (W xs u f) more (stops-here xs u f ∙ h) left (turns_here xs u f more (stops-here xs u f ∙ h))));
        })

    pub seeking_less : 1 < s.n → (s' : Stretch) → s' ≡ half_of s left → s'.n < s.n
    seeking_less more s' e = omega (arith, ap (λ (z : Stretch). z.n) e, half_less s more left)

-- ---- what came of it

module _ (n : ℕ) (r : Sought) (L : Leads n r) (target depth : ℕ) where
  pub stopped_leads : r ≡ Stopped target depth → (target < n) × (depth ≤ n)
  stopped_leads e = (omega (arith, L.inside, ap target_of e, stopped_target target depth), omega (arith, L.shallow, ap depth_of e, stopped_depth target depth))

  pub reached_leads : r ≡ Reached target depth → (target < n) × (depth ≤ n)
  reached_leads e = (omega (arith, L.inside, ap target_of e, reached_target target depth), omega (arith, L.shallow, ap depth_of e, reached_depth target depth))

module _ {A : Type 0} (l : Layout A) (d : model.Descent) (inside : A → Opened) (a : A) (xs : List A) (r : Sought) (S : SoughtIs l d inside a xs r) (target depth : ℕ) where
  pub sought-stopped : r ≡ Stopped target depth → StoppedAt l d inside a xs target depth
  unfolding SoughtIs
  sought-stopped e = subst (SoughtIs l d inside a xs) e S

  pub sought-reached : r ≡ Reached target depth → ReachedAt l d inside a xs target depth
  unfolding SoughtIs
  sought-reached e = subst (SoughtIs l d inside a xs) e S

-- what the descents of the two trees are
pub time-sought : {A : Type 0} (l : Layout A) (q : Declared) (t : TimeKey) (inside : A → Opened) (a : A) (xs : List A) (r : Sought) → SoughtIs l (descent_of (ByTime q t)) inside a xs r
    → SoughtIs l (by_time (relation_of q) t.0) inside a xs r
unfolding descent_of
time-sought l q t inside a xs r S = S

pub entity-sought : {A : Type 0} (l : Layout A) (e : EntityKey) (x : ℕ) (inside : A → Opened) (a : A) (xs : List A) (r : Sought) → e.0 ≡ x → SoughtIs l (descent_of (ByEntity e)) inside a xs r
    → SoughtIs l (by_entity x) inside a xs r
unfolding descent_of
entity-sought l e x inside a xs r z S = subst (λ (y : ℕ). SoughtIs l (by_entity y) inside a xs r) z S
