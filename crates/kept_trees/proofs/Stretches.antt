-- Some leaves of a row that stand together, and their tree by halves. Assumes nothing.
use mathlib.Core.Path.{◌≡◌, refl, sym, ap, ap₂, ◌∙◌}
use mathlib.Core.List.{List, [], ◌∷◌}
use Prim.Native.Nat.{ℕ, zero, suc, ◌+◌, ◌-◌, ◌≤◌, ◌<◌}
use native.Mathlib.Omega.{arith}
use lib.ListN.{length, take, drop}
use Rattle.model.specs.Accumulator.{Subtree as Known, branch, parent, largest_power_below, tree}
use Rattle.model.proofs.Strings.{H-length}
use Rattle.model.proofs.Trees.{tree_halves}
use Rattle.accumulator.specs.Halves.{folded, leaf_count, no_known, subtree_of}
use Rattle.accumulator.proofs.Splitting.{split_bounds, subtree_of-one}
use Rattle.accumulator.proofs.Opening.{count-tree}
use Rattle.kept_trees.specs.Leaves.{Leaves, stretch, tree_of}

module _ (R : Leaves) where
  pub stretch-length : (i n : ℕ) → length (stretch R i n) ≡ n
  unfolding stretch
  stretch-length i zero = refl
  stretch-length i (suc n) = ap suc (stretch-length (suc i) n)

  pub stretch-take : (i n k : ℕ) → k ≤ n → take k (stretch R i n) ≡ stretch R i k
  unfolding stretch
  stretch-take i n zero h = refl
  stretch-take i zero (suc k) h = absurd (let z : ⊥ = omega arith in z)
  stretch-take i (suc n) (suc k) h = ap {B = List Known} (λ (ks : List Known). R.leaf i ∷ ks) (stretch-take (suc i) n k (omega arith))

  pub stretch-drop : (i n k : ℕ) → k ≤ n → drop k (stretch R i n) ≡ stretch R (i + k) (n - k)
  unfolding stretch
  stretch-drop i n zero h = ap₂ (stretch R) (let e : i ≡ i + 0 = omega arith in e) (let e : n ≡ n - 0 = omega arith in e)
  stretch-drop i zero (suc k) h = absurd (let z : ⊥ = omega arith in z)
  stretch-drop i (suc n) (suc k) h =
      stretch-drop (suc i) n k (omega arith)
      ∙ ap₂ (stretch R) (let e : suc i + k ≡ i + suc k = omega arith in e) (let e : n - k ≡ suc n - suc k = omega arith in e)

  pub stretch-one : (i n : ℕ) → 0 < n → n ≤ 1 → stretch R i n ≡ R.leaf i ∷ []
  unfolding stretch
  stretch-one i zero p h = absurd (let z : ⊥ = omega arith in z)
  stretch-one i (suc zero) p h = refl
  stretch-one i (suc (suc n)) p h = absurd (let z : ⊥ = omega arith in z)

  pub stretch-count : (i n : ℕ) → 0 < n → leaf_count (tree no_known (stretch R i n)) ≡ n
  stretch-count i n h = let l = stretch-length i n in count-tree (stretch R i n) (omega arith) ∙ l

  -- the tree of one leaf, and of two at least
  pub tree-leaf : (i n : ℕ) → 0 < n → n ≤ 1 → tree_of R i n ≡ R.leaf i
  tree-leaf i n p h = ap (subtree_of R.letter) (stretch-one i n p h) ∙ subtree_of-one R.letter (R.leaf i)

  pub stretch_halves : (i n k : ℕ) → 1 < n → k ≡ largest_power_below n → tree no_known (stretch R i n) ≡ branch (tree no_known (stretch R i k)) (tree no_known (stretch R (i + k) (n - k)))
  stretch_halves i n k h e =
      let l = stretch-length i n in
      let b = (split_bounds n h).1 in
      let q : largest_power_below (length (stretch R i n)) ≡ k = ap largest_power_below l ∙ sym e in
      tree_halves no_known (stretch R i n) (omega arith)
      ∙ ap (λ (x : ℕ). branch (tree no_known (take x (stretch R i n))) (tree no_known (drop x (stretch R i n)))) q
      ∙ ap₂ (λ (x y : List Known). branch (tree no_known x) (tree no_known y)) (stretch-take i n k (omega arith)) (stretch-drop i n k (omega arith))

  pub tree_of_halves : (i n k : ℕ) → 1 < n → k ≡ largest_power_below n → tree_of R i n ≡ parent R.letter (tree_of R i k) (tree_of R (i + k) (n - k))
  unfolding subtree_of folded
  tree_of_halves i n k h e = ap (folded R.letter) (stretch_halves i n k h e)

-- ---- what a tree is known by

parent_32 : (letter : ℕ) (a b : Known) → length (parent letter a b).digest ≡ 32
unfolding parent
parent_32 letter a b = H-length _

parent-least : (letter : ℕ) (a b : Known) → (parent letter a b).least ≡ a.least
unfolding parent
parent-least letter a b = refl

parent-greatest : (letter : ℕ) (a b : Known) → (parent letter a b).greatest ≡ b.greatest
unfolding parent
parent-greatest letter a b = refl

module _ (R : Leaves) where
  least_by : (fuel i n : ℕ) → n ≤ fuel → 0 < n → (tree_of R i n).least ≡ (R.leaf i).least
  least_by zero i n f p = absurd (let z : ⊥ = omega arith in z)
  least_by (suc fuel) i zero f p = absurd (let z : ⊥ = omega arith in z)
  least_by (suc fuel) i (suc zero) f p = ap (λ (k : Known). k.least) (tree-leaf R i 1 (omega arith) (omega arith))
  least_by (suc fuel) i (suc (suc n)) f p =
      let b = split_bounds (suc (suc n)) (omega arith) in
      let b0 = b.0 in
      let b1 = b.1 in
      ap (λ (k : Known). k.least) (tree_of_halves R i (suc (suc n)) _ (omega arith) refl)
      ∙ parent-least R.letter _ _
      ∙ least_by fuel i (largest_power_below (suc (suc n))) (omega arith) b0

  greatest_by : (fuel i n : ℕ) → n ≤ fuel → 0 < n → (tree_of R i n).greatest ≡ (R.leaf (i + (n - 1))).greatest
  greatest_by zero i n f p = absurd (let z : ⊥ = omega arith in z)
  greatest_by (suc fuel) i zero f p = absurd (let z : ⊥ = omega arith in z)
  greatest_by (suc fuel) i (suc zero) f p =
      ap (λ (k : Known). k.greatest) (tree-leaf R i 1 (omega arith) (omega arith)) ∙ ap (λ (x : ℕ). (R.leaf x).greatest) (let z : i ≡ i + (1 - 1) = omega arith in z)
  greatest_by (suc fuel) i (suc (suc n)) f p =
      let k = largest_power_below (suc (suc n)) in
      let b = split_bounds (suc (suc n)) (omega arith) in
      let b0 = b.0 in
      let b1 = b.1 in
      ap (λ (k : Known). k.greatest) (tree_of_halves R i (suc (suc n)) _ (omega arith) refl)
      ∙ parent-greatest R.letter _ _
      ∙ greatest_by fuel (i + k) (suc (suc n) - k) (omega arith) (omega arith)
      ∙ ap (λ (x : ℕ). (R.leaf x).greatest) (let z : i + k + (suc (suc n) - k - 1) ≡ i + (suc (suc n) - 1) = omega arith in z)

  pub tree-least : (i n : ℕ) → 0 < n → (tree_of R i n).least ≡ (R.leaf i).least
  tree-least i n p = least_by n i n (omega arith) p

  pub tree-greatest : (i n : ℕ) → 0 < n → (tree_of R i n).greatest ≡ (R.leaf (i + (n - 1))).greatest
  tree-greatest i n p = greatest_by n i n (omega arith) p

  pub tree_32 : ((g : ℕ) → length (R.leaf g).digest ≡ 32) → (i n : ℕ) → 0 < n → length (tree_of R i n).digest ≡ 32
  tree_32 w i zero h = absurd (let z : ⊥ = omega arith in z)
  tree_32 w i (suc zero) h = ap (λ (k : Known). length k.digest) (tree-leaf R i 1 (omega arith) (omega arith)) ∙ w i
  tree_32 w i (suc (suc n)) h = ap (λ (k : Known). length k.digest) (tree_of_halves R i (suc (suc n)) _ (omega arith) refl) ∙ parent_32 R.letter _ _
