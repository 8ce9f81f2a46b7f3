-- The strings on the way to a leaf of a kept tree, by halves, over any row of leaves. Assumes nothing.
use mathlib.Core.Path.{◌≡◌, sym, ap, ◌∙◌}
use mathlib.Core.Bool.{Bool, cond}
use mathlib.Core.List.{List, [], ◌∷◌}
use Prim.Native.Nat.{ℕ, suc, ◌+◌, ◌-◌, ◌*◌, ◌≤◌, ◌<◌}
use native.Mathlib.Omega.{arith}
use borrow.Author.Tests.{lt-ltb, le-ltb}
use lib.Dec.{ltb}
use lib.ListN.{length, length-append}
use Rattle.fields.specs.Fields.{written}
use Rattle.fields.proofs.Places.{written_none, written_behind}
use Rattle.model.specs.Numbers.{Bytes, joined}
use Rattle.model.specs.Accumulator.{Subtree as Known, branch_string, largest_power_below}
use Rattle.model.proofs.Open.{branch-length}
use Rattle.accumulator.specs.Halves.{subtree_of, path_to}
use Rattle.accumulator.proofs.Splitting.{split_bounds}
use Rattle.accumulator.proofs.Opening.{path-none, path-one, path_two}
use Rattle.kept_trees.specs.Leaves.{Leaves, stretch, tree_of}
use Rattle.kept_trees.specs.Kept.{way_to, WayPut}
use Rattle.kept_trees.proofs.Stretches.{stretch-length, stretch-take, stretch-drop, tree_32}

module _ (R : Leaves) (from n target depth : ℕ) (out : Bytes) (at : ℕ) (some : 0 < n) where
  abbrev ks : List Known
  ks = stretch R from n

  nothing_put : way_to R from n (target - from) depth ≡ [] → WayPut R from n (target - from) depth out out at
  nothing_put e =
      record {
        strings = sym (written_none out at) ∙ ap (λ (ss : List Bytes). written out at (joined ss)) (sym e);
        short = omega (arith, ap (λ (ss : List Bytes). length (joined ss)) e);
      }

  pub way-stops : depth ≡ 0 → WayPut R from n (target - from) depth out out at
  way-stops e = nothing_put (ap (way_to R from n (target - from)) e ∙ path-none R.letter ks (target - from))

  pub way-leaf : n ≤ 1 → WayPut R from n (target - from) depth out out at
  way-leaf h = let l = stretch-length R from n in nothing_put (path-one R.letter ks (target - from) depth (omega arith) (omega arith))

  module _ (wide : (g : ℕ) → length (R.leaf g).digest ≡ 32) (k : ℕ) (more : 1 < n) (deep : depth ≡ 0 → ⊥) (split : k ≡ largest_power_below n) (left right : Known) (below : from ≤ target)
      (fits : at + 97 * depth ≤ length out) (lk : left ≡ tree_of R from k) (rk : right ≡ tree_of R (from + k) (n - k))
      (out1 out2 : Bytes) (front : out1 ≡ written out at (branch_string R.letter left right)) where
    low : 0 < k
    low = let q = (split_bounds n more).0 in omega arith

    high : k < n
    high = let q = (split_bounds n more).1 in omega arith

    branch_97 : length (branch_string R.letter left right) ≡ 97
    branch_97 =
        branch-length R.letter left right (ap (λ (x : Known). length x.digest) lk ∙ tree_32 R wide from k low)
        (ap (λ (x : Known). length x.digest) rk ∙ tree_32 R wide (from + k) (n - k) (omega (arith, high)))

    way : way_to R from n (target - from) depth
        ≡ branch_string R.letter left right ∷ cond (ltb (target - from) k) (way_to R from k (target - from) (depth - 1)) (way_to R (from + k) (n - k) (target - from - k) (depth - 1))
    way =
        let l = stretch-length R from n in
        let t = stretch-take R from n k (omega (arith, high)) in
        let u = stretch-drop R from n k (omega (arith, high)) in
        ap (path_to R.letter ks (target - from)) (let z : depth ≡ suc (depth - 1) = omega arith in z)
        ∙ path_two R.letter ks (target - from) (depth - 1) k (omega arith) (split ∙ ap largest_power_below (sym l))
        ∙ (λ z. branch_string R.letter ((ap (subtree_of R.letter) t ∙ sym lk) z) ((ap (subtree_of R.letter) u ∙ sym rk) z)
        ∷ cond (ltb (target - from) k) (path_to R.letter (t z) (target - from) (depth - 1)) (path_to R.letter (u z) (target - from - k) (depth - 1)))

    put : (ss : List Bytes) → way_to R from n (target - from) depth ≡ branch_string R.letter left right ∷ ss → out2 ≡ written out1 (at + 97) (joined ss) → length (joined ss) ≤ 97 * (depth - 1)
        → WayPut R from n (target - from) depth out out2 at
    put ss e w s =
        let p = length-append (branch_string R.letter left right) (joined ss) in
        record {
          strings =
              w
              ∙ ap (λ (x : Bytes). written x (at + 97) (joined ss)) front
              ∙ written_behind out at (branch_string R.letter left right) (joined ss) (at + 97) (omega (arith, branch_97)) (omega (arith, branch_97))
              ∙ ap (λ (xs : List Bytes). written out at (joined xs)) (sym e);
          short = omega (arith, branch_97, ap (λ (xs : List Bytes). length (joined xs)) e);
        }

    pub way-left : target < from + k → WayPut R from k (target - from) (depth - 1) out1 out2 (at + 97) → WayPut R from n (target - from) depth out out2 at
    way-left h q =
        put (way_to R from k (target - from) (depth - 1))
        (way
        ∙ ap (λ (c : Bool). branch_string R.letter left right ∷ cond c (way_to R from k (target - from) (depth - 1)) (way_to R (from + k) (n - k) (target - from - k) (depth - 1))) (lt-ltb (target - from) k (omega arith)))
        q.strings q.short

    pub way-right : from + k ≤ target → WayPut R (from + k) (n - k) (target - (from + k)) (depth - 1) out1 out2 (at + 97) → WayPut R from n (target - from) depth out out2 at
    way-right h q =
        let t : target - (from + k) ≡ target - from - k = omega arith in
        put (way_to R (from + k) (n - k) (target - (from + k)) (depth - 1))
        (way
        ∙ ap (λ (c : Bool). branch_string R.letter left right ∷ cond c (way_to R from k (target - from) (depth - 1)) (way_to R (from + k) (n - k) (target - from - k) (depth - 1))) (le-ltb (target - from) k (omega arith))
        ∙ ap (λ (x : ℕ). branch_string R.letter left right ∷ way_to R (from + k) (n - k) x (depth - 1)) (sym t))
        q.strings q.short
