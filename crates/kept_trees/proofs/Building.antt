-- Kept trees by halves, over any row of leaves. Assumes nothing.
use mathlib.Core.Path.{◌≡◌, refl, sym, ap, ap₂, ◌∙◌, subst}
use mathlib.Core.List.{[], ◌∷◌}
use Prim.Native.Nat.{ℕ, ◌+◌, ◌-◌, ◌*◌, ◌≤◌, ◌<◌}
use native.Mathlib.Omega.{arith}
use lib.Dec.{lit≤}
use lib.ListN.{length}
use Rattle.fields.specs.Fields.{part, written}
use Rattle.fields.proofs.Places.{part-all}
use Rattle.model.specs.Numbers.{Bytes}
use Rattle.model.specs.Accumulator.{Subtree as Known, Tree, tip, branch, parent, largest_power_below, tree}
use Rattle.model.proofs.Trees.{tree-one}
use Rattle.graph.specs.Table.{columns, Kept}
use Rattle.graph.proofs.Slots.{kept-written, slot-here, slot_apart}
use Rattle.accumulator.specs.declared.Subtree.{Subtree}
use Rattle.accumulator.specs.Trees.{known, parent_of}
use Rattle.accumulator.specs.Halves.{folded, leaf_count, no_known, subtree_of}
use Rattle.accumulator.proofs.Strings.{known-parent}
use Rattle.accumulator.proofs.Splitting.{split_bounds}
use Rattle.leaves.specs.Leaves.{digest_in}
use Rattle.kept_trees.specs.Leaves.{Leaves, stretch, tree_of}
use Rattle.kept_trees.specs.Kept.{LeafDigests, Keeps, KeptTree, node_kept, Stored, Keeping}
use Rattle.kept_trees.proofs.Stretches.{stretch-one, stretch-count, stretch_halves, tree-leaf, tree_of_halves, tree-least, tree-greatest}

-- ---- a tree stays kept where its digests stay

some-count : {A : Type 0} (t : Tree A) → 0 < leaf_count t
unfolding leaf_count
some-count (tip a) = omega arith
some-count (branch s t) = let p = some-count s in omega arith

keeps_same : (R : Leaves) (w w' : Bytes) (t : Tree Known) (i : ℕ) → ((j : ℕ) → i < j → j < i + leaf_count t → digest_in w' (R.slot j) ≡ digest_in w (R.slot j))
    → Keeps R w i t → Keeps R w' i t
unfolding Keeps leaf_count
keeps_same R w w' (tip k) i h K = K
keeps_same R w w' (branch s t) i h K =
    let p = some-count s in
    let q = some-count t in (
      h (i + leaf_count s) (omega arith) (omega arith) ∙ K.0,
      keeps_same R w w' s i (λ j a b. h j a (omega arith)) K.1,
      keeps_same R w w' t (i + leaf_count s) (λ j a b. h j (omega arith) (omega arith)) K.2,
    )

pub kept_same : (R : Leaves) (w w' : Bytes) (i n : ℕ) → 0 < n → ((j : ℕ) → i < j → j < i + n → digest_in w' (R.slot j) ≡ digest_in w (R.slot j)) → KeptTree R w i n → KeptTree R w' i n
kept_same R w w' i n p h K =
    record { keeps = keeps_same R w w' (tree no_known (stretch R i n)) i (λ j a b. h j a (omega (arith, stretch-count R i n p))) K.keeps }

-- ---- the halves of a kept tree

pub record Halves (R : Leaves) (m : Bytes) (i n k : ℕ) : Type 0 where
  pub digest : digest_in m (R.slot (i + k)) ≡ (tree_of R i n).digest
  pub left : KeptTree R m i k
  pub right : KeptTree R m (i + k) (n - k)

of-branch : (R : Leaves) (m : Bytes) (i k : ℕ) (s t : Tree Known) → leaf_count s ≡ k → Keeps R m i (branch s t)
    → (digest_in m (R.slot (i + k)) ≡ (folded R.letter (branch s t)).digest) × Keeps R m i s × Keeps R m (i + k) t
unfolding Keeps
of-branch R m i k s t c K = (ap (λ (x : ℕ). digest_in m (R.slot (i + x))) (sym c) ∙ K.0, K.1, subst (λ (x : ℕ). Keeps R m (i + x) t) c K.2)

to-branch : (R : Leaves) (m : Bytes) (i k : ℕ) (s t : Tree Known) → leaf_count s ≡ k → digest_in m (R.slot (i + k)) ≡ (folded R.letter (branch s t)).digest
    → Keeps R m i s → Keeps R m (i + k) t → Keeps R m i (branch s t)
unfolding Keeps
to-branch R m i k s t c d l r = (ap (λ (x : ℕ). digest_in m (R.slot (i + x))) c ∙ d, l, subst (λ (x : ℕ). Keeps R m (i + x) t) (sym c) r)

module _ (R : Leaves) (m : Bytes) (i n k : ℕ) (h : 1 < n) (e : k ≡ largest_power_below n) where
  left-count : leaf_count (tree no_known (stretch R i k)) ≡ k
  left-count = stretch-count R i k (let b = (split_bounds n h).0 in omega arith)

  pub kept_halves : KeptTree R m i n → Halves R m i n k
  unfolding subtree_of
  kept_halves K =
      let hs = stretch_halves R i n k h e in
      let q = of-branch R m i k _ _ left-count (subst (Keeps R m i) hs K.keeps) in
      record { digest = q.0 ∙ ap (λ (t : Tree Known). (folded R.letter t).digest) (sym hs); left = record { keeps = q.1 }; right = record { keeps = q.2 } }

  pub halves_kept : Halves R m i n k → KeptTree R m i n
  unfolding subtree_of
  halves_kept H =
      let hs = stretch_halves R i n k h e in
      record {
        keeps = subst (Keeps R m i) (sym hs)
            (to-branch R m i k _ _ left-count (H.digest ∙ ap (λ (t : Tree Known). (folded R.letter t).digest) hs) H.left.keeps H.right.keeps);
      }

  -- what a table says of a kept tree
  pub node-is : (r : Known) → r ≡ node_kept R m i n k → KeptTree R m i n → r ≡ tree_of R i n
  unfolding node_kept
  node-is r f K =
      let a = sym (tree-least R i n (omega arith)) in
      let b = sym (tree-greatest R i n (omega arith)) in
      let d = (kept_halves K).digest in
      f ∙ (λ z. record { least = a z; greatest = b z; digest = d z })

-- ---- keeping a tree

pub stored_is : (w w' : Bytes) (s : ℕ) (d : Bytes) → length d ≡ 32 → 128 * s + 128 ≤ length w → w' ≡ written w (128 * s + 84) (part d 0 32) → Stored w w' s d
stored_is w w' s d wide room e =
    let f : w' ≡ written w (128 * s + 84) d = e ∙ ap (written w (128 * s + 84)) (part-all d 32 wide) in
    record {
      kept = subst (Kept (columns 84 116 ∷ []) w) (sym f) (kept-written w s 84 d 32 wide room (lit≤ tt) 84 116 (lit≤ tt) (lit≤ tt));
      others = λ j h. ap (λ (x : Bytes). digest_in x j) f ∙ slot_apart w s 84 d 32 wide room (lit≤ tt) j 84 32 h (lit≤ tt);
      here = ap (λ (x : Bytes). digest_in x s) f ∙ slot-here w s 84 d 32 wide room (lit≤ tt);
    }

tip-kept : (R : Leaves) (m : Bytes) (i : ℕ) (k : Known) → Keeps R m i (tip k)
unfolding Keeps
tip-kept R m i k = tt

-- a tree of one leaf, whose digest is kept
pub keeping_one : (R : Leaves) (m : Bytes) (i n : ℕ) (r : Known) → 0 < n → n ≤ 1 → r ≡ node_kept R m i n 0 → LeafDigests R m i n → Keeping R m m i n r
unfolding node_kept
keeping_one R m i n r p h e L =
    let y : i + (n - 1) ≡ i = omega arith in
    let z : i + 0 ≡ i = omega arith in
    let g : (R.leaf (i + (n - 1))).greatest ≡ (R.leaf i).greatest = ap (λ (x : ℕ). (R.leaf x).greatest) y in
    let d : digest_in m (R.slot (i + 0)) ≡ (R.leaf i).digest = ap (λ (x : ℕ). digest_in m (R.slot x)) z ∙ L.here i (omega arith) (omega arith) in
    let is : r ≡ R.leaf i = e ∙ (λ j. record { least = (R.leaf i).least; greatest = g j; digest = d j }) in
    record {
      root = is ∙ sym (tree-leaf R i n p h);
      others = λ j g. refl;
      tree_kept = record { keeps = subst (Keeps R m i) (sym (ap (tree no_known) (stretch-one R i n p h) ∙ tree-one no_known (R.leaf i))) (tip-kept R m i (R.leaf i)) };
    }

-- the slots of the leaves rise
pub record Rises (R : Leaves) (i n : ℕ) : Type 0 where
  pub rise : (x y : ℕ) → i ≤ x → x < y → y < i + n → R.slot x < R.slot y

-- the digests of a tree's right leaves are kept after its left half is built, and those of its left ones before
pub leaves-left : (R : Leaves) (w : Bytes) (i n k : ℕ) → k ≤ n → LeafDigests R w i n → LeafDigests R w i k
leaves-left R w i n k h L = record { here = λ x a b. L.here x a (omega arith) }

pub leaves-right : (R : Leaves) (w w1 : Bytes) (i n k : ℕ) (a : Known) → Rises R i n → 0 < k → k ≤ n → Keeping R w w1 i k a → LeafDigests R w i n → LeafDigests R w1 (i + k) (n - k)
leaves-right R w w1 i n k a O low high A L =
    record {
      here = λ x p q.
          A.others (R.slot x) (λ y s t u. let v = O.rise y x (omega arith) (omega arith) (omega arith) in let z : ⊥ = omega arith in z)
          ∙ L.here x (omega arith) (omega arith);
    }

module _ (R : Leaves) (w w1 w2 w3 : Bytes) (i n k : ℕ) (a b r : Subtree) (O : Rises R i n) (h : 1 < n) (e : k ≡ largest_power_below n)
    (A : Keeping R w w1 i k (known a)) (B : Keeping R w1 w2 (i + k) (n - k) (known b)) (er : r ≡ parent_of R.letter a b) (S : Stored w2 w3 (R.slot (i + k)) r.digest) where
  low : 0 < k
  low = let q = (split_bounds n h).0 in omega arith

  high : k < n
  high = let q = (split_bounds n h).1 in omega arith

  above : known r ≡ parent R.letter (known a) (known b)
  above = ap known er ∙ known-parent R.letter a b

  both : parent R.letter (known a) (known b) ≡ tree_of R i n
  both = ap₂ (parent R.letter) A.root B.root ∙ sym (tree_of_halves R i n k h e)

  others : (j : ℕ) → ((x : ℕ) → i < x → x < i + n → j ≡ R.slot x → ⊥) → digest_in w3 j ≡ digest_in w j
  others j g =
      S.others j (g (i + k) (omega (arith, low)) (omega (arith, high)))
      ∙ B.others j (λ x p q. g x (omega arith) (omega (arith, high)))
      ∙ A.others j (λ x p q. g x p (omega (arith, high)))

  left-kept : KeptTree R w3 i k
  left-kept =
      kept_same R w1 w3 i k low
      (λ j p q.
      S.others (R.slot j) (λ x. let y = O.rise j (i + k) (omega arith) (omega arith) (omega (arith, high)) in let z : ⊥ = omega arith in z)
      ∙ B.others (R.slot j) (λ x s t u. let y = O.rise j x (omega arith) (omega arith) (omega (arith, high)) in let z : ⊥ = omega arith in z))
      A.tree_kept

  right_kept : KeptTree R w3 (i + k) (n - k)
  right_kept =
      kept_same R w2 w3 (i + k) (n - k) (omega (arith, high))
      (λ j p q. S.others (R.slot j) (λ x. let y = O.rise (i + k) j (omega arith) p (omega (arith, high)) in let z : ⊥ = omega arith in z))
      B.tree_kept

  pub keeping_two : Keeping R w w3 i n (known r)
  unfolding known
  keeping_two =
      record {
        root = above ∙ both;
        others = others;
        tree_kept = halves_kept R w3 i n k h e (record { digest = S.here ∙ ap (λ (x : Known). x.digest) (above ∙ both); left = left-kept; right = right_kept });
      }
