-- The strings that a span of times opens of a kept tree, half by half. Assumes nothing.
use mathlib.Core.Path.{◌≡◌, refl, sym, ap, ap₂, ◌∙◌, subst}
use mathlib.Core.Bool.{Bool, true, false, not, ◌&&◌}
use mathlib.Core.List.{List, [], ◌∷◌, ◌++◌, map, append-nil, append_assoc}
use Prim.Native.Nat.{ℕ, zero, suc, ◌+◌, ◌-◌, ◌≤◌, ◌<◌}
use native.Mathlib.Omega.{arith}
use borrow.Author.Tests.{lt-leb, le-leb, ltb-true, ltb-false}
use lib.Dec.{T, ltb, leb}
use lib.ListN.{length, take, drop, length-append}
use Rattle.fields.specs.Fields.{written}
use Rattle.fields.proofs.Places.{written_none}
use Rattle.model.specs.Numbers.{Bytes, joined}
use Rattle.model.specs.Graph.{VersionNode}
use Rattle.model.specs.Accumulator.{Subtree as Known, Tree, tip, branch, branch_string, subtree, tree, largest_power_below, VersionLeaf, versions_layout, no_leaf, leaf_string, string_of}
use Rattle.model.specs.Question.{SpanQuestion, OpenedAll, open_all, within}
use Rattle.model.proofs.Open.{branch-length}
use Rattle.model.proofs.Strings.{joined-append}
use Rattle.model.proofs.Trees.{tree-one, tree_halves}
use Rattle.model.proofs.Preorder.{shut, open_tip, open_branch}
use Rattle.graph.specs.Table.{time_in, nodes_in}
use Rattle.graph.proofs.Nodes.{map-length}
use Rattle.accumulator.specs.Halves.{own, subtree_of}
use Rattle.accumulator.proofs.Strings.{then}
use Rattle.accumulator.proofs.Splitting.{split_bounds, subtree_of-tree, map-take, map-drop}
use Rattle.trees.specs.Tables.{Graphed, version_at}
use Rattle.ranks.specs.declared.Ranks.{Ranks}
use Rattle.ranks.specs.Ranked.{slot_at, slots_in, RankedAs}
use Rattle.ranks.proofs.Slots.{slots_length}
use Rattle.kept_trees.specs.Leaves.{tree_of, versions_row}
use Rattle.kept_trees.proofs.Graphs.{versions-stretch}
use Rattle.proof_writer.specs.declared.Stretch.{Stretch}
use Rattle.proof_writer.specs.Spans.{versions_in, span_strings}
use Rattle.accumulator.proofs.Strings.{digest_32}
use Rattle.proof_writer.proofs.Seeking.{first-time, last_time}
use Rattle.proof_writer.proofs.Writing.{version_77}

-- ---- whether a tree meets the span

module _ (m : Bytes) (r : Ranks) (s : Stretch) (p : SpanQuestion) (some : 0 < s.n) where
  pub meets_not : (k : ℕ) (b : Bool) → k ≡ time_in m (slot_at m s.from) → b ≡ ltb p.to k → b ≡ true → false ≡ within p (tree_of (versions_row m) s.from s.n)
  unfolding within
  meets_not k b e t h =
      let f = first-time m r s.from s.n k some e in
      let l = ltb-true p.to k (sym t ∙ h) in
      ap (λ (c : Bool). c && leb p.from (tree_of (versions_row m) s.from s.n).greatest) (sym (lt-leb (tree_of (versions_row m) s.from s.n).least p.to (omega arith)))

  pub meets_by : (k j : ℕ) (b c : Bool) → k ≡ time_in m (slot_at m s.from) → b ≡ ltb p.to k → b ≡ false → j ≡ time_in m (slot_at m (s.from + (s.n - 1))) → c ≡ leb p.from j
      → c ≡ within p (tree_of (versions_row m) s.from s.n)
  unfolding within
  meets_by k j b c e t h f u =
      let x = first-time m r s.from s.n k some e in
      let l = ltb-false p.to k (sym t ∙ h) in
      u ∙ ap (leb p.from) (last_time m r s.from s.n j some f)
      ∙ ap (λ (d : Bool). d && leb p.from (tree_of (versions_row m) s.from s.n).greatest) (sym (le-leb (tree_of (versions_row m) s.from s.n).least p.to (omega arith)))

-- ---- the tree of ranked versions by halves

slots-take : (work : Bytes) (i n k : ℕ) → k ≤ n → take k (slots_in work i n) ≡ slots_in work i k
unfolding slots_in
slots-take work i n zero h = refl
slots-take work i zero (suc k) h = absurd (let z : ⊥ = omega arith in z)
slots-take work i (suc n) (suc k) h = ap {B = List ℕ} (λ (ks : List ℕ). slot_at work i ∷ ks) (slots-take work (suc i) n k (omega arith))

slots-drop : (work : Bytes) (i n k : ℕ) → k ≤ n → drop k (slots_in work i n) ≡ slots_in work (i + k) (n - k)
unfolding slots_in
slots-drop work i n zero h = ap₂ (slots_in work) (let e : i ≡ i + 0 = omega arith in e) (let e : n ≡ n - 0 = omega arith in e)
slots-drop work i zero (suc k) h = absurd (let z : ⊥ = omega arith in z)
slots-drop work i (suc n) (suc k) h =
    slots-drop work (suc i) n k (omega arith)
    ∙ ap₂ (slots_in work) (let e : suc i + k ≡ i + suc k = omega arith in e) (let e : n - k ≡ suc n - suc k = omega arith in e)

module _ (ns : List VersionNode) (work : Bytes) (p : SpanQuestion) where
  abbrev tree_in : ℕ → ℕ → Tree VersionLeaf
  tree_in i n = tree no_leaf (versions_in ns work i n)

  in_length : (i n : ℕ) → length (versions_in ns work i n) ≡ n
  in_length i n = map-length (version_at ns) (slots_in work i n) ∙ slots_length work i n

  one-version : (i n : ℕ) → 0 < n → n ≤ 1 → tree_in i n ≡ tip (version_at ns (slot_at work i))
  unfolding slots_in
  one-version i zero a b = absurd (let z : ⊥ = omega arith in z)
  one-version i (suc zero) a b = tree-one no_leaf (version_at ns (slot_at work i))
  one-version i (suc (suc n)) a b = absurd (let z : ⊥ = omega arith in z)

  two_halves : (i n k : ℕ) → 1 < n → k ≡ largest_power_below n → tree_in i n ≡ branch (tree_in i k) (tree_in (i + k) (n - k))
  two_halves i n k h e =
      let l = in_length i n in
      let b = (split_bounds n h).1 in
      let q : largest_power_below (length (versions_in ns work i n)) ≡ k = ap largest_power_below l ∙ sym e in
      tree_halves no_leaf (versions_in ns work i n) (omega arith)
      ∙ ap (λ (x : ℕ). branch (tree no_leaf (take x (versions_in ns work i n))) (tree no_leaf (drop x (versions_in ns work i n)))) q
      ∙ ap₂ (λ (x y : List VersionLeaf). branch (tree no_leaf x) (tree no_leaf y))
      (map-take (version_at ns) k (slots_in work i n) ∙ ap (map (version_at ns)) (slots-take work i n k (omega arith)))
      (map-drop (version_at ns) k (slots_in work i n) ∙ ap (map (version_at ns)) (slots-drop work i n k (omega arith)))

  module _ (size : ℕ) (G : Graphed work size ns) (r : Ranks) (R : RankedAs work ns r) where
    known_in : (i n : ℕ) → 0 < n → i + n ≤ r.versions → tree_of (versions_row work) i n ≡ subtree versions_layout (tree_in i n)
    unfolding versions_row own
    known_in i n h g = ap (subtree_of 0x4e) (versions-stretch work ns G.digested r R i n g) ∙ subtree_of-tree versions_layout no_leaf (versions_in ns work i n) (omega (arith, in_length i n))

    module _ (i n : ℕ) (some : 0 < n) (inside : i + n ≤ r.versions) (b : Bool) (tested : b ≡ within p (tree_of (versions_row work) i n)) where
      met : (t : Tree VersionLeaf) → tree_in i n ≡ t → within p (subtree versions_layout t) ≡ b
      met t e = ap (λ (x : Tree VersionLeaf). within p (subtree versions_layout x)) (sym e) ∙ ap (within p) (sym (known_in i n some inside)) ∙ sym tested

      pub span_shut : b ≡ false → span_strings ns work p i n ≡ []
      unfolding span_strings
      span_shut h = ap (λ (w : OpenedAll VersionLeaf). w.opened) (shut versions_layout (within p) (tree_in i n) (subst (λ (c : Bool). T (not c)) (sym (met (tree_in i n) refl ∙ h)) tt))

      pub span_leaf : b ≡ true → n ≤ 1 → span_strings ns work p i n ≡ leaf_string (version_at ns (slot_at work i)).leaf ∷ []
      unfolding span_strings
      span_leaf h one =
          let t = one-version i n some one in
          ap (λ (x : Tree VersionLeaf). (open_all versions_layout (within p) x).opened) t
          ∙ ap (λ (w : OpenedAll VersionLeaf). w.opened) (open_tip versions_layout (within p) (version_at ns (slot_at work i)) (subst T (sym (met _ t ∙ h)) tt))

      module _ (k : ℕ) (more : 1 < n) (split : k ≡ largest_power_below n) where
        low : 0 < k
        low = let q = (split_bounds n more).0 in omega arith

        high : k < n
        high = let q = (split_bounds n more).1 in omega arith

        pub span_branch : b ≡ true
            → span_strings ns work p i n
            ≡ branch_string 0x4e (tree_of (versions_row work) i k) (tree_of (versions_row work) (i + k) (n - k)) ∷ (span_strings ns work p i k ++ span_strings ns work p (i + k) (n - k))
        unfolding span_strings string_of
        span_branch h =
            let t = two_halves i n k more split in
            ap (λ (x : Tree VersionLeaf). (open_all versions_layout (within p) x).opened) t
            ∙ ap (λ (w : OpenedAll VersionLeaf). w.opened) (open_branch versions_layout (within p) (tree_in i k) (tree_in (i + k) (n - k)) (subst T (sym (met _ t ∙ h)) tt))
            ∙ ap₂ (λ (x y : Known). branch_string 0x4e x y ∷ ((open_all versions_layout (within p) (tree_in i k)).opened ++ (open_all versions_layout (within p) (tree_in (i + k) (n - k))).opened))
            (sym (known_in i k low (omega (arith, high)))) (sym (known_in (i + k) (n - k) (omega (arith, high)) (omega (arith, high))))

        branch_97 : length (branch_string 0x4e (tree_of (versions_row work) i k) (tree_of (versions_row work) (i + k) (n - k))) ≡ 97
        branch_97 =
            branch-length 0x4e _ _ (ap (λ (x : Known). length x.digest) (known_in i k low (omega (arith, high))) ∙ digest_32 versions_layout (tree_in i k))
            (ap (λ (x : Known). length x.digest) (known_in (i + k) (n - k) (omega (arith, high)) (omega (arith, high))) ∙ digest_32 versions_layout (tree_in (i + k) (n - k)))

        pub branch-size : b ≡ true
            → length (joined (span_strings ns work p i n)) ≡ 97 + (length (joined (span_strings ns work p i k)) + length (joined (span_strings ns work p (i + k) (n - k))))
        branch-size h =
            let ls = span_strings ns work p i k in
            let rs = span_strings ns work p (i + k) (n - k) in
            let B = branch_string 0x4e (tree_of (versions_row work) i k) (tree_of (versions_row work) (i + k) (n - k)) in
            ap (λ (ss : List Bytes). length (joined ss)) (span_branch h)
            ∙ length-append B (joined (ls ++ rs))
            ∙ omega (arith, branch_97, ap length (joined-append ls rs), length-append (joined ls) (joined rs))

        -- the string N and both halves behind it
        pub branch_put : b ≡ true → (left right : Known) (out out1 out2 out3 : Bytes) (at mid : ℕ) → left ≡ tree_of (versions_row work) i k → right ≡ tree_of (versions_row work) (i + k) (n - k)
            → at + length (joined (span_strings ns work p i n)) ≤ length out → out1 ≡ written out at (branch_string 0x4e left right)
            → out2 ≡ written out1 (at + 97) (joined (span_strings ns work p i k)) → mid ≡ at + 97 + length (joined (span_strings ns work p i k))
            → out3 ≡ written out2 mid (joined (span_strings ns work p (i + k) (n - k))) → out3 ≡ written out at (joined (span_strings ns work p i n))
        branch_put h left right out out1 out2 out3 at mid el er room e1 e2 em e3 =
            let ls = span_strings ns work p i k in
            let rs = span_strings ns work p (i + k) (n - k) in
            let B = branch_string 0x4e (tree_of (versions_row work) i k) (tree_of (versions_row work) (i + k) (n - k)) in
            let s = branch-size h in
            let w = branch_97 in
            then out out2 out3 (B ++ joined ls) (joined rs) at mid
            (then out out1 out2 B (joined ls) at (at + 97) (e1 ∙ ap₂ (λ (x y : Known). written out at (branch_string 0x4e x y)) el er) e2 (omega arith) (omega arith))
            e3 (omega (arith, length-append B (joined ls))) (omega arith)
            ∙ ap (written out at)
            (append_assoc B (joined ls) (joined rs) ∙ ap (λ (y : Bytes). B ++ y) (sym (joined-append ls rs)) ∙ ap joined (sym (span_branch h)))

      pub shut_size : b ≡ false → 0 ≡ length (joined (span_strings ns work p i n))
      shut_size h = sym (ap (λ (ss : List Bytes). length (joined ss)) (span_shut h))

      pub shut_put : b ≡ false → (out : Bytes) (at : ℕ) → out ≡ written out at (joined (span_strings ns work p i n))
      shut_put h out at = sym (ap (λ (ss : List Bytes). written out at (joined ss)) (span_shut h) ∙ written_none out at)

      pub leaf-size : b ≡ true → n ≤ 1 → 77 ≡ length (joined (span_strings ns work p i n))
      leaf-size h one =
          let L = leaf_string (version_at ns (slot_at work i)).leaf in
          let w = version_77 work size ns (slot_at work i) G (R.inside i (omega arith)) in
          sym (ap (λ (ss : List Bytes). length (joined ss)) (span_leaf h one) ∙ ap length (append-nil L) ∙ w)

      pub leaf_put : b ≡ true → n ≤ 1 → (out out1 : Bytes) (at slot : ℕ) → slot ≡ slot_at work i → out1 ≡ written out at (leaf_string (version_at ns slot).leaf) → out1 ≡ written out at (joined (span_strings ns work p i n))
      leaf_put h one out out1 at slot e o =
          o
          ∙ ap (λ (x : ℕ). written out at (leaf_string (version_at ns x).leaf)) e
          ∙ ap (written out at) (sym (ap joined (span_leaf h one) ∙ append-nil (leaf_string (version_at ns (slot_at work i)).leaf)))

-- a table holds one graph
pub room_for : (work : Bytes) (n : ℕ) (ms ns : List VersionNode) → Graphed work n ms → Graphed work n ns → (p : SpanQuestion) (i k at room : ℕ)
    → at + length (joined (span_strings ms work p i k)) ≤ room → at + length (joined (span_strings ns work p i k)) ≤ room
room_for work n ms ns G H p i k at room h =
    subst (λ (xs : List VersionNode). at + length (joined (span_strings xs work p i k)) ≤ room)
    (sym G.digested.filled.nodes ∙ ap (nodes_in work) (sym G.number ∙ H.number) ∙ H.digested.filled.nodes) h
