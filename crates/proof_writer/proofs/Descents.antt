-- A descent in a tree: where it stands, half by half, and the strings opened on the way. One proof over layout and
-- descent. Assumes nothing.
use mathlib.Core.Path.{◌≡◌, refl, sym, ap, ap₂, ◌∙◌, subst}
use mathlib.Core.Bool.{Bool, true, false, cond, not}
use mathlib.Core.List.{List, [], ◌∷◌, ◌++◌, append_assoc, append-nil}
use Prim.Native.Nat.{ℕ, suc, ◌+◌, ◌-◌, ◌*◌, ◌≤◌, ◌<◌}
use native.Mathlib.Nat.{add-zero}
use native.Mathlib.Omega.{arith}
use borrow.Author.Tests.{lt-ltb, le-ltb}
use lib.Dec.{T, ltb}
use lib.ListN.{length, take, drop, get_or, length-append, length-drop, take-append-drop, get_or-append}
use lib.Seq.{length-take-le, get_or-append-add}
use Rattle.model.specs.Numbers.{Bytes, joined}
use Rattle.model.specs.Accumulator.{Subtree as Known, Tree, tip, branch, branch_string, largest_power_below, tree, Layout, subtree, string_of}
use Rattle.model.specs.Question.{SearchEnd, Descent, Opened, stop, after, open_tree}
use Rattle.model.proofs.Strings.{joined-append}
use Rattle.model.proofs.Trees.{tree-one, tree_halves}
use Rattle.model.proofs.Open.{branch-length}
use Rattle.model.proofs.Walk.{stopped_at, opened-tip, opened-branch}
use Rattle.graph.proofs.Nodes.{map-length}
use Rattle.accumulator.specs.Halves.{own, subtree_of, path_to}
use Rattle.accumulator.proofs.Splitting.{split_bounds, subtree_of-tree, map-take, map-drop}
use Rattle.accumulator.proofs.Strings.{digest_32}
use Rattle.accumulator.proofs.Opening.{path-none, path_two}
use Rattle.proof_writer.specs.Walks.{half_of, onto, Walked}

onto-none : (w : Opened) → onto [] w ≡ w
unfolding onto
onto-none w = refl

onto-more : (ss : List Bytes) (x : Bytes) (w : Opened) → onto ss (after x w) ≡ onto (ss ++ (x ∷ [])) w
unfolding onto
onto-more ss x w = ap (λ (ys : List Bytes). record { end = w.end; opened = ys }) (sym (append_assoc ss (x ∷ []) w.opened))

-- ---- a descent

module _ {A : Type 0} (l : Layout A) (d : Descent) (inside : A → Opened) (a : A) (xs : List A) where
  -- it stands at the tree of n leaves from place `from` on, after `depth` strings
  pub record Way (from n depth : ℕ) : Type 0 where
    pub front : List A
    pub part : List A
    pub back : List A
    pub whole : xs ≡ front ++ (part ++ back)
    pub before : length front ≡ from
    pub number : length part ≡ n
    pub some-leaf : 0 < n
    pub strings : List Bytes
    pub opens : open_tree l d inside (tree a xs) ≡ onto strings (open_tree l d inside (tree a part))
    pub path : (i r : ℕ) → i < n → path_to l.inner_letter (own l xs) (from + i) (depth + r) ≡ strings ++ path_to l.inner_letter (own l part) i r
    pub long : length (joined strings) ≡ 97 * depth

  pub way-none : (n : ℕ) → n ≡ length xs → 0 < n → Way 0 n 0
  way-none n h p =
      record {
        front = [];
        part = xs;
        back = [];
        whole = sym (append-nil xs);
        before = refl;
        number = sym h;
        some-leaf = p;
        strings = [];
        opens = sym (onto-none (open_tree l d inside (tree a xs)));
        path = λ i r q. ap₂ (path_to l.inner_letter (own l xs)) (let z : 0 + i ≡ i = omega arith in z) (let z : 0 + r ≡ r = omega arith in z);
        long = refl;
      }

  module _ (from n depth : ℕ) (W : Way from n depth) where
    -- leaf i of the part
    at : (i : ℕ) → i < n → get_or W.part i a ≡ get_or xs (from + i) a
    at i h =
        sym (get_or-append W.part W.back a i (omega (arith, W.number)))
        ∙ sym (get_or-append-add W.front (W.part ++ W.back) i a)
        ∙ ap₂ (λ (ys : List A) (k : ℕ). get_or ys (k + i) a) (sym W.whole) W.before

    -- the strings so far
    path-here : path_to l.inner_letter (own l xs) from depth ≡ W.strings
    path-here =
        ap₂ (path_to l.inner_letter (own l xs)) (sym (add-zero from)) (sym (add-zero depth))
        ∙ W.path 0 0 W.some-leaf
        ∙ ap (λ (ys : List Bytes). W.strings ++ ys) (path-none l.inner_letter (own l W.part) 0)
        ∙ append-nil W.strings

    walked : (w : Opened) → open_tree l d inside (tree a W.part) ≡ w → Walked l d inside a xs from depth w
    walked w h =
        record {
          is = W.opens ∙ ap₂ onto (sym path-here) h;
          long = ap (λ (ys : List Bytes). length (joined ys)) path-here ∙ W.long;
        }

    -- it stops here
    pub way-stopped : d.stops (subtree l (tree a W.part)) ≡ true
        → Walked l d inside a xs from depth (stop (SearchEnd.not_found (d.stop_at (subtree l (tree a W.part)))))
    way-stopped h = walked _ (stopped_at l d inside (tree a W.part) (subst T (sym h) tt))

    -- it stands at a leaf
    leaf-tree : n ≤ 1 → tree a W.part ≡ tip (get_or xs from a)
    leaf-tree h = go W.part refl
      where
        go : (ys : List A) → W.part ≡ ys → tree a W.part ≡ tip (get_or xs from a)
        go [] q = absurd (let z : ⊥ = omega (arith, ap length q, W.number, W.some-leaf) in z)
        go (x ∷ y ∷ ys) q = absurd (let z : ⊥ = omega (arith, ap length q, W.number) in z)
        go (x ∷ []) q =
            ap (tree a) q ∙ tree-one a x
            ∙ ap tip (ap (λ (ys : List A). get_or ys 0 a) (sym q) ∙ at 0 W.some-leaf ∙ ap (λ (k : ℕ). get_or xs k a) (add-zero from))

    pub way-tip : n ≤ 1 → d.stops (subtree l (tree a W.part)) ≡ false → d.stops (subtree l (tip (get_or xs from a))) ≡ false
    way-tip h s = ap (λ (u : Tree A). d.stops (subtree l u)) (sym (leaf-tree h)) ∙ s

    pub way-leaf : n ≤ 1 → d.stops (subtree l (tree a W.part)) ≡ false
        → Walked l d inside a xs from depth (after (l.string (get_or xs from a)) (inside (get_or xs from a)))
    way-leaf h s =
        walked _
        (ap (open_tree l d inside) (leaf-tree h)
        ∙ opened-tip l d inside (get_or xs from a) (subst (λ (b : Bool). T (not b)) (sym (way-tip h s)) tt))

    -- the two halves
    module _ (more : 1 < n) (goes_on : d.stops (subtree l (tree a W.part)) ≡ false) where
      abbrev k : ℕ
      k = largest_power_below n

      abbrev left : List A
      left = take (largest_power_below n) W.part

      abbrev right : List A
      right = drop (largest_power_below n) W.part

      bounds : (0 < largest_power_below n) × (largest_power_below n < n)
      bounds = split_bounds n more

      left-number : length left ≡ k
      left-number = length-take-le k W.part (omega (arith, bounds.1, W.number))

      right-number : length right ≡ n - k
      right-number = length-drop k W.part ∙ omega (arith, W.number)

      halves : tree a W.part ≡ branch (tree a left) (tree a right)
      halves =
          tree_halves a W.part (omega (arith, W.number))
          ∙ ap (λ (m : ℕ). branch (tree a (take (largest_power_below m) W.part)) (tree a (drop (largest_power_below m) W.part))) W.number

      abbrev string : Bytes
      string = string_of l (branch (tree a left) (tree a right))

      unfoldable pub turns_left : Bool
      turns_left = d.goes_left (subtree l (tree a left)) (subtree l (tree a right))

      string_97 : length string ≡ 97
      unfolding string_of
      string_97 = branch-length l.inner_letter (subtree l (tree a left)) (subtree l (tree a right)) (digest_32 l (tree a left)) (digest_32 l (tree a right))

      string-is : branch_string l.inner_letter (subtree_of l.inner_letter (take k (own l W.part))) (subtree_of l.inner_letter (drop k (own l W.part))) ≡ string
      unfolding string_of own
      string-is =
          ap₂ (branch_string l.inner_letter)
          (ap (subtree_of l.inner_letter) (map-take (λ (x : A). subtree l (tip x)) k W.part) ∙ subtree_of-tree l a left (omega (arith, left-number, bounds.0)))
          (ap (subtree_of l.inner_letter) (map-drop (λ (x : A). subtree l (tip x)) k W.part) ∙ subtree_of-tree l a right (omega (arith, right-number, bounds.1)))

      opens_one : open_tree l d inside (tree a W.part) ≡ after string (cond turns_left (open_tree l d inside (tree a left)) (open_tree l d inside (tree a right)))
      unfolding turns_left
      opens_one =
          ap (open_tree l d inside) halves
          ∙ opened-branch l d inside (tree a left) (tree a right) (subst (λ (b : Bool). T (not b)) (sym (ap (λ (u : Tree A). d.stops (subtree l u)) (sym halves) ∙ goes_on)) tt)

      path-one : (i r : ℕ) → i < n
          → path_to l.inner_letter (own l xs) (from + i) (depth + 1 + r)
          ≡ (W.strings ++ (string ∷ [])) ++ cond (ltb i k) (path_to l.inner_letter (own l left) i r) (path_to l.inner_letter (own l right) (i - k) r)
      unfolding own
      path-one i r h =
          let m : length (own l W.part) ≡ n = map-length (λ (x : A). subtree l (tip x)) W.part ∙ W.number in
          ap (path_to l.inner_letter (own l xs) (from + i)) (let z : depth + 1 + r ≡ depth + suc r = omega arith in z)
          ∙ W.path i (suc r) h
          ∙ ap (λ (ys : List Bytes). W.strings ++ ys)
          (path_two l.inner_letter (own l W.part) i r k (omega arith) (ap largest_power_below (sym m))
          ∙ ap₂ {C = List Bytes} (λ (y : Bytes) (ys : List Bytes). y ∷ ys) string-is
          (ap₂ (λ (us vs : List Known). cond (ltb i k) (path_to l.inner_letter us i r) (path_to l.inner_letter vs (i - k) r))
          (map-take (λ (x : A). subtree l (tip x)) k W.part) (map-drop (λ (x : A). subtree l (tip x)) k W.part)))
          ∙ sym (append_assoc W.strings (string ∷ []) (cond (ltb i k) (path_to l.inner_letter (own l left) i r) (path_to l.inner_letter (own l right) (i - k) r)))

      long-one : length (joined (W.strings ++ (string ∷ []))) ≡ 97 * (depth + 1)
      long-one =
          ap length (joined-append W.strings (string ∷ []))
          ∙ length-append (joined W.strings) (string ++ [])
          ∙ omega (arith, W.long, ap length (append-nil string), string_97)

      opens_on : (ys : List A) → cond turns_left (open_tree l d inside (tree a left)) (open_tree l d inside (tree a right)) ≡ open_tree l d inside (tree a ys)
          → open_tree l d inside (tree a xs) ≡ onto (W.strings ++ (string ∷ [])) (open_tree l d inside (tree a ys))
      opens_on ys h = W.opens ∙ ap (onto W.strings) (opens_one ∙ ap (after string) h) ∙ onto-more W.strings string (open_tree l d inside (tree a ys))

      way-left : turns_left ≡ true → Way from k (depth + 1)
      way-left h =
          record {
            front = W.front;
            part = left;
            back = right ++ W.back;
            whole =
                W.whole
                ∙ ap (λ (ys : List A). W.front ++ ys)
                (ap (λ (ys : List A). ys ++ W.back) (sym (take-append-drop k W.part)) ∙ append_assoc left right W.back);
            before = W.before;
            number = left-number;
            some-leaf = bounds.0;
            strings = W.strings ++ (string ∷ []);
            opens = opens_on left (ap (λ (b : Bool). cond b (open_tree l d inside (tree a left)) (open_tree l d inside (tree a right))) h);
            path = λ i r q.
                path-one i r (omega (arith, bounds.1))
                ∙ ap (λ (b : Bool). (W.strings ++ (string ∷ [])) ++ cond b (path_to l.inner_letter (own l left) i r) (path_to l.inner_letter (own l right) (i - k) r)) (lt-ltb i k q);
            long = long-one;
          }

      way-right : turns_left ≡ false → Way (from + k) (n - k) (depth + 1)
      way-right h =
          record {
            front = W.front ++ left;
            part = right;
            back = W.back;
            whole =
                W.whole
                ∙ ap (λ (ys : List A). W.front ++ ys)
                (ap (λ (ys : List A). ys ++ W.back) (sym (take-append-drop k W.part)) ∙ append_assoc left right W.back)
                ∙ sym (append_assoc W.front left (right ++ W.back));
            before = length-append W.front left ∙ omega (arith, W.before, left-number);
            number = right-number;
            some-leaf = omega (arith, bounds.1);
            strings = W.strings ++ (string ∷ []);
            opens = opens_on right (ap (λ (b : Bool). cond b (open_tree l d inside (tree a left)) (open_tree l d inside (tree a right))) h);
            path = λ i r q.
                ap (λ (j : ℕ). path_to l.inner_letter (own l xs) j (depth + 1 + r)) (let z : from + k + i ≡ from + (k + i) = omega arith in z)
                ∙ path-one (k + i) r (omega (arith, bounds.1))
                ∙ ap (λ (b : Bool). (W.strings ++ (string ∷ [])) ++ cond b (path_to l.inner_letter (own l left) (k + i) r) (path_to l.inner_letter (own l right) (k + i - k) r)) (le-ltb (k + i) k (omega arith))
                ∙ ap (λ (j : ℕ). (W.strings ++ (string ∷ [])) ++ path_to l.inner_letter (own l right) j r) (let z : k + i - k ≡ i = omega arith in z);
            long = long-one;
          }

      pub way_half : (left : Bool) → turns_left ≡ left → Way (half_of (record { from = from; n = n }) left).from (half_of (record { from = from; n = n }) left).n (depth + 1)
      unfolding half_of
      way_half true h = way-left h
      way_half false h = way-right h
