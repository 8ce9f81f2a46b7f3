-- The strings of a planned proof, written one behind the other. Assumes nothing.
use mathlib.Core.Path.{◌≡◌, refl, sym, ap, ap₂, ◌∙◌, subst}
use mathlib.Core.List.{List, [], ◌∷◌, ◌++◌, append-nil, append_assoc}
use Prim.Native.Nat.{ℕ, suc, ◌+◌, ◌-◌, ◌*◌, ◌≤◌, ◌<◌}
use native.Mathlib.Omega.{arith}
use lib.ListN.{length, length-append}
use Rattle.fields.specs.Fields.{written}
use Rattle.fields.proofs.Places.{length_part}
use Rattle.model.specs.Numbers.{Bytes, joined}
use Rattle.model.specs.Graph.{VersionNode}
use Rattle.model.specs.Accumulator.{Subtree as Known, subtree, Leaf, leaf_string, group_string, root_string, versions_layout, no_leaf, entities_layout, no_group, Header, entities, version_leaves, group, entity_tree, root, leaf_at}
use Rattle.model.specs.Question.{SpanQuestion, Question, entity_of, Opened}
use Rattle.model.specs.Answer.{proof}
use Rattle.model.proofs.Strings.{joined-append, joined_length, num, text, none}
use Rattle.model.proofs.Open.{root-length, group-length}
use Rattle.question.specs.declared.SpanQuestion.{SpanQuestion as Declared}
use Rattle.question.specs.Directions.{span_of}
use Rattle.graph.proofs.Nodes.{map-length}
use Rattle.accumulator.specs.Halves.{own, subtree_of, path_to}
use Rattle.accumulator.proofs.Splitting.{subtree_of-tree}
use Rattle.accumulator.proofs.Strings.{then}
use Rattle.leaves.specs.Leaves.{slot_leaf}
use Rattle.trees.specs.Tables.{Graphed, groups, versions, version_at}
use Rattle.trees.proofs.EntityWalk.{slot_leaf-is}
use Rattle.ranks.specs.declared.Ranks.{Ranks}
use Rattle.ranks.specs.Ranked.{first_in, count_in, entity_at}
use Rattle.ranks.proofs.Reading.{some-versions}
use Rattle.kept_trees.specs.Leaves.{stretch, tree_of, versions_row, entities_row}
use Rattle.kept_trees.specs.Kept.{way_to, WayPut}
use Rattle.kept_trees.proofs.Graphs.{versions_are, versions-number, entities-are}
use Rattle.proof_writer.specs.declared.Way.{Way}
use Rattle.proof_writer.specs.declared.EntityPath.{EntityPath}
use Rattle.proof_writer.specs.declared.Planned.{Planned}
use Rattle.proof_writer.specs.declared.Planned.TheVariants.{NoEntity, Unmet, Found, Listed}
use Rattle.proof_writer.specs.Plans.{listed_strings, reached_entity, entity_path, entity_string, version_path, strings_of, path_of, length_of, PathIs, WayIs, RestIs, PlanIs, Plan, HasPlan, HasPath, HasWay, HasList, front_bytes, entity_bytes, walk_bytes, list_bytes}
use Rattle.accumulator.proofs.Strings.{digest_32}
use Rattle.proof_writer.proofs.Planning.{reached-leaves}

-- ---- R and P

module _ (work : Bytes) (n : ℕ) (ns : List VersionNode) (G : Graphed work n ns) (p : EntityPath) (I : PathIs work ns p) where
  entities-letter : (w : Bytes) (r : Ranks) → (entities_row w r).letter ≡ 0x50
  unfolding entities_row
  entities-letter w r = refl

  versions-letter : (w : Bytes) → (versions_row w).letter ≡ 0x4e
  unfolding versions_row
  versions-letter w = refl

  leaves : stretch (entities_row work p.ranks) 0 p.ranks.entities ≡ own entities_layout (groups ns)
  leaves = entities-are work ns G.digested p.ranks I.ranked

  groups-length : length (groups ns) ≡ length (entities ns)
  unfolding groups
  groups-length = map-length (group (version_leaves ns)) (entities ns)

  tree_is : tree_of (entities_row work p.ranks) 0 p.ranks.entities ≡ subtree entities_layout (entity_tree ns)
  unfolding entity_tree groups own
  tree_is =
      ap₂ subtree_of (entities-letter work p.ranks) leaves
      ∙ subtree_of-tree entities_layout no_group (groups ns) (omega (arith, groups-length, I.ranked.number, I.ranked.ranked.some_entity))

  root_65 : (h : Header) → length (root h ns) ≡ 65
  unfolding root
  root_65 h = root-length h (length (entities ns)) (subtree entities_layout (entity_tree ns)) (digest_32 entities_layout (entity_tree ns))

  pub front_length : (h : Header) → length (front_bytes h ns p) ≡ 65 + 97 * p.depth
  unfolding front_bytes
  front_length h = length-append (root h ns) (joined (entity_path ns p)) ∙ omega (arith, root_65 h, I.long)

  pub front-is : (h : Header) (k : Known) (out out1 out2 : Bytes) → k ≡ tree_of (entities_row work p.ranks) 0 p.ranks.entities
      → out1 ≡ written out 0 (root_string h p.ranks.entities k) → WayPut (entities_row work p.ranks) 0 p.ranks.entities (p.target - 0) p.depth out1 out2 65
      → 65 + 97 * p.depth ≤ length out → out2 ≡ written out 0 (front_bytes h ns p)
  unfolding front_bytes entity_path root
  front-is h k out out1 out2 e f P room =
      let way : way_to (entities_row work p.ranks) 0 p.ranks.entities (p.target - 0) p.depth ≡ entity_path ns p =
      ap₂ (λ (l : ℕ) (ks : List Known). path_to l ks (p.target - 0) p.depth) (entities-letter work p.ranks) leaves
      ∙ ap (λ (i : ℕ). path_to 0x50 (own entities_layout (groups ns)) i p.depth) (let z : p.target - 0 ≡ p.target = omega arith in z) in
      then out out1 out2 (root h ns) (joined (entity_path ns p)) 0 65
      (f ∙ ap₂ (λ (c : ℕ) (t : Known). written out 0 (root_string h c t)) I.ranked.number (e ∙ tree_is))
      (P.strings ∙ ap (λ (ss : List Bytes). written out1 65 (joined ss)) way) (omega (arith, root_65 h)) (omega (arith, I.long, root_65 h))

  -- ---- G

  abbrev x : ℕ
  x = reached_entity ns p

  versions_tree_is : tree_of (versions_row work) (first_in work p.ranks p.target) (count_in work p.ranks p.target) ≡ subtree versions_layout (group (version_leaves ns) x).versions
  unfolding group versions own
  versions_tree_is =
      ap₂ subtree_of (versions-letter work) (versions_are work ns G.digested p.ranks I.ranked p.target I.inside)
      ∙ subtree_of-tree versions_layout no_leaf (versions ns x) (some_version (versions-number work ns G.digested p.ranks I.ranked p.target I.inside))
    where
      some_version : count_in work p.ranks p.target ≡ length (versions ns x) → 0 < length (versions ns x)
      some_version e = omega (arith, some-versions work p.ranks I.ranked.ranked p.target I.inside)

  pub group-is : (e at : ℕ) (k : Known) (out out1 : Bytes) → e ≡ entity_at work p.ranks p.target
      → k ≡ tree_of (versions_row work) (first_in work p.ranks p.target) (count_in work p.ranks p.target) → out1 ≡ written out at (group_string e k)
      → out1 ≡ written out at (entity_string ns x)
  unfolding entity_string group
  group-is e at k out out1 f g o =
      o ∙ ap₂ (λ (m : ℕ) (u : Known). written out at (group_string m u)) (f ∙ I.ranked.names p.target I.inside) (g ∙ versions_tree_is)

  pub entity_57 : length (entity_string ns x) ≡ 57
  unfolding entity_string group
  entity_57 = group-length x (subtree versions_layout (group (version_leaves ns) x).versions) (digest_32 versions_layout (group (version_leaves ns) x).versions)

  pub entity-is : (h : Header) (out out1 out2 : Bytes) → 122 + 97 * p.depth ≤ length out → out1 ≡ written out 0 (front_bytes h ns p) → out2 ≡ written out1 (65 + 97 * p.depth) (entity_string ns x)
      → out2 ≡ written out 0 (entity_bytes h ns p)
  unfolding entity_bytes
  entity-is h out out1 out2 room e f =
      let a = front_length h in
      let b = entity_57 in
      then out out1 out2 (front_bytes h ns p) (entity_string ns x) 0 (65 + 97 * p.depth) e f (omega arith) (omega arith)

  entity-length : (h : Header) → length (entity_bytes h ns p) ≡ 122 + 97 * p.depth
  unfolding entity_bytes
  entity-length h = length-append (front_bytes h ns p) (entity_string ns x) ∙ omega (arith, front_length h, entity_57)

  -- ---- the strings that a span opens

  pub list_is : (s : SpanQuestion) (h : Header) (out out1 out2 : Bytes) → 122 + 97 * p.depth + length (joined (listed_strings ns x s)) ≤ length out → out1 ≡ written out 0 (entity_bytes h ns p)
      → out2 ≡ written out1 (122 + 97 * p.depth) (joined (listed_strings ns x s)) → out2 ≡ written out 0 (list_bytes h ns p s)
  unfolding list_bytes
  list_is s h out out1 out2 room e f =
      let a = entity-length h in
      then out out1 out2 (entity_bytes h ns p) (joined (listed_strings ns x s)) 0 (122 + 97 * p.depth) e f (omega arith) (omega arith)

  pub list_length : (s : SpanQuestion) (h : Header) → length (list_bytes h ns p s) ≡ 122 + 97 * p.depth + length (joined (listed_strings ns x s))
  unfolding list_bytes
  list_length s h = length-append (entity_bytes h ns p) (joined (listed_strings ns x s)) ∙ omega (arith, entity-length h)

  -- ---- N

  module _ (w : Way) where
    pub versions-is : (f c at : ℕ) (out out1 : Bytes) → f ≡ first_in work p.ranks p.target → c ≡ count_in work p.ranks p.target
        → WayPut (versions_row work) f c (f + w.target - f) w.depth out out1 at → out1 ≡ written out at (joined (version_path ns x w))
    unfolding version_path
    versions-is f c at out out1 a b P =
        P.strings
        ∙ ap (λ (ss : List Bytes). written out at (joined ss))
        (ap₂ (λ (l : ℕ) (ks : List Known). path_to l ks (f + w.target - f) w.depth) (versions-letter work) (reached-leaves work n ns G p I f c a b)
        ∙ ap (λ (i : ℕ). path_to 0x4e (own versions_layout (versions ns x)) i w.depth) (let z : f + w.target - f ≡ w.target = omega arith in z))

    module _ (Q : WayIs ns x p w) where
      pub walk_is : (h : Header) (out out1 out2 : Bytes) → 122 + 97 * p.depth + 97 * w.depth ≤ length out → out1 ≡ written out 0 (entity_bytes h ns p)
          → out2 ≡ written out1 (122 + 97 * p.depth) (joined (version_path ns x w)) → out2 ≡ written out 0 (walk_bytes h ns p w)
      unfolding walk_bytes
      walk_is h out out1 out2 room e f =
          let a = entity-length h in
          let b = Q.long in
          then out out1 out2 (entity_bytes h ns p) (joined (version_path ns x w)) 0 (122 + 97 * p.depth) e f (omega arith) (omega arith)

      pub walk-length : (h : Header) → length (walk_bytes h ns p w) ≡ 122 + 97 * p.depth + 97 * w.depth
      unfolding walk_bytes
      walk-length h = length-append (entity_bytes h ns p) (joined (version_path ns x w)) ∙ omega (arith, entity-length h, Q.long)

-- ---- L

pub version-is : (work : Bytes) (n slot at : ℕ) (out out1 : Bytes) → slot < n → out1 ≡ written out at (leaf_string (slot_leaf work slot)) → (ns : List VersionNode)
    → Graphed work n ns → out1 ≡ written out at (leaf_string (version_at ns slot).leaf)
version-is work n slot at out out1 h g ns G = g ∙ ap (λ (l : Leaf). written out at (leaf_string l)) (slot_leaf-is work ns slot G.digested (omega (arith, G.number)))

leaf_77 : (l : Leaf) → length l.incoming ≡ 32 → length l.outgoing ≡ 32 → length (leaf_string l) ≡ 77
unfolding leaf_string
leaf_77 l a b = ap suc (joined_length (num 4 l.entity (num 8 l.time (text 32 l.incoming a (text 32 l.outgoing b none)))))

pub version_77 : (work : Bytes) (n : ℕ) (ns : List VersionNode) (slot : ℕ) → Graphed work n ns → slot < length ns → length (leaf_string (version_at ns slot).leaf) ≡ 77
unfolding leaf_at
version_77 work n ns slot G h =
    let D = G.digested in
    leaf_77 (version_at ns slot).leaf
    (ap length (sym (D.incoming.stored slot h)) ∙ length_part work (128 * slot + 0) 32 (omega (arith, D.room)))
    (ap length (sym (D.outgoing.stored slot h)) ∙ length_part work (128 * slot + 32) 32 (omega (arith, D.room)))

pub found-is : (work : Bytes) (n : ℕ) (ns : List VersionNode) (G : Graphed work n ns) (p : EntityPath) (I : PathIs work ns p) (w : Way) (Q : WayIs ns (reached_entity ns p) p w) (slot : ℕ) → slot < n
    → (h : Header) (out out1 out2 : Bytes) → 122 + 97 * p.depth + (97 * w.depth + 77) ≤ length out → out1 ≡ written out 0 (walk_bytes h ns p w)
    → out2 ≡ written out1 (122 + 97 * p.depth + 97 * w.depth) (leaf_string (version_at ns slot).leaf) → out2 ≡ written out 0 (walk_bytes h ns p w ++ leaf_string (version_at ns slot).leaf)
found-is work n ns G p I w Q slot s h out out1 out2 room e f =
    let a = walk-length work n ns G p I w Q h in
    let b = version_77 work n ns slot G (omega (arith, G.number)) in
    then out out1 out2 (walk_bytes h ns p w) (leaf_string (version_at ns slot).leaf) 0 (122 + 97 * p.depth + 97 * w.depth) e f (omega arith) (omega arith)

-- ---- a plan, case by case

-- one string behind others, and others behind it
joined-behind : (xs : List Bytes) (y : Bytes) (ys : List Bytes) → joined (xs ++ (y ∷ ys)) ≡ (joined xs ++ y) ++ joined ys
joined-behind xs y ys = joined-append xs (y ∷ ys) ∙ sym (append_assoc (joined xs) y (joined ys))

module _ (h : Header) (ns : List VersionNode) (p : EntityPath) (x : ℕ) (name : reached_entity ns p ≡ x) (w : Way) where
  pub walk-strings : walk_bytes h ns p w ≡ joined (root h ns ∷ (entity_path ns p ++ (entity_string ns x ∷ version_path ns x w)))
  unfolding walk_bytes entity_bytes front_bytes
  walk-strings =
      ap (λ (y : ℕ). ((root h ns ++ joined (entity_path ns p)) ++ entity_string ns y) ++ joined (version_path ns y w)) name
      ∙ sym (joined-behind (root h ns ∷ entity_path ns p) (entity_string ns x) (version_path ns x w))

  pub found-strings : (l : Bytes) → walk_bytes h ns p w ++ l ≡ joined (root h ns ∷ (entity_path ns p ++ (entity_string ns x ∷ (version_path ns x w ++ (l ∷ [])))))
  unfolding walk_bytes entity_bytes front_bytes
  found-strings l =
      let front : List Bytes = root h ns ∷ entity_path ns p in
      let G = entity_string ns x in
      let way = version_path ns x w in
      ap (λ (y : ℕ). (((root h ns ++ joined (entity_path ns p)) ++ entity_string ns y) ++ joined (version_path ns y w)) ++ l) name
      ∙ append_assoc (joined front ++ G) (joined way) l
      ∙ ap (λ (b : Bytes). (joined front ++ G) ++ b) (ap (λ (b : Bytes). joined way ++ b) (sym (append-nil l)) ∙ sym (joined-append way (l ∷ [])))
      ∙ sym (joined-behind front G (way ++ (l ∷ [])))

pub list_strings : (h : Header) (ns : List VersionNode) (p : EntityPath) (x : ℕ) (s : SpanQuestion) → reached_entity ns p ≡ x
    → list_bytes h ns p s ≡ joined (root h ns ∷ (entity_path ns p ++ (entity_string ns x ∷ listed_strings ns x s)))
unfolding list_bytes entity_bytes front_bytes
list_strings h ns p x s name =
    ap (λ (y : ℕ). ((root h ns ++ joined (entity_path ns p)) ++ entity_string ns y) ++ joined (listed_strings ns y s)) name
    ∙ sym (joined-behind (root h ns ∷ entity_path ns p) (entity_string ns x) (listed_strings ns x s))

module _ (work : Bytes) (n : ℕ) (r : Planned) where
  -- the proof's strings are those of the plan
  pub proof-strings : (h : Header) (q : Question) (ns : List VersionNode) (I : PlanIs work ns q r) → joined (proof h ns q).opened ≡ joined (root h ns ∷ strings_of ns (entity_of q) r)
  unfolding proof
  proof-strings h q ns I = ap (λ (w : Opened). joined (root h ns ∷ w.opened)) I.is

  path_at : (ns : List VersionNode) (q : Question) (z : Planned) → r ≡ z → PlanIs work ns q r → PathIs work ns (path_of z) × RestIs ns (entity_of q) z
  path_at ns q z e I = (subst (λ (y : Planned). PathIs work ns (path_of y)) e I.path, subst (RestIs ns (entity_of q)) e I.rest)

  module _ (size : ℕ) (p : EntityPath) (e : r ≡ NoEntity size p) where
    no_entity_at : (ns : List VersionNode) (q : Question) → PlanIs work ns q r → PathIs work ns p × (size ≡ 65 + 97 * p.depth)
    unfolding path_of RestIs
    no_entity_at ns q I = path_at ns q (NoEntity size p) e I

    pub no_entity-ready : HasPlan work n r → (room : ℕ) → length_of r ≤ room → HasPath work n p × (65 + 97 * p.depth ≤ room)
    unfolding length_of
    no_entity-ready H room l =
        let I = no_entity_at H.graph.ns H.q (H.plan.of H.graph.ns H.graph.graphed) in
        (record { graph = H.graph; path = I.0 }, omega (arith, I.1, ap length_of e))

    pub no_entity-done : (h : Header) (out out1 : Bytes) → ((ns : List VersionNode) → Graphed work n ns → PathIs work ns p → out1 ≡ written out 0 (front_bytes h ns p))
        → (q : Question) → Plan work n q r → (ns : List VersionNode) → Graphed work n ns → out1 ≡ written out 0 (joined (proof h ns q).opened)
    unfolding strings_of front_bytes
    no_entity-done h out out1 f q P ns G =
        let I = P.of ns G in
        f ns G (no_entity_at ns q I).0 ∙ ap (written out 0) (sym (proof-strings h q ns I ∙ ap (λ (z : Planned). joined (root h ns ∷ strings_of ns (entity_of q) z)) e))

  module _ (size : ℕ) (p : EntityPath) (w : Way) (e : r ≡ Unmet size p w) where
    unmet_at : (ns : List VersionNode) (q : Question) → PlanIs work ns q r → PathIs work ns p × WayIs ns (entity_of q) p w × (size ≡ 122 + 97 * p.depth + 97 * w.depth)
    unfolding path_of RestIs
    unmet_at ns q I = let J = path_at ns q (Unmet size p w) e I in (J.0, J.1.0, J.1.1)

    unmet-way : (ns : List VersionNode) (q : Question) → PlanIs work ns q r → WayIs ns (reached_entity ns p) p w
    unmet-way ns q I = let J = (unmet_at ns q I).1 in subst (λ (y : ℕ). WayIs ns y p w) (sym J.name) J

    pub unmet-ready : HasPlan work n r → (room : ℕ) → length_of r ≤ room → HasWay work n p w × (122 + 97 * p.depth + 97 * w.depth ≤ room)
    unfolding length_of
    unmet-ready H room l =
        let P = H.plan.of H.graph.ns H.graph.graphed in
        let I = unmet_at H.graph.ns H.q P in
        (record { graph = H.graph; path = I.0; way = unmet-way H.graph.ns H.q P }, omega (arith, I.2, ap length_of e))

    pub unmet-done : (h : Header) (out out1 : Bytes)
        → ((ns : List VersionNode) → Graphed work n ns → PathIs work ns p → WayIs ns (reached_entity ns p) p w → out1 ≡ written out 0 (walk_bytes h ns p w))
        → (q : Question) → Plan work n q r → (ns : List VersionNode) → Graphed work n ns → out1 ≡ written out 0 (joined (proof h ns q).opened)
    unfolding strings_of
    unmet-done h out out1 f q P ns G =
        let I = P.of ns G in
        let J = unmet_at ns q I in
        f ns G J.0 (unmet-way ns q I)
        ∙ ap (written out 0) (walk-strings h ns p (entity_of q) J.1.name w ∙ sym (proof-strings h q ns I ∙ ap (λ (z : Planned). joined (root h ns ∷ strings_of ns (entity_of q) z)) e))

  module _ (size : ℕ) (p : EntityPath) (w : Way) (slot : ℕ) (e : r ≡ Found size p w slot) where
    found_at : (ns : List VersionNode) (q : Question) → PlanIs work ns q r → PathIs work ns p × WayIs ns (entity_of q) p w × (slot < length ns) × (size ≡ 122 + 97 * p.depth + (97 * w.depth + 77))
    unfolding path_of RestIs
    found_at ns q I = let J = path_at ns q (Found size p w slot) e I in (J.0, J.1.0, J.1.1, J.1.2)

    found-way : (ns : List VersionNode) (q : Question) → PlanIs work ns q r → WayIs ns (reached_entity ns p) p w
    found-way ns q I = let J = (found_at ns q I).1 in subst (λ (y : ℕ). WayIs ns y p w) (sym J.name) J

    pub found-ready : HasPlan work n r → (room : ℕ) → length_of r ≤ room → HasWay work n p w × (slot < n) × (122 + 97 * p.depth + (97 * w.depth + 77) ≤ room)
    unfolding length_of
    found-ready H room l =
        let P = H.plan.of H.graph.ns H.graph.graphed in
        let I = found_at H.graph.ns H.q P in
        (record { graph = H.graph; path = I.0; way = found-way H.graph.ns H.q P }, omega (arith, I.2, H.graph.graphed.number), omega (arith, I.3, ap length_of e))

    pub found-done : (h : Header) (out out1 : Bytes)
        → ((ns : List VersionNode) → Graphed work n ns → PathIs work ns p → WayIs ns (reached_entity ns p) p w → out1 ≡ written out 0 (walk_bytes h ns p w ++ leaf_string (version_at ns slot).leaf))
        → (q : Question) → Plan work n q r → (ns : List VersionNode) → Graphed work n ns → out1 ≡ written out 0 (joined (proof h ns q).opened)
    unfolding strings_of
    found-done h out out1 f q P ns G =
        let I = P.of ns G in
        let J = found_at ns q I in
        f ns G J.0 (found-way ns q I)
        ∙ ap (written out 0)
        (found-strings h ns p (entity_of q) J.1.name w (leaf_string (version_at ns slot).leaf) ∙ sym (proof-strings h q ns I ∙ ap (λ (z : Planned). joined (root h ns ∷ strings_of ns (entity_of q) z)) e))

  module _ (size : ℕ) (p : EntityPath) (s : Declared) (e : r ≡ Listed size p s) where
    listed_at : (ns : List VersionNode) (q : Question) → PlanIs work ns q r
        → PathIs work ns p × (reached_entity ns p ≡ entity_of q) × (size ≡ 122 + 97 * p.depth + length (joined (listed_strings ns (entity_of q) (span_of s))))
    unfolding path_of RestIs
    listed_at ns q I = let J = path_at ns q (Listed size p s) e I in (J.0, J.1.0, J.1.1)

    pub listed-ready : HasPlan work n r → (room : ℕ) → length_of r ≤ room → HasList work n p (span_of s) room
    unfolding length_of
    listed-ready H room l =
        let ns = H.graph.ns in
        let I = listed_at ns H.q (H.plan.of ns H.graph.graphed) in
        record {
          graph = H.graph;
          path = I.0;
          space =
              subst (λ (y : ℕ). 122 + 97 * p.depth + length (joined (listed_strings ns y (span_of s))) ≤ room) (sym I.1)
              (let z : 122 + 97 * p.depth + length (joined (listed_strings ns (entity_of H.q) (span_of s))) ≤ room = omega (arith, I.2, ap length_of e) in z);
        }

    pub listed-done : (h : Header) (out out1 : Bytes) → ((ns : List VersionNode) → Graphed work n ns → PathIs work ns p → out1 ≡ written out 0 (list_bytes h ns p (span_of s)))
        → (q : Question) → Plan work n q r → (ns : List VersionNode) → Graphed work n ns → out1 ≡ written out 0 (joined (proof h ns q).opened)
    unfolding strings_of
    listed-done h out out1 f q P ns G =
        let I = P.of ns G in
        let J = listed_at ns q I in
        f ns G J.0
        ∙ ap (written out 0) (list_strings h ns p (entity_of q) (span_of s) J.1 ∙ sym (proof-strings h q ns I ∙ ap (λ (z : Planned). joined (root h ns ∷ strings_of ns (entity_of q) z)) e))
