-- The plan of a proof: the walk to the entity, and on in its tree. Assumes nothing.
use mathlib.Core.Path.{◌≡◌, refl, sym, ap, ap₂, ◌∙◌, subst}
use mathlib.Core.Bool.{Bool, true, false, ◌||◌}
use mathlib.Core.List.{List, [], ◌∷◌, ◌++◌, map, append-nil}
use Prim.Native.Nat.{ℕ, zero, suc, ◌+◌, ◌*◌, ◌≤◌, ◌<◌}
use native.Mathlib.Omega.{arith}
use borrow.Author.Tests.{ltb-false}
use lib.Dec.{ltb}
use lib.ListN.{length, get_or}
use Rattle.fields.specs.Fields.{written}
use Rattle.model.specs.Numbers.{Bytes, joined}
use Rattle.model.specs.Graph.{VersionNode}
use Rattle.model.specs.Accumulator.{tip, subtree, tree, VersionLeaf, versions_layout, no_leaf, Group, entities_layout, no_group, entities, version_leaves, group, entity_tree, leaf_string}
use Rattle.model.specs.Question.{VersionQuestion, SpanQuestion, Question, one, all, entity_of, no_entity, SearchEnd, by_entity, by_time, Opened, stop, after, open_all, within, open_span, open_versions, open_sought, open_entities}
use Rattle.model.proofs.Lists.{map_at}
use Rattle.graph.specs.Table.{nodes_in, Columns, columns, Kept}
use Rattle.graph.proofs.Slots.{kept_then, kept_wider}
use Rattle.accumulator.specs.Halves.{own}
use Rattle.trees.specs.Tables.{Graphed, HasGraph, groups, versions, version_at}
use Rattle.trees.proofs.Keeping.{graphed-kept}
use Rattle.ranks.specs.declared.Ranks.{Ranks}
use Rattle.ranks.specs.Ranked.{slot_at, first_in, count_in, slots_in, RankedAs}
use Rattle.ranks.proofs.Reading.{some-versions, count-inside}
use Rattle.ranks.proofs.Slots.{slots_length}
use Rattle.kept_trees.proofs.Rows.{digests_beside, ranked_as_same}
use Rattle.kept_trees.specs.Leaves.{stretch, versions_row}
use Rattle.kept_trees.specs.Kept.{KeptTree, TreesKept}
use Rattle.kept_trees.proofs.Graphs.{versions_are, versions-number}
use Rattle.question.specs.declared.SpanQuestion.{SpanQuestion as Declared}
use Rattle.question.specs.declared.Question.{Question as DeclaredOne}
use Rattle.question.specs.Directions.{question_of, span_of, query_of}
use Rattle.question.specs.declared.Query.{Query}
use Rattle.question.specs.declared.Query.TheVariants.{One, All}
use Rattle.proof_writer.specs.declared.Way.{Way}
use Rattle.proof_writer.specs.declared.EntityPath.{EntityPath}
use Rattle.proof_writer.specs.declared.Planned.{Planned}
use Rattle.proof_writer.specs.declared.Planned.TheVariants.{NoEntity, Unmet, Found, Listed}
use Rattle.proof_writer.specs.Walks.{onto, StoppedAt, ReachedAt}
use Rattle.proof_writer.specs.Spans.{span_strings}
use Rattle.proof_writer.specs.Plans.{listed_strings, reached_entity, entity_path, entity_string, version_path, strings_of, path_of, EndIs, PathIs, WayIs, RestIs, PlanIs, HasTrees, HasList, Reaches}

-- ---- in the entity's tree

slots_at : (work : Bytes) (i n j : ℕ) → j < n → get_or (slots_in work i n) j 0 ≡ slot_at work (i + j)
unfolding slots_in
slots_at work i zero j h = absurd (let z : ⊥ = omega arith in z)
slots_at work i (suc n) zero h = ap (slot_at work) (let z : i ≡ i + 0 = omega arith in z)
slots_at work i (suc n) (suc j) h = slots_at work (suc i) n j (omega arith) ∙ ap (slot_at work) (let z : suc i + j ≡ i + suc j = omega arith in z)

module _ (work : Bytes) (n : ℕ) (ns : List VersionNode) (G : Graphed work n ns) (p : EntityPath) (I : PathIs work ns p) (f c : ℕ) (first : f ≡ first_in work p.ranks p.target) (number : c ≡ count_in work p.ranks p.target) where
  abbrev x : ℕ
  x = reached_entity ns p

  -- the entity's leaves
  pub reached-leaves : stretch (versions_row work) f c ≡ own versions_layout (versions ns x)
  reached-leaves = ap₂ (stretch (versions_row work)) first number ∙ versions_are work ns G.digested p.ranks I.ranked p.target I.inside

  pub reached-number : c ≡ length (versions ns x)
  reached-number = number ∙ versions-number work ns G.digested p.ranks I.ranked p.target I.inside

  pub reached_range : (0 < c) × (f + c ≤ p.ranks.versions)
  reached_range =
      let R = I.ranked.ranked in
      let a = some-versions work p.ranks R p.target I.inside in
      let b = count-inside work p.ranks R p.target I.inside in
      (omega arith, omega arith)

  -- their tree is kept
  pub reached-kept : KeptTree (versions_row work) work f c
  reached-kept =
      subst (λ (k : ℕ). KeptTree (versions_row work) work k c) (sym first)
      (subst (KeptTree (versions_row work) work (first_in work p.ranks p.target)) (sym number) (I.kept.versions.kept p.target I.inside))

  -- the version at a place among them
  reached-version : (j slot : ℕ) → j < c → slot ≡ slot_at work (f + j) → get_or (versions ns x) j no_leaf ≡ version_at ns slot
  reached-version j slot h e =
      ap (λ (vs : List VersionLeaf). get_or vs j no_leaf) (sym (I.ranked.versions_are p.target I.inside))
      ∙ map_at (version_at ns) (slots_in work (first_in work p.ranks p.target) (count_in work p.ranks p.target)) j no_leaf 0 (omega (arith, slots_length work (first_in work p.ranks p.target) (count_in work p.ranks p.target)))
      ∙ ap (version_at ns) (slots_at work (first_in work p.ranks p.target) (count_in work p.ranks p.target) j (omega arith) ∙ ap (λ (k : ℕ). slot_at work (k + j)) (sym first) ∙ sym e)

  module _ (q : VersionQuestion) (R : Reaches work ns (one q) p) where
    abbrev opens : (v : VersionLeaf) → Opened
    opens v = stop (SearchEnd.found v)

    name : x ≡ q.entity
    name = R.name

    way-is : (w : Way) → w.target < c → w.depth ≤ c → length (joined (version_path ns x w)) ≡ 97 * w.depth → WayIs ns q.entity p w
    way-is w h g e =
        subst (λ (y : ℕ). WayIs ns y p w) name
        (record { name = refl; inside = omega (arith, reached-number); shallow = omega (arith, reached_range.1, I.ranked.ranked.few); long = e })

    -- what is opened of the entity's tree
    inside_is : (w : Opened) → open_versions q.relation q.time (tree no_leaf (versions ns x)) ≡ w
        → open_entities (one q) (entity_tree ns) ≡ onto (entity_path ns p) (after (entity_string ns q.entity) w)
    unfolding group versions open_sought
    inside_is w e =
        R.is
        ∙ ap (λ (v : Opened). onto (entity_path ns p) (after (entity_string ns q.entity) v))
        (ap (λ (y : ℕ). open_versions q.relation q.time (group (version_leaves ns) y).versions) (sym name) ∙ e)

    abbrev opened-behind : List Bytes → SearchEnd VersionLeaf → Opened
    opened-behind ss e = record { end = e; opened = entity_path ns p ++ (entity_string ns q.entity ∷ ss) }

    pub plan-unmet : (size target depth : ℕ) → target < c → depth ≤ c
        → StoppedAt versions_layout (by_time q.relation q.time) opens no_leaf (versions ns x) target depth
        → size ≡ 122 + 97 * p.depth + 97 * depth → PlanIs work ns (one q) (Unmet size p (record { target = target; depth = depth }))
    unfolding path_of RestIs strings_of EndIs onto version_path open_versions
    plan-unmet size target depth h g S e =
        let w : Way = record { target = target; depth = depth } in
        let end : SearchEnd VersionLeaf = SearchEnd.not_found ((by_time q.relation q.time).stop_at S.known) in
        record {
          path = I;
          rest = (way-is w h g S.walked.long, e);
          end = end;
          ends = (_, refl);
          is =
              inside_is _ S.walked.is
              ∙ ap (λ (ss : List Bytes). opened-behind ss end) (append-nil (version_path ns x w) ∙ ap (λ (y : ℕ). version_path ns y w) name);
        }

    pub plan-found : (size target depth slot : ℕ) → target < c → depth ≤ c → slot ≡ slot_at work (f + target)
        → ReachedAt versions_layout (by_time q.relation q.time) opens no_leaf (versions ns x) target depth
        → size ≡ 122 + 97 * p.depth + (97 * depth + 77) → PlanIs work ns (one q) (Found size p (record { target = target; depth = depth }) slot)
    unfolding path_of RestIs strings_of EndIs onto version_path open_versions
    plan-found size target depth slot h g z S e =
        let w : Way = record { target = target; depth = depth } in
        let v = reached-version target slot h z in
        let i : f + target < p.ranks.versions = omega (arith, reached_range.1) in
        record {
          path = I;
          rest = (way-is w h g S.walked.long, subst (λ (k : ℕ). k < length ns) (sym z) (I.ranked.inside (f + target) i), e);
          end = SearchEnd.found (version_at ns slot);
          ends = refl;
          is =
              inside_is _ S.walked.is
              ∙ ap₂ (λ (y : ℕ) (u : VersionLeaf). opened-behind (version_path ns y w ++ (leaf_string u.leaf ∷ [])) (SearchEnd.found u)) name v;
        }

  -- all of its versions between two times
  module _ (s : Declared) where
    listed_in : span_strings ns work (span_of s) f c ≡ listed_strings ns x (span_of s)
    unfolding span_strings listed_strings
    listed_in =
        ap (λ (vs : List VersionLeaf). (open_all versions_layout (within (span_of s)) (tree no_leaf vs)).opened)
        (ap₂ (λ (i n : ℕ). map (version_at ns) (slots_in work i n)) first number ∙ I.ranked.versions_are p.target I.inside)

    pub list_put : (out out1 : Bytes) (at : ℕ) → out1 ≡ written out at (joined (span_strings ns work (span_of s) f c)) → out1 ≡ written out at (joined (listed_strings ns x (span_of s)))
    list_put out out1 at e = e ∙ ap (λ (ss : List Bytes). written out at (joined ss)) listed_in

    -- room for them
    pub list_space : (room room' : ℕ) → 122 + 97 * p.depth + length (joined (listed_strings ns x (span_of s))) ≤ room → room' ≡ room
        → 122 + 97 * p.depth + length (joined (span_strings ns work (span_of s) f c)) ≤ room'
    list_space room room' h e = omega (arith, ap (λ (ss : List Bytes). length (joined ss)) listed_in)

    pub plan-listed : Reaches work ns (all (span_of s)) p → (size : ℕ) → size ≡ 122 + 97 * p.depth + length (joined (span_strings ns work (span_of s) f c)) → PlanIs work ns (all (span_of s)) (Listed size p s)
    unfolding path_of RestIs strings_of EndIs onto open_sought open_span listed_strings group versions
    plan-listed R size e =
        record {
          path = I;
          rest = (R.name, e ∙ ap (λ (ss : List Bytes). 122 + 97 * p.depth + length (joined ss)) (listed_in ∙ ap (λ (y : ℕ). listed_strings ns y (span_of s)) R.name));
          end = _;
          ends = (_, refl);
          is = R.is;
        }

-- ---- in the tree of entities

-- what follows an entity's string
abbrev pub inside-group : Question → Group → Opened
inside-group q g = open_sought q g.versions

module _ (work : Bytes) (n : ℕ) (ns : List VersionNode) (G : Graphed work n ns) (r : Ranks) (ranked : RankedAs work ns r) (kept : TreesKept work r) (target depth : ℕ) (inside : target < r.entities)
    (shallow : depth ≤ r.entities) where
  abbrev path : EntityPath
  path = record { ranks = r; target = target; depth = depth }

  pub path-is : length (joined (entity_path ns path)) ≡ 97 * depth → PathIs work ns path
  path-is e = record { ranked = ranked; kept = kept; inside = inside; shallow = omega (arith, ranked.ranked.fewer, ranked.ranked.few); long = e }

  module _ (q : Question) where
    pub plan-absent : (size : ℕ) → StoppedAt entities_layout (by_entity (entity_of q)) (inside-group q) no_group (groups ns) target depth → size ≡ 65 + 97 * depth → PlanIs work ns q (NoEntity size path)
    unfolding path_of RestIs strings_of EndIs onto entity_path open_entities entity_tree groups by_entity
    plan-absent size S e =
        record {
          path = path-is S.walked.long;
          rest = e;
          end = _;
          ends = refl;
          is = S.walked.is ∙ ap (λ (ss : List Bytes). record { end = SearchEnd.not_found no_entity; opened = ss }) (append-nil (entity_path ns path));
        }

    module _ (S : ReachedAt entities_layout (by_entity (entity_of q)) (inside-group q) no_group (groups ns) target depth) where
      leaf-is : get_or (groups ns) target no_group ≡ group (version_leaves ns) (get_or (entities ns) target 0)
      unfolding groups
      leaf-is = map_at (group (version_leaves ns)) (entities ns) target no_group 0 (omega (arith, inside, ranked.number))

      equal : (e : ℕ) → (ltb (entity_of q) e || ltb e (entity_of q)) ≡ false → e ≡ entity_of q
      equal e h = go (ltb (entity_of q) e) refl h
        where
          go : (c : Bool) → ltb (entity_of q) e ≡ c → (c || ltb e (entity_of q)) ≡ false → e ≡ entity_of q
          go true a b = absurd (let z : ◌≡◌ {A = ℕ} 0 1 = never b in omega arith)
            where
              never : true ≡ false → ◌≡◌ {A = ℕ} 0 1
              never u = cc
          go false a b = omega (arith, ltb-false (entity_of q) e a, ltb-false e (entity_of q) b)

      name-is : get_or (entities ns) target 0 ≡ entity_of q
      unfolding by_entity subtree group
      name-is = equal (get_or (entities ns) target 0) (ap (λ (g : Group). (by_entity (entity_of q)).stops (subtree entities_layout (tip g))) (sym leaf-is) ∙ S.met)

      pub reaches : Reaches work ns q path
      unfolding entity_path entity_string open_entities entity_tree groups
      reaches =
          record {
            path = path-is S.walked.long;
            name = name-is;
            is =
                S.walked.is
                ∙ ap (λ (g : Group). onto (entity_path ns path) (after (entities_layout.string g) (inside-group q g))) (leaf-is ∙ ap (group (version_leaves ns)) name-is);
          }

-- ---- planning

-- the question that a query stands for
pub plan-one : (work : Bytes) (ns : List VersionNode) (p : EntityPath) (z : Query) (v : DeclaredOne) (r : Planned) → z ≡ One v → (Reaches work ns (one (question_of v)) p → PlanIs work ns (one (question_of v)) r)
    → Reaches work ns (query_of z) p → PlanIs work ns (query_of z) r
plan-one work ns p z v r e f R = subst (λ (y : Query). PlanIs work ns (query_of y) r) (sym e) (f (subst (λ (y : Query). Reaches work ns (query_of y) p) e R))

pub plan-all : (work : Bytes) (ns : List VersionNode) (p : EntityPath) (z : Query) (s : Declared) (r : Planned) → z ≡ All s → (Reaches work ns (all (span_of s)) p → PlanIs work ns (all (span_of s)) r)
    → Reaches work ns (query_of z) p → PlanIs work ns (query_of z) r
plan-all work ns p z s r e f R = subst (λ (y : Query). PlanIs work ns (query_of y) r) (sym e) (f (subst (λ (y : Query). Reaches work ns (query_of y) p) e R))

-- what a plan says of a table that ranks and kept trees were added to
pub kept_back : (cs : List Columns) (a b : Bytes) → Kept cs a b → Kept cs b a
kept_back cs a b K = record { size = sym K.size; same = λ j k w t. sym (K.same j k w t) }

module _ (w w1 w2 : Bytes) (n : ℕ) (r : Ranks) (H : HasGraph w n) (ranked : (ns : List VersionNode) → Graphed w n ns → RankedAs w1 ns r) (K1 : Kept (columns 116 122 ∷ []) w w1) (K2 : Kept (columns 84 116 ∷ []) w1 w2)
    (T : TreesKept w2 r) where
  pub plan-kept : Kept (columns 84 122 ∷ []) w w2
  plan-kept =
      kept_then (columns 84 122 ∷ []) w w1 w2 (kept_wider 116 122 84 122 (omega arith) (omega arith) w w1 K1) (kept_wider 84 116 84 122 (omega arith) (omega arith) w1 w2 K2)

  pub ranked-after : (ns : List VersionNode) → Graphed w2 n ns → RankedAs w2 ns r
  ranked-after ns G =
      ranked_as_same (columns 84 116 ∷ []) w1 w2 K2 digests_beside r ns
      (ranked ns (graphed-kept (columns 84 122 ∷ []) w2 w n ns (kept_back (columns 84 122 ∷ []) w w2 plan-kept) tt tt tt tt G))

  pub has_trees : HasTrees w2 n r
  has_trees =
      let G = graphed-kept (columns 84 122 ∷ []) w w2 n H.ns plan-kept tt tt tt tt H.graphed in
      record { graph = record { ns = H.ns; graphed = G }; ranked = ranked-after H.ns G; kept = T }

-- a table holds one graph
pub list_room : (work : Bytes) (n room : ℕ) (ns : List VersionNode) (p : EntityPath) (s : SpanQuestion) → HasList work n p s room → Graphed work n ns
    → 122 + 97 * p.depth + length (joined (listed_strings ns (reached_entity ns p) s)) ≤ room
list_room work n room ns p s H G =
    let K = H.graph.graphed in
    subst (λ (xs : List VersionNode). 122 + 97 * p.depth + length (joined (listed_strings xs (reached_entity xs p) s)) ≤ room)
    (sym K.digested.filled.nodes ∙ ap (nodes_in work) (sym K.number ∙ G.number) ∙ G.digested.filled.nodes) H.space
