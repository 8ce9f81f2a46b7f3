-- The number of strings hashed in building a commitment is 4 n + entities, for n versions. Assumes nothing.
use mathlib.Core.Path.{◌≡◌, refl, sym, ap, ap₂, ◌∙◌, subst}
use mathlib.Core.Logic.{◌⊎◌, inl, inr}
use Prim.Native.Nat.{ℕ, ◌+◌, ◌*◌, ◌<◌}
use native.Mathlib.Omega.{arith}
use mathlib.Core.Bool.{cond}
use mathlib.Core.List.Memᴰ
use mathlib.Core.List.{List, [], ◌∷◌, ◌++◌, map, map-append}
use lib.ListN.{length, length-append, length-map}
use lib.Dec.{T, eqb, eqb→eq, eqb_refl, not_T}
use Rattle.model.specs.Numbers.{Bytes, counting}
use Rattle.model.specs.Log.{Record}
use Rattle.model.specs.Graph.{VersionNode, graph}
use Rattle.model.specs.Digest.{incoming_strings, outgoing_strings, incoming_string_of, outgoing_string_of, incoming_digests, outgoing_digests}
use Rattle.model.specs.Accumulator.{Tree, tip, branch, Layout, strings_of, VersionLeaf, versions_layout, Group, entities_layout, Header, entities, leaf_at, version_leaves, of_entity, group, entity_tree, hashed_in_building}
use Rattle.model.specs.Answer.{log_header, log_hashed}
use Rattle.model.specs.WellFormed.{WellFormed}
use Rattle.model.specs.Exact.{SoundLog}
use Rattle.model.proofs.Outcomes.{by_test, cond_T, cond_F}
use Rattle.model.proofs.Strings.{sum}
use Rattle.model.proofs.Lists.{◌among◌, Up, up_head, up_tail, rising-up, of_map, counting-length, counting-bounds}
use Rattle.model.proofs.Trees.{flat}
use Rattle.model.proofs.Truth.{leaves-count, groups, groups_flat, group_flat}
use Rattle.model.proofs.LogGraph.{well_formed, versions_are-records}

-- ---- sums

sum_append : (a b : List ℕ) → sum (a ++ b) ≡ sum a + sum b
sum_append [] b = omega arith
sum_append (x ∷ a) b = omega (arith, sum_append a b)

-- ---- a tree's strings: one for each leaf, one for each two subtrees, and those inside the leaves

tree-count : {A : Type 0} (l : Layout A) (inside : A → List Bytes) (t : Tree A)
    → length (strings_of l inside t) + 1 ≡ 2 * length (flat t) + sum (map (λ (a : A). length (inside a)) (flat t))
unfolding strings_of
tree-count l inside (tip a) = omega arith
tree-count {A} l inside (branch s t) =
    let a = tree-count l inside s in
    let b = tree-count l inside t in
    let c = length-append (strings_of l inside s) (strings_of l inside t) in
    let d = length-append (flat s) (flat t) in
    let e : sum (map (λ (a : A). length (inside a)) (flat s ++ flat t)) ≡ sum (map (λ (a : A). length (inside a)) (flat s)) + sum (map (λ (a : A). length (inside a)) (flat t)) =
    ap sum (map-append (λ (a : A). length (inside a)) (flat s) (flat t)) ∙ sum_append (map (λ (a : A). length (inside a)) (flat s)) (map (λ (a : A). length (inside a)) (flat t)) in
    omega arith

-- ---- each leaf is of one entity

abbrev one_if : ℕ → ℕ → ℕ
one_if x e = cond (eqb e x) 1 0

ones_above : (x : ℕ) (es : List ℕ) → ((e : ℕ) → e among es → x < e) → sum (map (one_if x) es) ≡ 0
ones_above x [] h = refl
ones_above x (e ∷ es) h =
    let a = cond_F {X = ℕ} (eqb e x) 1 0 (not_T (eqb e x) (λ t. let q = eqb→eq e x t in let b = h e (Memᴰ.head refl) in omega arith)) in
    let b = ones_above x es (λ y m. h y (Memᴰ.tail m)) in
    omega arith

ones_once : (x : ℕ) (es : List ℕ) → Up (λ (k : ℕ). k) es → x among es → sum (map (one_if x) es) ≡ 1
ones_once x [] u m = absurd (Memᴰ.not-nil m)
ones_once x (e ∷ es) u m = go (λ (k : x among es). ones_once x es (up_tail (λ (k : ℕ). k) u) k) (Memᴰ.cases_cons m)
  where
    go : (x among es → sum (map (one_if x) es) ≡ 1) → (x ≡ e) ⊎ (x among es) → one_if x e + sum (map (one_if x) es) ≡ 1
    go rec (inl q) =
        let a = cond_T {X = ℕ} (eqb e x) 1 0 (subst (λ (z : ℕ). T (eqb e z)) (sym q) (eqb_refl e)) in
        let b = ones_above x es (λ y k. let c = up_head (λ (k : ℕ). k) u y k in omega arith) in
        omega arith
    go rec (inr k) =
        let c = up_head (λ (k : ℕ). k) u x k in
        let a = cond_F {X = ℕ} (eqb e x) 1 0 (not_T (eqb e x) (λ t. let q = eqb→eq e x t in omega arith)) in
        let b = rec k in
        omega arith

one-leaf : (x : ℕ) (v : VersionLeaf) (vs : List VersionLeaf) → length (of_entity x (v ∷ vs)) ≡ one_if v.leaf.entity x + length (of_entity x vs)
unfolding of_entity
one-leaf x v vs =
    by_test (eqb x v.leaf.entity) (λ (l : List VersionLeaf). length l ≡ cond (eqb x v.leaf.entity) 1 0 + length (of_entity x vs))
    (λ t. let a = cond_T {X = ℕ} (eqb x v.leaf.entity) 1 0 t in omega arith)
    (λ t. let a = cond_F {X = ℕ} (eqb x v.leaf.entity) 1 0 t in omega arith)

sum_two : (f g h : ℕ → ℕ) (es : List ℕ) → ((e : ℕ) → f e ≡ g e + h e) → sum (map f es) ≡ sum (map g es) + sum (map h es)
sum_two f g h [] p = refl
sum_two f g h (e ∷ es) p = omega (arith, p e, sum_two f g h es p)

none_of : (es : List ℕ) → sum (map (λ (e : ℕ). length (of_entity e [])) es) ≡ 0
unfolding of_entity
none_of [] = refl
none_of (e ∷ es) = let r = none_of es in omega arith

parted : (es : List ℕ) → Up (λ (k : ℕ). k) es → (vs : List VersionLeaf) → ((v : VersionLeaf) → v among vs → v.leaf.entity among es)
    → sum (map (λ (e : ℕ). length (of_entity e vs)) es) ≡ length vs
parted es u [] h = none_of es
parted es u (v ∷ vs) h =
    sum_two (λ (e : ℕ). length (of_entity e (v ∷ vs))) (one_if v.leaf.entity) (λ (e : ℕ). length (of_entity e vs)) es (λ e. one-leaf e v vs)
    ∙ ap₂ ◌+◌ (ones_once v.leaf.entity es u (h v (Memᴰ.head refl))) (parted es u vs (λ y m. h y (Memᴰ.tail m)))
    ∙ omega arith

-- ---- of a graph

module _ (G : List VersionNode) (w : WellFormed G) where
  leaf-entities : (v : VersionLeaf) → v among version_leaves G → v.leaf.entity among entities G
  unfolding version_leaves leaf_at
  leaf-entities v m =
      let r = of_map (λ (i : ℕ). record { place = i; leaf = leaf_at G (incoming_digests G) (outgoing_digests G) i }) (counting 0 (length G)) m in
      let b = (counting-bounds 0 (length G) r.0 r.1).1 in
      subst (λ (z : VersionLeaf). z.leaf.entity among entities G) (sym r.2) (w.entered r.0 (omega arith))

  -- the strings of all the entities' own trees
  inside-count : (es : List ℕ) → ((e : ℕ) → e among es → e among entities G)
      → sum (map (λ (g : Group). length (strings_of versions_layout (λ _. []) g.versions)) (map (group (version_leaves G)) es)) + length es
      ≡ 2 * sum (map (λ (e : ℕ). length (of_entity e (version_leaves G))) es)
  inside-count [] h = refl
  inside-count (e ∷ es) h =
      let a = tree-count versions_layout (λ _. []) (group (version_leaves G) e).versions in
      let b = ap length (group_flat G w e (h e (Memᴰ.head refl))) in
      let c = no_inside (flat (group (version_leaves G) e).versions) in
      let d = inside-count es (λ x m. h x (Memᴰ.tail m)) in
      omega arith
    where
      no_inside : (vs : List VersionLeaf) → sum (map (λ (v : VersionLeaf). length {A = Bytes} []) vs) ≡ 0
      no_inside [] = refl
      no_inside (v ∷ vs) = let r = no_inside vs in omega arith

  inside : Group → List Bytes
  inside g = strings_of versions_layout (λ _. []) g.versions

  -- the strings of the tree of entities and of all below it
  entities-count : length (strings_of entities_layout (λ (g : Group). strings_of versions_layout (λ _. []) g.versions) (entity_tree G)) + 1 ≡ 2 * length G + length (entities G)
  unfolding inside groups
  entities-count =
      let t = tree-count entities_layout inside (entity_tree G) in
      let f = ap length (groups_flat G w) in
      let n = ap (λ (gs : List Group). sum (map (λ (g : Group). length (inside g)) gs)) (groups_flat G w) in
      let m = length-map (entities G) (group (version_leaves G)) in
      let i = inside-count (entities G) (λ e m. m) in
      let p = parted (entities G) (rising-up w.entities_rise) (version_leaves G) leaf-entities in
      let v = leaves-count G w in
      omega arith

  pub building_count : (h : Header) → length (hashed_in_building h G) ≡ 4 * length G + length (entities G)
  unfolding hashed_in_building incoming_strings outgoing_strings
  building_count h =
      let a = length-append (strings_of entities_layout (λ (g : Group). strings_of versions_layout (λ _. []) g.versions) (entity_tree G)) (map (incoming_string_of G) (counting 0 (length G)) ++ map (outgoing_string_of G) (counting 0 (length G))) in
      let b = length-append (map (incoming_string_of G) (counting 0 (length G))) (map (outgoing_string_of G) (counting 0 (length G))) in
      let x = length-map (counting 0 (length G)) (incoming_string_of G) in
      let y = length-map (counting 0 (length G)) (outgoing_string_of G) in
      let z = counting-length 0 (length G) in
      let e = entities-count in
      omega arith

pub log_building_count : (log : Bytes) (rs : List Record) → SoundLog log rs → length (log_hashed rs) ≡ 4 * length rs + length (entities (graph rs))
unfolding log_hashed
log_building_count log rs s =
    building_count (graph rs) (well_formed log rs s) (log_header rs) ∙ ap (λ (n : ℕ). 4 * n + length (entities (graph rs))) (versions_are-records rs)
