-- The rows of a table that holds a graph: their leaves are the leaves of the graph's trees. Assumes nothing.
use mathlib.Core.Path.{◌≡◌, refl, sym, ap, ap₂, ◌∙◌}
use mathlib.Core.List.{List, [], ◌∷◌, map}
use Prim.Native.Nat.{ℕ, zero, suc, ◌+◌, ◌≤◌, ◌<◌}
use native.Mathlib.Omega.{arith}
use lib.ListN.{length, get_or}
use Rattle.model.specs.Numbers.{Bytes}
use Rattle.model.specs.Graph.{VersionNode}
use Rattle.model.specs.Accumulator.{Subtree as Known, tip, subtree, VersionLeaf, versions_layout, no_leaf, entities_layout, entities, version_leaves, group}
use Rattle.graph.proofs.Nodes.{map-length}
use Rattle.accumulator.specs.Trees.{version_leaf, group_leaf}
use Rattle.accumulator.specs.Halves.{own, subtree_of}
use Rattle.accumulator.proofs.Strings.{version_leaf-is, group_leaf-is}
use Rattle.accumulator.proofs.Splitting.{subtree_of-tree}
use Rattle.trees.specs.Tables.{Digested, groups, versions, version_at}
use Rattle.trees.proofs.EntityWalk.{slot_leaf-is}
use Rattle.ranks.specs.declared.Ranks.{Ranks}
use Rattle.ranks.specs.Ranked.{slot_at, first_in, count_in, slots_in, RankedAs}
use Rattle.ranks.proofs.Reading.{some-versions, count-inside}
use Rattle.kept_trees.specs.Leaves.{stretch, tree_of, version_known, versions_row, entity_known, entities_row}
use Rattle.kept_trees.proofs.Stretches.{stretch-length}

module _ (work : Bytes) (ns : List VersionNode) (D : Digested work ns) (r : Ranks) (R : RankedAs work ns r) where
  version-is : (i : ℕ) → i < r.versions → (versions_row work).leaf i ≡ subtree versions_layout (tip (version_at ns (slot_at work i)))
  unfolding versions_row version_known
  version-is i h = ap version_leaf (slot_leaf-is work ns (slot_at work i) D (R.inside i h)) ∙ version_leaf-is (version_at ns (slot_at work i))

  pub versions-stretch : (i n : ℕ) → i + n ≤ r.versions → stretch (versions_row work) i n ≡ own versions_layout (map (version_at ns) (slots_in work i n))
  unfolding stretch slots_in own
  versions-stretch i zero h = refl
  versions-stretch i (suc n) h = ap₂ {C = List Known} (λ (k : Known) (ks : List Known). k ∷ ks) (version-is i (omega arith)) (versions-stretch (suc i) n (omega arith))

  -- the leaves of the g-th entity's tree
  pub versions_are : (g : ℕ) → g < r.entities → stretch (versions_row work) (first_in work r g) (count_in work r g) ≡ own versions_layout (versions ns (get_or (entities ns) g 0))
  versions_are g h =
      versions-stretch (first_in work r g) (count_in work r g) (count-inside work r R.ranked g h)
      ∙ ap (own versions_layout) (R.versions_are g h)

  own-length : (vs : List VersionLeaf) → length (own versions_layout vs) ≡ length vs
  unfolding own
  own-length vs = map-length _ vs

  -- how many there are
  pub versions-number : (g : ℕ) → g < r.entities → count_in work r g ≡ length (versions ns (get_or (entities ns) g 0))
  versions-number g h =
      sym (stretch-length (versions_row work) (first_in work r g) (count_in work r g))
      ∙ ap length (versions_are g h)
      ∙ own-length (versions ns (get_or (entities ns) g 0))

  versions_tree_is : (g : ℕ) → g < r.entities
      → tree_of (versions_row work) (first_in work r g) (count_in work r g) ≡ subtree versions_layout (group (version_leaves ns) (get_or (entities ns) g 0)).versions
  unfolding versions_row group versions own
  versions_tree_is g h =
      ap (subtree_of 0x4e) (versions_are g h)
      ∙ subtree_of-tree versions_layout no_leaf (versions ns (get_or (entities ns) g 0)) (omega (arith, versions-number g h, some-versions work r R.ranked g h))

  entity-is : (g : ℕ) → g < r.entities → (entities_row work r).leaf g ≡ subtree entities_layout (tip (group (version_leaves ns) (get_or (entities ns) g 0)))
  unfolding entities_row entity_known group
  entity-is g h = ap₂ group_leaf (R.names g h) (versions_tree_is g h) ∙ group_leaf-is (group (version_leaves ns) (get_or (entities ns) g 0))

  entities-stretch : (xs : List ℕ) (i : ℕ) → i + length xs ≤ r.entities → ((j : ℕ) → j < length xs → get_or xs j 0 ≡ get_or (entities ns) (i + j) 0)
      → stretch (entities_row work r) i (length xs) ≡ own entities_layout (map (group (version_leaves ns)) xs)
  unfolding stretch own
  entities-stretch [] i h f = refl
  entities-stretch (x ∷ xs) i h f =
      ap₂ {C = List Known} (λ (k : Known) (ks : List Known). k ∷ ks)
      (entity-is i (omega arith) ∙ ap (λ (y : ℕ). subtree entities_layout (tip (group (version_leaves ns) y))) (ap (λ (j : ℕ). get_or (entities ns) j 0) (let z : i ≡ i + 0 = omega arith in z) ∙ sym (f 0 (omega arith))))
      (entities-stretch xs (suc i) (omega arith) (λ j g. f (suc j) (omega arith) ∙ ap (λ (k : ℕ). get_or (entities ns) k 0) (let z : i + suc j ≡ suc i + j = omega arith in z)))

  -- the leaves of the tree of entities
  pub entities-are : stretch (entities_row work r) 0 r.entities ≡ own entities_layout (groups ns)
  unfolding groups
  entities-are =
      ap (stretch (entities_row work r) 0) R.number
      ∙ entities-stretch (entities ns) 0 (omega (arith, R.number)) (λ j h. ap (λ (k : ℕ). get_or (entities ns) k 0) (let z : j ≡ 0 + j = omega arith in z))
