-- How all trees come to be kept: entity by entity, some at a time. Assumes nothing.
use Rattle.std.specs.Prelude.{◌≡◌, List, [], ◌∷◌, ℕ, ◌+◌, ◌*◌, ◌≤◌, ◌<◌, length, get_or}
use Rattle.fields.specs.Fields.{part}
use Rattle.model.specs.Numbers.{Bytes}
use Rattle.model.specs.Accumulator.{Subtree as Known, group_string}
use Rattle.graph.specs.Table.{columns, Kept}
use Rattle.leaves.specs.Leaves.{digest_in}
use Rattle.ranks.specs.declared.Ranks.{Ranks}
use Rattle.ranks.specs.Ranked.{slot_at, first_in, count_in, entity_at, Ranked}
use Rattle.kept_trees.specs.Leaves.{tree_of, versions_row, entity_known, version_known}
use Rattle.kept_trees.specs.Kept.{LeafDigests, KeptTree}

-- the slots of the first k versions from a rank on
pub record SlotsAt (work : Bytes) (from k : ℕ) (slots : List ℕ) : Type 0 where
  pub size : length slots ≡ 8
  pub same : (l : ℕ) → l < k → get_or slots l 0 ≡ slot_at work (from + l)

-- ---- one entity

-- the digests of its versions' leaves are kept
abbrev pub EntityLeaves : Bytes → Ranks → ℕ → Type 0
EntityLeaves work r g = LeafDigests (versions_row work) work (first_in work r g) (count_in work r g)

-- its tree
abbrev pub entity_tree : Bytes → Ranks → ℕ → Known
entity_tree work r g = tree_of (versions_row work) (first_in work r g) (count_in work r g)

-- its tree is known and kept now, and no digests changed but in the slots of its ranks behind the first
pub record EntityKept (work work' : Bytes) (r : Ranks) (g : ℕ) (k : Known) : Type 0 where
  pub root : k ≡ entity_tree work r g
  pub others : (j : ℕ) → (first_in work r g < j → j < first_in work r (g + 1) → ⊥) → digest_in work' j ≡ digest_in work j
  pub here : KeptTree (versions_row work) work' (first_in work r g) (count_in work r g)

-- ---- some entities

-- the trees of the first t entities are kept, the digests of the leaves of the first g entities, and those of the other entities' versions
pub record KeptTo (work : Bytes) (r : Ranks) (g t : ℕ) : Type 0 where
  pub ranked : Ranked work r
  pub inside : t ≤ r.entities
  pub behind : g ≤ t
  pub trees : (x : ℕ) → x < t → KeptTree (versions_row work) work (first_in work r x) (count_in work r x)
  pub groups : (x : ℕ) → x < g → digest_in work (first_in work r x) ≡ (entity_known work r x).digest
  pub leaves : (i : ℕ) → first_in work r t ≤ i → i < r.versions → digest_in work i ≡ (version_known work i).digest

-- b holds the strings G of k entities from the g-th on, 57 bytes each
pub record EntityStrings (work : Bytes) (r : Ranks) (g k : ℕ) (b : Bytes) : Type 0 where
  pub size : length b ≡ 456
  pub strings : (l : ℕ) → l < k → part b (57 * l) 57 ≡ group_string (entity_at work r (g + l)) (entity_tree work r (g + l))

-- the first k of some digests are kept in the slots of the first ranks of the entities from the g-th on, and all else is as before
pub record EntitiesFilled (work : Bytes) (r : Ranks) (g : ℕ) (digests : Bytes) (k : ℕ) (work' : Bytes) : Type 0 where
  pub kept : Kept (columns 84 116 ∷ []) work work'
  pub here : (l : ℕ) → l < k → digest_in work' (first_in work r (g + l)) ≡ part digests (32 * l) 32
  pub others : (j : ℕ) → ((l : ℕ) → l < k → j ≡ first_in work r (g + l) → ⊥) → digest_in work' j ≡ digest_in work j
