-- Leaves in a row, and the trees of some that stand together. Assumes nothing.
use Rattle.std.specs.Prelude.{ℕ, zero, suc, ◌+◌, ◌≤◌, ◌<◌, List, [], ◌∷◌}
use Rattle.model.specs.Numbers.{Bytes}
use Rattle.model.specs.Accumulator.{Subtree as Known, letter_N, letter_P}
use Rattle.accumulator.specs.Trees.{version_leaf, group_leaf}
use Rattle.accumulator.specs.Halves.{subtree_of}
use Rattle.leaves.specs.Leaves.{slot_leaf}
use Rattle.ranks.specs.declared.Ranks.{Ranks}
use Rattle.ranks.specs.Ranked.{slot_at, first_in, count_in, entity_at}
use Rattle.kept_trees.specs.declared.Row.{Row}
use Rattle.kept_trees.specs.declared.Row.TheVariants.{Versions, Entities}

-- ---- any row

-- the letter of the strings above the leaves, what is known of each leaf, and the slot where the digest of a tree is kept whose right half
-- begins with it
pub record Leaves : Type 0 where
  pub letter : ℕ
  pub leaf : ℕ → Known
  pub slot : ℕ → ℕ

-- n leaves, from the i-th on
unfoldable pub stretch : Leaves → ℕ → ℕ → List Known
stretch R i zero = []
stretch R i (suc n) = R.leaf i ∷ stretch R (suc i) n

-- what is known of their tree
abbrev pub tree_of : Leaves → ℕ → ℕ → Known
tree_of R i n = subtree_of R.letter (stretch R i n)

-- ---- the two rows of a table with ranks

-- the versions, by rank
unfoldable pub version_known : Bytes → ℕ → Known
version_known work i = version_leaf (slot_leaf work (slot_at work i))

unfoldable pub versions_row : Bytes → Leaves
versions_row work = record { letter = letter_N; leaf = version_known work; slot = λ i. i }

-- the entities, in the order of births
unfoldable pub entity_known : Bytes → Ranks → ℕ → Known
entity_known work r g = group_leaf (entity_at work r g) (tree_of (versions_row work) (first_in work r g) (count_in work r g))

unfoldable pub entities_row : Bytes → Ranks → Leaves
entities_row work r = record { letter = letter_P; leaf = entity_known work r; slot = first_in work r }

abbrev pub row_leaves : Row → Bytes → Ranks → Leaves
row_leaves Versions work r = versions_row work
row_leaves Entities work r = entities_row work r

abbrev pub letter_of : Row → ℕ
letter_of Versions = letter_N
letter_of Entities = letter_P

abbrev pub size_of : Row → Ranks → ℕ
size_of Versions r = r.versions
size_of Entities r = r.entities

-- some leaves of a row that stand together, one at least
pub record Within (row : Row) (r : Ranks) (i n : ℕ) : Type 0 where
  pub some : 0 < n
  pub inside : i + n ≤ size_of row r
