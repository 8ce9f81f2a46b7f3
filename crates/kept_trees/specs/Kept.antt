-- Trees whose inner digests are kept in the node table. Column 84, 32 bytes: a digest. Assumes nothing.
use Rattle.std.specs.Prelude.{◌≡◌, List, [], ◌∷◌, ℕ, ◌+◌, ◌-◌, ◌*◌, ◌≤◌, ◌<◌, length}
use Rattle.fields.specs.Fields.{written}
use Rattle.model.specs.Numbers.{Bytes, joined}
use Rattle.model.specs.Accumulator.{Subtree as Known, Tree, tip, branch, tree}
use Rattle.graph.specs.Table.{columns, Kept}
use Rattle.leaves.specs.Leaves.{digest_in}
use Rattle.accumulator.specs.Halves.{folded, leaf_count, no_known, path_to}
use Rattle.ranks.specs.declared.Ranks.{Ranks}
use Rattle.ranks.specs.Ranked.{first_in, count_in}
use Rattle.kept_trees.specs.declared.Row.{Row}
use Rattle.kept_trees.specs.declared.Row.TheVariants.{Versions, Entities}
use Rattle.kept_trees.specs.Leaves.{Leaves, stretch, tree_of, versions_row, entities_row}

-- before a tree is built, the digests of its leaves are kept in their slots: here of n leaves from the i-th on
pub record LeafDigests (R : Leaves) (work : Bytes) (i n : ℕ) : Type 0 where
  pub here : (x : ℕ) → i ≤ x → x < i + n → digest_in work (R.slot x) ≡ (R.leaf x).digest

-- the inner digests of a tree whose first leaf is the i-th
unfoldable pub Keeps : Leaves → Bytes → ℕ → Tree Known → Type 0
Keeps R work i (tip k) = Unit {0}
Keeps R work i (branch s t) =
    (digest_in work (R.slot (i + leaf_count s)) ≡ (folded R.letter (branch s t)).digest) × Keeps R work i s × Keeps R work (i + leaf_count s) t

-- the tree of n leaves from the i-th on is kept
pub record KeptTree (R : Leaves) (work : Bytes) (i n : ℕ) : Type 0 where
  pub keeps : Keeps R work i (tree no_known (stretch R i n))

-- what a table says of that tree, if its right half begins k leaves later: the keys of its first and its last leaf, and the digest kept
unfoldable pub node_kept : Leaves → Bytes → ℕ → ℕ → ℕ → Known
node_kept R work i n k = record { least = (R.leaf i).least; greatest = (R.leaf (i + (n - 1))).greatest; digest = digest_in work (R.slot (i + k)) }

-- the digest in one slot is another one
pub record Stored (work work' : Bytes) (s : ℕ) (d : Bytes) : Type 0 where
  pub kept : Kept (columns 84 116 ∷ []) work work'
  pub others : (j : ℕ) → (j ≡ s → ⊥) → digest_in work' j ≡ digest_in work j
  pub here : digest_in work' s ≡ d

-- the tree is known and kept now, and no digests changed but those in the slots of the leaves behind the first
pub record Keeping (R : Leaves) (work work' : Bytes) (i n : ℕ) (k : Known) : Type 0 where
  pub root : k ≡ tree_of R i n
  pub others : (j : ℕ) → ((x : ℕ) → i < x → x < i + n → j ≡ R.slot x → ⊥) → digest_in work' j ≡ digest_in work j
  pub tree_kept : KeptTree R work' i n

-- the strings on the way from the root of that tree to its leaf at place j, d of them at most
abbrev pub way_to : Leaves → ℕ → ℕ → ℕ → ℕ → List Bytes
way_to R i n j d = path_to R.letter (stretch R i n) j d

-- they are written from `at` on
pub record WayPut (R : Leaves) (i n j d : ℕ) (out out' : Bytes) (at : ℕ) : Type 0 where
  pub strings : out' ≡ written out at (joined (way_to R i n j d))
  pub short : length (joined (way_to R i n j d)) ≤ 97 * d

-- ---- the trees of a table with ranks

-- every entity's tree is kept
pub record VersionsKept (work : Bytes) (r : Ranks) : Type 0 where
  pub kept : (g : ℕ) → g < r.entities → KeptTree (versions_row work) work (first_in work r g) (count_in work r g)

-- and the tree of entities
pub record TreesKept (work : Bytes) (r : Ranks) : Type 0 where
  pub versions : VersionsKept work r
  pub entities : KeptTree (entities_row work r) work 0 r.entities

-- a row's leaves can be known: an entity's leaf needs the entity's tree
abbrev pub Ready : Row → Bytes → Ranks → Type 0
Ready Versions work r = Unit {0}
Ready Entities work r = VersionsKept work r
