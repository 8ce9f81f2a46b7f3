-- All strings of an entity's tree that a span of times opens, over ranked versions. Assumes nothing.
use Rattle.std.specs.Prelude.{List, map, ℕ, ◌+◌, ◌≤◌, length}
use Rattle.model.specs.Numbers.{Bytes, joined}
use Rattle.model.specs.Graph.{VersionNode}
use Rattle.model.specs.Accumulator.{tree, VersionLeaf, versions_layout, no_leaf}
use Rattle.model.specs.Question.{SpanQuestion, open_all, within}
use Rattle.trees.specs.Tables.{Graphed, version_at}
use Rattle.ranks.specs.declared.Ranks.{Ranks}
use Rattle.ranks.specs.Ranked.{slots_in, RankedAs}
use Rattle.kept_trees.specs.declared.Row.TheVariants.{Versions}
use Rattle.proof_writer.specs.declared.Stretch.{Stretch}
use Rattle.proof_writer.specs.Walks.{Among}

-- n versions, from rank i on
abbrev pub versions_in : List VersionNode → Bytes → ℕ → ℕ → List VersionLeaf
versions_in ns work i n = map (version_at ns) (slots_in work i n)

-- the strings that are opened of their tree, in preorder
unfoldable pub span_strings : List VersionNode → Bytes → SpanQuestion → ℕ → ℕ → List Bytes
span_strings ns work p i n = (open_all versions_layout (within p) (tree no_leaf (versions_in ns work i n))).opened

-- some versions of a table whose versions are ranked, and room for those strings behind byte `at`
pub record SpanFits (work : Bytes) (n : ℕ) (r : Ranks) (p : SpanQuestion) (s : Stretch) (at room : ℕ) : Type 0 where
  pub ns : List VersionNode
  pub graphed : Graphed work n ns
  pub ranked : RankedAs work ns r
  pub among : Among Versions r s
  pub space : at + length (joined (span_strings ns work p s.from s.n)) ≤ room
