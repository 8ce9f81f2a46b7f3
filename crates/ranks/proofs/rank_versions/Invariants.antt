use mathlib.Core.List.{List}
use Prim.Native.Nat.{◌-◌}
use Rattle.model.specs.Graph.{VersionNode, node_at}
use Rattle.trees.specs.Tables.{Graphed}
use Rattle.ranks.proofs.EntityRanks.{VersionsTo}
use Rattle.ranks.proofs.rank_versions.Given as goal

abbrev pub invariant-loop-i : goal.invariant-loop-i
invariant-loop-i l = (ns : List VersionNode) → Graphed l.initial.work l.n ns → VersionsTo l.initial.work l.work ns (node_at ns l.entry).entity l.from l.rank l.i

abbrev pub decreases-loop-i : goal.decreases-loop-i
decreases-loop-i l = 65535 - l.i
