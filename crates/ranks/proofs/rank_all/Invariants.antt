use mathlib.Core.List.{List}
use Prim.Native.Nat.{◌-◌}
use Rattle.model.specs.Graph.{VersionNode}
use Rattle.trees.specs.Tables.{Graphed}
use Rattle.ranks.proofs.AllRanks.{EntitiesTo}
use Rattle.ranks.proofs.rank_all.Given as goal

abbrev pub invariant-loop-i : goal.invariant-loop-i
invariant-loop-i l = (ns : List VersionNode) → Graphed l.initial.work l.n ns → EntitiesTo l.initial.work l.work ns l.entities l.versions l.i

abbrev pub decreases-loop-i : goal.decreases-loop-i
decreases-loop-i l = l.n - l.i
