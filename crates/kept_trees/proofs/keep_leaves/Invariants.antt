use Prim.Native.Nat.{◌-◌}
use Rattle.kept_trees.proofs.Entities.{LeavesTo}
use Rattle.kept_trees.proofs.keep_leaves.Given as goal

abbrev pub invariant-loop-from : goal.invariant-loop-from
invariant-loop-from l = LeavesTo l.initial.work l.work l.ranks l.from

abbrev pub decreases-loop-from : goal.decreases-loop-from
decreases-loop-from l = l.ranks.versions - l.from
