use Prim.Native.Nat.{◌-◌}
use Rattle.kept_trees.proofs.Entities.{EntitiesTo}
use Rattle.kept_trees.proofs.keep_entities.Given as goal

abbrev pub invariant-loop-g : goal.invariant-loop-g
invariant-loop-g l = EntitiesTo l.initial.work l.work l.ranks l.g l.b

abbrev pub decreases-loop-g : goal.decreases-loop-g
decreases-loop-g l = l.ranks.entities - l.g
