use Prim.Native.Nat.{◌-◌}
use Rattle.kept_trees.proofs.Entities.{BatchTo}
use Rattle.kept_trees.proofs.keep_batch.Given as goal

abbrev pub invariant-loop-l : goal.invariant-loop-l
invariant-loop-l l = BatchTo l.initial.work l.work l.ranks l.g l.count l.l l.b
