use Prim.Native.Nat.{◌-◌, ◌≤◌}
use Rattle.kept_trees.specs.Entities.{EntitiesFilled}
use Rattle.kept_trees.proofs.put_digests.Given as goal

abbrev pub invariant-loop-l : goal.invariant-loop-l
invariant-loop-l l = (l.l ≤ l.count) × EntitiesFilled l.initial.work l.ranks l.g l.digests l.l l.work
