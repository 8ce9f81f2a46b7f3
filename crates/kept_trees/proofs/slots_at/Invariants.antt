use Prim.Native.Nat.{◌-◌, ◌≤◌}
use Rattle.kept_trees.specs.Entities.{SlotsAt}
use Rattle.kept_trees.proofs.slots_at.Given as goal

abbrev pub invariant-loop-l : goal.invariant-loop-l
invariant-loop-l l = (l.l ≤ l.count) × SlotsAt l.work l.from l.l l.slots
