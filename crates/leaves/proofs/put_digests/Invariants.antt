use Prim.Native.Nat.{◌-◌, ◌≤◌}
use Rattle.leaves.specs.Leaves.{Filling}
use Rattle.leaves.proofs.put_digests.Given as goal

abbrev pub invariant-loop-l : goal.invariant-loop-l
invariant-loop-l l = (l.l ≤ l.count) × Filling l.initial.work l.from l.digests l.l l.work
