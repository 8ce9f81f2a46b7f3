use Prim.Native.Nat.{◌≤◌}
use lib.ListN.{length}
use Rattle.leaves.specs.Leaves.{Strings}
use Rattle.leaves.proofs.put_strings.Given as goal

abbrev pub invariant-loop-l : goal.invariant-loop-l
invariant-loop-l l = (l.l ≤ length l.slots) × Strings l.work l.slots l.l l.b
