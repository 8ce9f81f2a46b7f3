use Prim.Native.Nat.{◌-◌, ◌*◌, ◌≤◌}
use Rattle.round_constants.proofs.raised_root.Given as goal

abbrev pub invariant-loop-r : goal.invariant-loop-r
invariant-loop-r l = (l.r * l.r * l.r ≤ l.n) × (l.a ≤ l.r)

abbrev pub decreases-loop-r : goal.decreases-loop-r
decreases-loop-r l = 512 - l.r
