use Rattle.std.proofs.Common.{◌≡◌, ◌+◌, ◌-◌, ◌%◌, ◌≤◌, take}
use Rattle.sha256.specs.State.{Scheduled}
use Rattle.sha256.proofs.extend.Given as goal

abbrev pub invariant-loop-t : goal.invariant-loop-t
invariant-loop-t l = (l.t ≤ 48) × ((l.t % 4 ≡ 0) × Scheduled (take 16 l.initial.w) (l.t + 16) l.w)

abbrev pub decreases-loop-t : goal.decreases-loop-t
decreases-loop-t l = 48 - l.t
