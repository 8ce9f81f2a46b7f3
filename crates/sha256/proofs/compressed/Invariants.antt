use Rattle.std.proofs.Common.{◌≡◌, ◌-◌, ◌%◌, ◌≤◌}
use Rattle.sha256.specs.Sha256.{rounds}
use Rattle.sha256.proofs.compressed.Given as goal

abbrev pub invariant-loop-t : goal.invariant-loop-t
invariant-loop-t l = (l.t ≤ 64) × ((l.t % 8 ≡ 0) × (l.v ≡ rounds l.t l.constants l.w l.initial.v))

abbrev pub decreases-loop-t : goal.decreases-loop-t
decreases-loop-t l = 64 - l.t
