use Rattle.std.proofs.Common.{◌*◌, ◌≤◌}
use Rattle.lanes.specs.Lanes.{Loaded}
use Rattle.lanes.proofs.load.Given as goal

abbrev pub invariant-loop-t : goal.invariant-loop-t
invariant-loop-t l = (l.t ≤ 16) × Loaded l.m l.at l.step (8 * l.t) l.w
