use Rattle.std.proofs.Common.{◌+◌, ◌*◌, ◌≤◌}
use Rattle.lanes.specs.Lanes.{Loaded}
use Rattle.lanes.proofs.load_row.Given as goal

abbrev pub invariant-loop-l : goal.invariant-loop-l
invariant-loop-l l = (l.l ≤ 8) × Loaded l.m l.at l.step (8 * l.t + l.l) l.w
