-- What is read so far lies in the place for it.
use Rattle.std.proofs.Common.{◌≤◌}
use Rattle.listing_main.proofs.main.Given as goal

abbrev pub invariant-loop-turn : goal.invariant-loop-turn
invariant-loop-turn l = l.n ≤ 9217
