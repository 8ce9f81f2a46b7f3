use Prim.Native.Nat.{◌-◌}
use Rattle.incoming.specs.Groups.{Gathered}
use Rattle.incoming.proofs.gather.Given as goal

abbrev pub invariant-loop-count : goal.invariant-loop-count
invariant-loop-count l = Gathered l.work l.n l.first l.slots l.count l.edges l.i

abbrev pub decreases-loop-count : goal.decreases-loop-count
decreases-loop-count l = l.n - l.i
