use Rattle.round_constants.proofs.Cubes.{Digits}
use Rattle.round_constants.proofs.refined_root.Given as goal

abbrev pub invariant-loop-x : goal.invariant-loop-x
invariant-loop-x l = Digits l.n l.a l.b l.x

abbrev pub decreases-loop-x : goal.decreases-loop-x
decreases-loop-x l = l.x
