use Rattle.proof_writer.proofs.Seeking.{Seeking}
use Rattle.proof_writer.proofs.seek.Given as goal

abbrev pub invariant-loop-descent : goal.invariant-loop-descent
invariant-loop-descent l = Seeking l.descent l.work l.ranks l.from l.n l.leaves l.depth

abbrev pub decreases-loop-descent : goal.decreases-loop-descent
decreases-loop-descent l = l.leaves.n
