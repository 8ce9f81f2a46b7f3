use Prim.Native.Nat.{◌-◌}
use lib.ListN.{length}
use Rattle.proof_reader.proofs.Walking.{Seeking}
use Rattle.proof_reader.proofs.walk_entities.Given as goal

abbrev pub invariant-loop-entity : goal.invariant-loop-entity
invariant-loop-entity l = Seeking l.answer l.entity.0 l.initial.at l.initial.tree.at l.at l.tree.at

abbrev pub decreases-loop-entity : goal.decreases-loop-entity
decreases-loop-entity l = length l.answer - l.at
