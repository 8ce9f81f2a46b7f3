use Prim.Native.Nat.{◌-◌}
use lib.ListN.{length}
use Rattle.question.specs.Directions.{relation_of}
use Rattle.proof_reader.specs.Walks.{versions_at}
use Rattle.proof_reader.proofs.Walking.{Walking}
use Rattle.proof_reader.proofs.walk_versions.Given as goal

abbrev pub invariant-loop-question : goal.invariant-loop-question
invariant-loop-question l =
    Walking l.answer (versions_at (relation_of l.question.relation) l.question.time.0 l.answer) l.initial.at l.initial.tree.at l.at l.tree.at

abbrev pub decreases-loop-question : goal.decreases-loop-question
decreases-loop-question l = length l.answer - l.at
