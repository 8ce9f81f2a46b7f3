use Rattle.proof_writer.proofs.+span_length.Given as goal

abbrev pub decreases-span_length : goal.decreases-span_length
decreases-span_length l = l.leaves.n
