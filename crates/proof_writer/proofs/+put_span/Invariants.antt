use Rattle.proof_writer.proofs.+put_span.Given as goal

abbrev pub decreases-put_span : goal.decreases-put_span
decreases-put_span l = l.leaves.n
