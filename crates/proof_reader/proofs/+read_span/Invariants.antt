use Rattle.proof_reader.proofs.+read_span.Given as goal

abbrev pub decreases-read_span : goal.decreases-read_span
decreases-read_span l = l.n
