use Rattle.proof_reader.proofs.Spans.{more-due, leaf-due}
use Rattle.proof_reader.proofs.letter_due.Goals as goal

pub returns-then-n-ne0 : goal.returns-then-n-ne0
returns-then-n-ne0 c = more-due _ _ c.if-n-ne0.true

pub returns-else-n-ne0 : goal.returns-else-n-ne0
returns-else-n-ne0 c = leaf-due _ _ _ c.if-n-ne0.false _ _ c.least.ensures c.greatest.ensures _ c.eq.ensures
