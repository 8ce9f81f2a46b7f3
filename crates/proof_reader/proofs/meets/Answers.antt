use Rattle.proof_reader.proofs.Spans.{key_at_most, too_late, in_time}
use Rattle.proof_reader.proofs.meets.Goals as goal

pub returns-then-le : goal.returns-then-le
returns-then-le c =
    in_time _ _ _ _ c.least.ensures _ (key_at_most _ _ _ c.le.ensures) c.if-le.true _ c.greatest.ensures _ (key_at_most _ _ _ c.le-then-le.ensures)

pub returns-else-le : goal.returns-else-le
returns-else-le c = too_late _ _ _ _ c.least.ensures _ (key_at_most _ _ _ c.le.ensures) c.if-le.false
