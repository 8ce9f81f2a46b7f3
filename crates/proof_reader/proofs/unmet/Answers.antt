use Rattle.question.proofs.Keys.{key_below}
use Rattle.proof_reader.proofs.Descents.{back_stops, ahead_stops}
use Rattle.proof_reader.proofs.unmet.Goals as goal

pub returns-in-AtOrBefore : goal.returns-in-AtOrBefore
returns-in-AtOrBefore c = back_stops _ _ c.in-AtOrBefore.is _ _ c.least.ensures _ _ (key_below _ _ _ c.lt.ensures)

pub returns-in-AtOrAfter : goal.returns-in-AtOrAfter
returns-in-AtOrAfter c = ahead_stops _ _ c.in-AtOrAfter.is _ _ c.greatest.ensures _ _ (key_below _ _ _ c.lt-in-AtOrAfter.ensures)
