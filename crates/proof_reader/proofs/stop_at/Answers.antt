use Rattle.proof_reader.proofs.Descents.{back_stop, ahead_stop}
use Rattle.proof_reader.proofs.stop_at.Goals as goal

pub returns-in-AtOrBefore : goal.returns-in-AtOrBefore
returns-in-AtOrBefore c = search back_stop

pub returns-in-AtOrAfter : goal.returns-in-AtOrAfter
returns-in-AtOrAfter c = search ahead_stop
