use Rattle.bozhtagul.proofs.Recorders.{take-plain}
use Rattle.bozhtagul.proofs.bozhtagul_recorder_take.Goals as goal

pub returns : goal.returns
returns c = take-plain _ _ _ _ c.take.ensures _ c.from.ensures
