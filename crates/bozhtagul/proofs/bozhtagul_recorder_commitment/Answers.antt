use Rattle.bozhtagul.proofs.Recorders.{commitment-plain}
use Rattle.bozhtagul.proofs.bozhtagul_recorder_commitment.Goals as goal

pub returns : goal.returns
returns c = commitment-plain _ _ _ _ c.commitment.ensures _ c.from.ensures
