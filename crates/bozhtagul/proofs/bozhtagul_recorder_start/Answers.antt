use Rattle.bozhtagul.proofs.Recorders.{start_plain}
use Rattle.bozhtagul.proofs.bozhtagul_recorder_start.Goals as goal

pub returns : goal.returns
returns c = let k = c.start.ensures in start_plain _ _ _ k.result k.cleared _ c.from.ensures
