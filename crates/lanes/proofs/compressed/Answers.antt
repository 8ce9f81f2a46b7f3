use Rattle.lanes.proofs.Columns.{lane_compressed}
use Rattle.lanes.proofs.compressed.Goals as goal

pub returns : goal.returns
returns c = λ l h. search (lane_compressed l h)
