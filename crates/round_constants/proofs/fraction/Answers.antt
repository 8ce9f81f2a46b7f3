use Rattle.round_constants.proofs.Filling.{six_known, fifteen_known, fraction-is}
use Rattle.round_constants.proofs.fraction.Goals as goal

pub refined_root-b-requires : goal.refined_root-b-requires
refined_root-b-requires c = search six_known

pub refined_root-r-requires : goal.refined_root-r-requires
refined_root-r-requires c = search fifteen_known

pub returns : goal.returns
returns c = search fraction-is
