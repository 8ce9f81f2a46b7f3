use Rattle.checker.proofs.Referring.{lowest_backward, lowest_forward}
use Rattle.checker.proofs.find_unreferenced.Goals as goal

pub returns-in-Backward : goal.returns-in-Backward
returns-in-Backward c = lowest_backward _ _ _ _ _ c.in-Backward.is c.find_unreferenced_backward.ensures

pub returns-in-Forward : goal.returns-in-Forward
returns-in-Forward c = lowest_forward _ _ _ c.in-Forward.is
