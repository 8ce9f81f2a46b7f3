use Rattle.checker.proofs.RowLaws.{found-last, found_first}
use Rattle.checker.proofs.found_position.Goals as goal

pub returns-in-Backward : goal.returns-in-Backward
returns-in-Backward c = found-last _ _ c.requires c.in-Backward.is

pub returns-in-Forward : goal.returns-in-Forward
returns-in-Forward c = found_first _ _ c.requires c.in-Forward.is
