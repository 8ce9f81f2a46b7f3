use Rattle.checker.proofs.RowLaws.{column_B, column_F}
use Rattle.checker.proofs.column_of.Goals as goal

pub returns-in-Backward : goal.returns-in-Backward
returns-in-Backward c = search column_B

pub returns-in-Forward : goal.returns-in-Forward
returns-in-Forward c = search column_F
