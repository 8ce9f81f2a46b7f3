use Rattle.checker.proofs.RowLaws.{digests_B, digests_F}
use Rattle.checker.proofs.put_digests.Goals as goal

pub returns-in-Backward : goal.returns-in-Backward
returns-in-Backward c = search digests_B

pub returns-in-Forward : goal.returns-in-Forward
returns-in-Forward c = search digests_F
