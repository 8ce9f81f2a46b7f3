use Rattle.std.proofs.Common.{rules}
use Rattle.sha256.proofs.Arrays.{added_more, added_all}
use Rattle.sha256.proofs.added.Goals as goal

pub loop-i-preserved : goal.loop-i-preserved
loop-i-preserved c = search (added_more, rules)

pub returns : goal.returns
returns c = search (added_all, rules)
