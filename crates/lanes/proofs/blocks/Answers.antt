use Rattle.std.proofs.Common.{rules}
use Rattle.lanes.proofs.Messages.{all_more, all-passed}
use Rattle.lanes.proofs.blocks.Goals as goal

pub loop-j-preserved : goal.loop-j-preserved
loop-j-preserved c = search (all_more, rules)

pub returns : goal.returns
returns c = λ l s. search (all-passed, rules)
