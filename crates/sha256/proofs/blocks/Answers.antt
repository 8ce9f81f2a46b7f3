use Rattle.sha256.proofs.Messages.{passed-more, passed-all}
use Rattle.sha256.proofs.blocks.Goals as goal

pub loop-j-preserved : goal.loop-j-preserved
loop-j-preserved c = search passed-more

pub returns : goal.returns
returns c = search passed-all
