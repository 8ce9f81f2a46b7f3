use Rattle.fields.proofs.Loops.{put_none, put_more}
use Rattle.fields.proofs.put.Goals as goal

pub loop-i-init : goal.loop-i-init
loop-i-init c = search put_none

pub loop-i-preserved : goal.loop-i-preserved
loop-i-preserved c = search put_more
