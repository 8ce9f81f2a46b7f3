use Rattle.marks.proofs.Marking.{clearing_none, clearing_more, clearing_size, clearing_all}
use Rattle.marks.proofs.clear_marks.Goals as goal

pub loop-i-init : goal.loop-i-init
loop-i-init c = search clearing_none

pub loop-i-preserved : goal.loop-i-preserved
loop-i-preserved c = search clearing_more

pub shape_of-work : goal.shape_of-work
shape_of-work c = search clearing_size

pub returns : goal.returns
returns c = search clearing_all
