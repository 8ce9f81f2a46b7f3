use Rattle.marks.proofs.Marking.{mark_set, mark_cleared}
use Rattle.marks.proofs.set_mark.Goals as goal

pub returns-then-mark : goal.returns-then-mark
returns-then-mark c = search mark_set

pub returns : goal.returns
returns c = search mark_cleared
