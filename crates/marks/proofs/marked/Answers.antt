use Rattle.marks.proofs.Marking.{marked-is}
use Rattle.marks.proofs.marked.Goals as goal

pub returns : goal.returns
returns c = search marked-is
