use Rattle.marks.proofs.Edges.{start-absent, start-present, stands_there}
use Rattle.graph.proofs.Strings.{start_there}
use Rattle.marks.proofs.mark_start.Goals as goal

pub returns-then-start-eq-ABSENT : goal.returns-then-start-eq-ABSENT
returns-then-start-eq-ABSENT c = search start-absent

pub set_mark-requires : goal.set_mark-requires
set_mark-requires c = search stands_there

pub returns : goal.returns
returns c = search (start-present, start_there)
