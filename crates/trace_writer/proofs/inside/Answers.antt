use Rattle.marks.proofs.Edges.{stands_there}
use Rattle.trace_writer.proofs.Edges.{inside-absent, inside-present}
use Rattle.graph.proofs.Strings.{start_there}
use Rattle.trace_writer.proofs.inside.Goals as goal

pub returns-then-start-eq-ABSENT : goal.returns-then-start-eq-ABSENT
returns-then-start-eq-ABSENT c = search inside-absent

pub marked-requires : goal.marked-requires
marked-requires c = search stands_there

pub returns : goal.returns
returns c = search (inside-present, start_there)
