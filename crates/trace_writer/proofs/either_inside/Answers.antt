use Rattle.marks.proofs.Edges.{previous_stands, source_stands}
use Rattle.trace_writer.proofs.Edges.{previous-inside, source-inside}
use Rattle.trace_writer.proofs.either_inside.Goals as goal

pub inside-requires : goal.inside-requires
inside-requires c = search previous_stands

pub returns-then-inside : goal.returns-then-inside
returns-then-inside c = search previous-inside

pub inside-requires-2 : goal.inside-requires-2
inside-requires-2 c = search source_stands

pub returns : goal.returns
returns c = search source-inside
