use Rattle.marks.proofs.Edges.{previous_stands, source_stands}
use Rattle.trace_writer.proofs.Records.{width_marked, width_unmarked}
use Rattle.trace_writer.proofs.record_width.Goals as goal

pub inside-previous-requires : goal.inside-previous-requires
inside-previous-requires c = search previous_stands

pub inside-source-requires : goal.inside-source-requires
inside-source-requires c = search source_stands

pub returns-then-marked : goal.returns-then-marked
returns-then-marked c = search width_marked

pub returns : goal.returns
returns c = search width_unmarked
