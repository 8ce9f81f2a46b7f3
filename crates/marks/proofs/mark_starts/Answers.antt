use Rattle.marks.proofs.Edges.{previous_stands, source_stands, stands_then, both-marked}
use Rattle.marks.proofs.mark_starts.Goals as goal

pub mark_start-requires : goal.mark_start-requires
mark_start-requires c = search previous_stands

pub mark_start-requires-2 : goal.mark_start-requires-2
mark_start-requires-2 c = stands_then _ _ _ _ c.mark_start.ensures (search (previous_stands, source_stands))

pub returns : goal.returns
returns c = search both-marked
