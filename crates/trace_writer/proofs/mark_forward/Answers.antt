use Rattle.trace_writer.proofs.Searching.{for_none, for_starts, for_room, for_more, for_all}
use Rattle.trace_writer.proofs.mark_forward.Goals as goal

pub loop-i-init : goal.loop-i-init
loop-i-init c = search for_none

pub either_inside-reached-requires : goal.either_inside-reached-requires
either_inside-reached-requires c = search for_starts

pub set_mark-requires : goal.set_mark-requires
set_mark-requires c = search for_room

pub loop-i-preserved : goal.loop-i-preserved
loop-i-preserved c = search for_more

pub returns : goal.returns
returns c = search for_all
