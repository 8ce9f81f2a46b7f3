use Rattle.trace_writer.proofs.Searching.{only_marked_starts, back_none, back_starts, back_more, back_all}
use Rattle.trace_writer.proofs.mark_backward.Goals as goal

pub mark_starts-requires : goal.mark_starts-requires
mark_starts-requires c = search only_marked_starts

pub loop-i-init : goal.loop-i-init
loop-i-init c = search back_none

pub mark_starts_if_marked-requires : goal.mark_starts_if_marked-requires
mark_starts_if_marked-requires c = search back_starts

pub loop-i-preserved : goal.loop-i-preserved
loop-i-preserved c = search back_more

pub returns : goal.returns
returns c = search back_all
