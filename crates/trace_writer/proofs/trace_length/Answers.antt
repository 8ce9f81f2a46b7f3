use Rattle.trace_writer.proofs.Records.{measuring_none, measuring_more, measuring_all}
use Rattle.trace_writer.proofs.Searching.{starts_at}
use Rattle.trace_writer.proofs.trace_length.Goals as goal

pub loop-i-init : goal.loop-i-init
loop-i-init c = search measuring_none

pub record_width-length-requires : goal.record_width-length-requires
record_width-length-requires c = search starts_at

pub loop-i-preserved : goal.loop-i-preserved
loop-i-preserved c = search measuring_more

pub returns : goal.returns
returns c = search measuring_all
