use Rattle.trace_writer.proofs.Records.{both-kept, is-prepared, prepared-length, prepared-ready}
use Rattle.trace_writer.proofs.prepare.Goals as goal

pub trace_length-requires : goal.trace_length-requires
trace_length-requires c = search prepared-ready

pub returns : goal.returns
returns c = record { prepared = search is-prepared; kept = search both-kept; bytes = search prepared-length }
