use Rattle.trace_reader.proofs.Heading.{no_header, other-trace, header-cut, no_record, too_many, work-short, header_passes}
use Rattle.trace_reader.proofs.read_header.Goals as goal

pub returns-then-left-eq0 : goal.returns-then-left-eq0
returns-then-left-eq0 c = search no_header

pub returns-then-answer-at : goal.returns-then-answer-at
returns-then-answer-at c = search other-trace

pub returns-then-left-lt-TRACE_HEADER_WIDTH : goal.returns-then-left-lt-TRACE_HEADER_WIDTH
returns-then-left-lt-TRACE_HEADER_WIDTH c = search header-cut

pub returns-then-count-lt1 : goal.returns-then-count-lt1
returns-then-count-lt1 c = search no_record

pub returns-then-count-gt65535 : goal.returns-then-count-gt65535
returns-then-count-gt65535 c = search too_many

pub returns-then-size-count : goal.returns-then-size-count
returns-then-size-count c = search work-short

pub returns : goal.returns
returns c = search header_passes
