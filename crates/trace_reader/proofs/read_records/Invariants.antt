use Rattle.question.specs.Ways.{way_of}
use Rattle.trace_reader.proofs.Sequence.{ReadTo}
use Rattle.trace_reader.proofs.read_records.Given as goal

abbrev pub invariant-loop-i : goal.invariant-loop-i
invariant-loop-i l = ReadTo (way_of l.way) l.count l.answer l.start l.i l.last.0 l.work l.at
