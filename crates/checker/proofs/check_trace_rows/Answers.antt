use borrow.Author.Rules.{rules}
use Rattle.checker.proofs.RowLaws.{more_bytes, idle_record, rows_go_on, ready-kept, lowest-there}
use Rattle.checker.proofs.check_trace_rows.Goals as goal

pub returns-then-trace-answer : goal.returns-then-trace-answer
returns-then-trace-answer c = more_bytes _ _ _ _ _ _ _ c.requires.0.4 c.if-trace-answer.true _ c.at.ensures

pub record_place-requires : goal.record_place-requires
record_place-requires c = (lowest-there _ _ _ _ c.requires.0.0 _ c.in-Some.ensures, search rules)

pub returns-in-Some : goal.returns-in-Some
returns-in-Some c =
    idle_record _ _ _ _ _ _ _ c.requires.0.4 c.if-trace-answer.false _ _ c.in-Some.ensures _ c.record_place.ensures _ c.at-in-Some.ensures

pub check_found_record-requires : goal.check_found_record-requires
check_found_record-requires c =
    let r = c.requires in
    let p = r.0 in
    ((ready-kept _ _ _ _ p.0 c.in_default.ensures, p.1, p.2, p.3), r.1)

pub returns : goal.returns
returns c = rows_go_on _ _ _ _ _ _ _ c.requires.0.4 c.if-trace-answer.false _ c.in_default.ensures _ c.check_found_record.ensures
