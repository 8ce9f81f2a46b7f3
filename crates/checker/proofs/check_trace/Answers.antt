use borrow.Author.Rules.{rules}
use Rattle.std.proofs.lemmas.Result.{err_from_is_err_and}
use Rattle.fields.proofs.Numbers.{octets}
use Rattle.checker.proofs.Running.{trace_told, trace-refused}
use Rattle.checker.proofs.check_trace.Goals as goal

pub returns-in_err-trace : goal.returns-in_err-trace
returns-in_err-trace c =
    let p = err_from_is_err_and c.from_residual.result c.from_residual.ensures.1 in
    rw (p.1, p.2) (trace-refused _ _ _ _ _ _ c.in_err-trace.ensures)

pub check_read_trace-requires : goal.check_read_trace-requires
check_read_trace-requires c =
    let o = octets c.args.answer.now (λ j. (c.type_inv.answer j).fits) in
    let t = trace_told _ _ _ _ _ _ c.in_ok-trace.ensures o (search rules) in
    ((t.ready, t.some_record, c.requires.0.0, t.header, t.inside), c.requires.1)

pub returns : goal.returns
returns c =
    let o = octets c.args.answer.now (λ j. (c.type_inv.answer j).fits) in
    c.check_read_trace.ensures _ (trace_told _ _ _ _ _ _ c.in_ok-trace.ensures o (search rules))
