use Rattle.std.proofs.lemmas.Result.{err_from_is_err_and}
use Rattle.checker.proofs.Running.{rows_refused, rows_passed}
use Rattle.checker.proofs.check_read_trace.Goals as goal

pub returns-in_err-check_trace_rows : goal.returns-in_err-check_trace_rows
returns-in_err-check_trace_rows c =
    let p = err_from_is_err_and c.from_residual.result c.from_residual.ensures.1 in
    rw (p.1, p.2) (rows_refused _ _ _ _ _ _ _ _ c.in_err-check_trace_rows.ensures)

pub returns : goal.returns
returns c = rows_passed _ _ _ _ _ _ _ _ c.in_ok-check_trace_rows.ensures _ c.leaf_time.ensures c.requires.0.3
