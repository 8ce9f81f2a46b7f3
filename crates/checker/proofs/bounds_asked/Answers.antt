use Rattle.std.proofs.lemmas.Result.{err_from_is_err_and}
use Rattle.checker.proofs.Calls.{bounds_refused, one_without, one-records, all_without}
use Rattle.checker.proofs.bounds_asked.Goals as goal

pub returns-in_err-query : goal.returns-in_err-query
returns-in_err-query c =
    let p = err_from_is_err_and c.from_residual.result c.from_residual.ensures.1 in
    rw (p.1, p.2) (bounds_refused _ _ _ _ _ _ _ _ c.in_err-query.ensures)

pub returns-in_err-run_one-in-One : goal.returns-in_err-run_one-in-One
returns-in_err-run_one-in-One c =
    let p = err_from_is_err_and c.from_residual-in_err-run_one-in-One.result c.from_residual-in_err-run_one-in-One.ensures.1 in
    rw (p.1, p.2) (one_without _ _ _ _ _ _ _ _ c.in_ok-query.ensures _ c.in-One.is _ c.in_err-run_one-in-One.ensures)

pub returns-in_ok-run_one-in-One : goal.returns-in_ok-run_one-in-One
returns-in_ok-run_one-in-One c = one-records _ _ _ _ _ _ _ _ c.in_ok-query.ensures _ c.in-One.is _ c.in_ok-run_one-in-One.ensures

pub returns-in-All : goal.returns-in-All
returns-in-All c = all_without _ _ _ _ _ _ _ _ c.in_ok-query.ensures _ c.in-All.is
