use Rattle.std.proofs.lemmas.Result.{err_from_is_err_and}
use Rattle.checker.proofs.Calls.{checks_refused, one-refused, one-accepted, checks_all}
use Rattle.checker.proofs.check_asked.Goals as goal

pub returns-in_err-question : goal.returns-in_err-question
returns-in_err-question c =
    let p = err_from_is_err_and c.from_residual.result c.from_residual.ensures.1 in
    rw (p.1, p.2) (checks_refused _ _ _ _ _ _ _ _ _ c.in_err-question.ensures)

pub returns-in_err-run_one-in-One : goal.returns-in_err-run_one-in-One
returns-in_err-run_one-in-One c =
    let p = err_from_is_err_and c.from_residual-in_err-run_one-in-One.result c.from_residual-in_err-run_one-in-One.ensures.1 in
    rw (p.1, p.2) (one-refused _ _ _ _ _ _ _ _ c.in_ok-question.ensures _ c.in-One.is _ _ c.in_err-run_one-in-One.ensures)

pub returns-in_ok-run_one-in-One : goal.returns-in_ok-run_one-in-One
returns-in_ok-run_one-in-One c = one-accepted _ _ _ _ _ _ _ _ c.in_ok-question.ensures _ c.in-One.is _ _ c.in_ok-run_one-in-One.ensures

pub returns-in-All : goal.returns-in-All
returns-in-All c = checks_all _ _ _ _ _ _ _ _ c.in_ok-question.ensures _ c.in-All.is _ _ _ c.check_all.ensures
