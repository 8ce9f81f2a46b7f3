use Rattle.std.proofs.lemmas.Result.{err_from_is_err_and}
use Rattle.checker.proofs.Running.{commitment-refused, proof-refused, to-stop, to-leaf}
use Rattle.checker.proofs.run_one.Goals as goal

pub returns-then-commitment-ne-DIGEST_WIDTH : goal.returns-then-commitment-ne-DIGEST_WIDTH
returns-then-commitment-ne-DIGEST_WIDTH c = commitment-refused _ _ _ _ c.if-commitment-ne-DIGEST_WIDTH.true _ c.at.ensures

pub returns-in_err-stop : goal.returns-in_err-stop
returns-in_err-stop c =
    let p = err_from_is_err_and c.from_residual.result c.from_residual.ensures.1 in
    rw (p.1, p.2) (proof-refused _ _ _ _ c.if-commitment-ne-DIGEST_WIDTH.false _ c.in_err-stop.ensures)

pub returns-in-Stopped : goal.returns-in-Stopped
returns-in-Stopped c =
    to-stop _ _ _ _ c.if-commitment-ne-DIGEST_WIDTH.false _ c.in_ok-stop.ensures _ _ _ c.in-Stopped.is c.end_here.ensures

pub returns-in-Found : goal.returns-in-Found
returns-in-Found c =
    to-leaf _ _ _ _ c.if-commitment-ne-DIGEST_WIDTH.false _ c.in_ok-stop.ensures _ _ _ c.in-Found.is c.check_found.ensures
