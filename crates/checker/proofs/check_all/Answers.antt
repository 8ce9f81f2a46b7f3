use Rattle.std.proofs.lemmas.Result.{err_from_is_err_and}
use Rattle.checker.proofs.Listing.{list_uncommitted, list_refused, missing-refused, missing_accepted, list_there}
use Rattle.checker.proofs.check_all.Goals as goal

pub returns-then-commitment-ne-DIGEST_WIDTH : goal.returns-then-commitment-ne-DIGEST_WIDTH
returns-then-commitment-ne-DIGEST_WIDTH c =
    λ size. list_uncommitted _ _ _ _ size c.if-commitment-ne-DIGEST_WIDTH.true _ c.at.ensures

pub returns-in_err-at : goal.returns-in_err-at
returns-in_err-at c =
    let p = err_from_is_err_and c.from_residual.result c.from_residual.ensures.1 in
    rw (p.1, p.2) (λ size. list_refused _ _ _ _ size c.if-commitment-ne-DIGEST_WIDTH.false _ c.in_err-at.ensures)

pub returns-in_err-end_here-in-NoEntity : goal.returns-in_err-end_here-in-NoEntity
returns-in_err-end_here-in-NoEntity c =
    let p = err_from_is_err_and c.from_residual-in_err-end_here-in-NoEntity.result c.from_residual-in_err-end_here-in-NoEntity.ensures.1 in
    rw (p.1, p.2)
    (λ size. missing-refused _ _ _ _ size c.if-commitment-ne-DIGEST_WIDTH.false _ c.in_ok-at.ensures _ c.in-NoEntity.is _ c.in_err-end_here-in-NoEntity.ensures)

pub returns-in_ok-end_here-in-NoEntity : goal.returns-in_ok-end_here-in-NoEntity
returns-in_ok-end_here-in-NoEntity c =
    λ size. missing_accepted _ _ _ _ size c.if-commitment-ne-DIGEST_WIDTH.false _ c.in_ok-at.ensures _ c.in-NoEntity.is _ c.in_ok-end_here-in-NoEntity.ensures

pub returns-in-Listed : goal.returns-in-Listed
returns-in-Listed c =
    λ size. list_there _ _ _ _ size c.if-commitment-ne-DIGEST_WIDTH.false _ c.in_ok-at.ensures _ _ _ c.in-Listed.is _ _ c.give_list.ensures
