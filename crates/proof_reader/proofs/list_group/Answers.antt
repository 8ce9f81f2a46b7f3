use Rattle.std.proofs.lemmas.Result.{err_from_is_err_and}
use Rattle.proof_reader.proofs.Listing.{span_refused, span_listed}
use Rattle.proof_reader.proofs.list_group.Goals as goal

pub returns-in_err-read : goal.returns-in_err-read
returns-in_err-read c =
    let p = err_from_is_err_and c.from_residual.result c.from_residual.ensures.1 in
    rw (p.1, p.2) (span_refused _ _ _ _ c.new-tree.ensures _ _ c.in_err-read.ensures)

pub returns : goal.returns
returns c = span_listed _ _ _ _ c.new-tree.ensures _ _ c.in_ok-read.ensures
