use Rattle.std.proofs.lemmas.Result.{err_from_is_err_and}
use Rattle.proof_reader.proofs.Walking.{one-refused, one_missing, one-sought}
use Rattle.proof_reader.proofs.check_proof.Goals as goal

pub returns-in_err-end : goal.returns-in_err-end
returns-in_err-end c =
    let p = err_from_is_err_and c.from_residual.result c.from_residual.ensures.1 in
    rw (p.1, p.2) (one-refused _ _ _ _ _ _ c.in_err-end.ensures)

pub returns-in-NoEntity : goal.returns-in-NoEntity
returns-in-NoEntity c = one_missing _ _ _ _ _ _ c.in_ok-end.ensures _ c.in-NoEntity.is

pub returns-in-Group : goal.returns-in-Group
returns-in-Group c = one-sought _ _ _ _ _ _ c.in_ok-end.ensures _ c.in-Group.is _ c.new-root.ensures _ c.walk_versions.ensures
