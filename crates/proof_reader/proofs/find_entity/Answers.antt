use Rattle.std.proofs.lemmas.Result.{err_from_is_err_and}
use Rattle.proof_reader.proofs.Walking.{root-refused, root-taken}
use Rattle.proof_reader.proofs.find_entity.Goals as goal

pub returns-in_err-take_string : goal.returns-in_err-take_string
returns-in_err-take_string c =
    let p = err_from_is_err_and c.from_residual.result c.from_residual.ensures.1 in
    rw (p.1, p.2) (root-refused _ _ _ _ c.requires.0.0 _ _ c.in_err-take_string.ensures)

pub returns : goal.returns
returns c =
    root-taken _ _ _ _ c.requires.0.0 _ _ c.in_ok-take_string.ensures _ _ c.new-root.ensures c.walk_entities.ensures
