use Rattle.std.proofs.lemmas.Result.{err_from_is_err_and}
use Rattle.proof_reader.proofs.Strings.{leaf-opened, leaf-refused, inner_opened, inner_refused}
use Rattle.proof_reader.proofs.open.Goals as goal

pub returns-in_err-take_string : goal.returns-in_err-take_string
returns-in_err-take_string c =
    let p = err_from_is_err_and c.from_residual.result c.from_residual.ensures.1 in
    let t = c.in_err-take_string.ensures in
    rw (p.1, p.2) (search leaf-refused)

pub returns-then-least-greatest : goal.returns-then-least-greatest
returns-then-least-greatest c = let t = c.in_ok-take_string.ensures in search leaf-opened

pub returns-in_err-take_string-2 : goal.returns-in_err-take_string-2
returns-in_err-take_string-2 c =
    let p = err_from_is_err_and c.from_residual-in_err-take_string-2.result c.from_residual-in_err-take_string-2.ensures.1 in
    let t = c.in_err-take_string-2.ensures in
    rw (p.1, p.2) (search inner_refused)

pub returns : goal.returns
returns c = let t = c.in_ok-take_string-2.ensures in search inner_opened
