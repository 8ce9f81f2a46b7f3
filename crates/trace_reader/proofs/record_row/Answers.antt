use Rattle.std.proofs.lemmas.Result.{err_from_is_err_and}
use Rattle.trace_reader.proofs.Passing.{no_byte, too_short, record_passes, values_refused, not_due}
use Rattle.trace_reader.proofs.record_row.Goals as goal

pub returns-then-left-eq0 : goal.returns-then-left-eq0
returns-then-left-eq0 c = search no_byte

pub returns-then-not-letter_due : goal.returns-then-not-letter_due
returns-then-not-letter_due c = search not_due

pub returns-then-left-width_of : goal.returns-then-left-width_of
returns-then-left-width_of c = search too_short

pub returns-in_err-values_row : goal.returns-in_err-values_row
returns-in_err-values_row c =
    let p = err_from_is_err_and c.from_residual.result c.from_residual.ensures.1 in
    let h = c.in_err-values_row.ensures in
    rw (p.1, p.2) (search values_refused)

pub returns : goal.returns
returns c = let h = c.in_ok-values_row.ensures in search record_passes
