use mathlib.Core.Path.{sym, ap, ◌∙◌}
use Rattle.outcome.specs.Outcomes.{told}
use Rattle.bozhtagul.specs.Results.{written}
use Rattle.bozhtagul.proofs.WrittenFromResultUsizeRefusal.from.Goals as goal

pub returns-in-Ok : goal.returns-in-Ok
unfolding written
returns-in-Ok c = c.row_or_length.ensures ∙ sym (ap (λ a. written (told a)) c.in-Ok.is)

pub returns-in-Err : goal.returns-in-Err
unfolding written
returns-in-Err c = c.row_or_length-in-Err.ensures ∙ rw c.from.ensures (sym (ap (λ a. written (told a)) c.in-Err.is))
