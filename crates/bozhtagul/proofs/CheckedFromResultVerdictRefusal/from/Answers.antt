use mathlib.Core.Path.{sym, ap, ◌∙◌}
use Rattle.outcome.specs.Outcomes.{told}
use Rattle.bozhtagul.specs.Results.{checked_by}
use Rattle.bozhtagul.proofs.CheckedFromResultVerdictRefusal.from.Goals as goal

pub returns-in-Ok : goal.returns-in-Ok
unfolding checked_by
returns-in-Ok c = c.from.ensures ∙ sym (ap (λ a. checked_by (told a)) c.in-Ok.is)

pub returns-in-Err : goal.returns-in-Err
unfolding checked_by
returns-in-Err c = c.row_or_verdict.ensures ∙ rw c.from-in-Err.ensures (sym (ap (λ a. checked_by (told a)) c.in-Err.is))
