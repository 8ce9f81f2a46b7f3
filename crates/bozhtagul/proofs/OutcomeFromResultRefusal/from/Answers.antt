use mathlib.Core.Path.{sym, ap, ◌∙◌}
use Rattle.model.specs.Result.{◌>>=◌}
use Rattle.outcome.specs.Outcomes.{told}
use Rattle.bozhtagul.specs.Results.{outcome, outcome_of}
use Rattle.bozhtagul.proofs.OutcomeFromResultRefusal.from.Goals as goal

pub returns-in-Ok : goal.returns-in-Ok
unfolding outcome outcome_of ◌>>=◌
returns-in-Ok g c = c.row.ensures ∙ sym (ap (λ a. outcome_of (told a)) c.in-Ok.is)

pub returns-in-Err : goal.returns-in-Err
unfolding outcome outcome_of ◌>>=◌
returns-in-Err g c = c.row-in-Err.ensures ∙ rw c.from.ensures (sym (ap (λ a. outcome_of (told a)) c.in-Err.is))
