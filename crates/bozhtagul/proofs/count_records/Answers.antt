use mathlib.Core.Path.{ap, ◌∙◌}
use Rattle.outcome.specs.Outcomes.{told}
use Rattle.outcome.proofs.Passing.{again}
use Rattle.bozhtagul.proofs.LogRead.{log-refused, log-counted}
use Rattle.bozhtagul.proofs.count_records.Goals as goal

pub returns-in_err-sound : goal.returns-in_err-sound
returns-in_err-sound c = ap told (again _ _ c.from_residual.ensures.1) ∙ log-refused _ _ c.read.ensures _ c.in_err-sound.was

pub returns : goal.returns
returns c = log-counted _ _ c.read.ensures _ c.in_ok-sound.was
