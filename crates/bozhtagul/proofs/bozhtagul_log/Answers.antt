use mathlib.Core.Path.{ap, ◌∙◌}
use Rattle.bozhtagul.specs.Results.{written}
use Rattle.bozhtagul.proofs.bozhtagul_log.Goals as goal

pub returns : goal.returns
returns c = c.from.ensures ∙ ap written c.count_records.ensures
