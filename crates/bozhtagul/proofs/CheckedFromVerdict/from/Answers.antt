use mathlib.Core.Path.{sym, ap, ◌∙◌}
use Rattle.checker.specs.declared.Verdict.TheVariants.{NotFound}
use Rattle.bozhtagul.specs.Results.{numbered}
use Rattle.bozhtagul.proofs.CheckedFromVerdict.from.Goals as goal

pub returns-in-NoEntity : goal.returns-in-NoEntity
unfolding numbered
returns-in-NoEntity c = c.row_or_verdict.ensures ∙ sym (ap numbered c.in-NotFound.is ∙ ap (λ s. numbered (NotFound s)) c.in-NoEntity.is)

pub returns-in-NotYet : goal.returns-in-NotYet
unfolding numbered
returns-in-NotYet c = c.row_or_verdict-in-NotYet.ensures ∙ sym (ap numbered c.in-NotFound.is ∙ ap (λ s. numbered (NotFound s)) c.in-NotYet.is)

pub returns-in-NoneSoLate : goal.returns-in-NoneSoLate
unfolding numbered
returns-in-NoneSoLate c = c.row_or_verdict-in-NoneSoLate.ensures ∙ sym (ap numbered c.in-NotFound.is ∙ ap (λ s. numbered (NotFound s)) c.in-NoneSoLate.is)

pub returns-in-Found : goal.returns-in-Found
unfolding numbered
returns-in-Found c = c.row_or_verdict-in-Found.ensures ∙ sym (ap numbered c.in-Found.is)

pub returns-in-Listed : goal.returns-in-Listed
unfolding numbered
returns-in-Listed c = c.row_or_verdict-in-Listed.ensures ∙ sym (ap numbered c.in-Listed.is)
