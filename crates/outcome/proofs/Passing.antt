-- What a `?` hands on. Assumes nothing.
use mathlib.Core.Path.{◌≡◌, ap, ◌∙◌}
use Rattle.std.specs.Prelude as std
use Rattle.std.specs.Prelude.{Err, IsErrAnd}
use Rattle.std.proofs.lemmas.Result.{err_from_is_err_and}
use Rattle.outcome.specs.declared.Refusal.{Refusal}

-- the same refusal
pub again : {A : Type 0} (a : std.Result A Refusal) (e : Refusal) → IsErrAnd a (λ x. x ≡ e) → a ≡ Err e
again a e h = let p = err_from_is_err_and a h in p.1 ∙ ap Err p.2
