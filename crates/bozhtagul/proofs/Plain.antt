-- What a call answers, as plain numbers; and the hash. Assumes nothing.
use mathlib.Core.Path.{◌≡◌, refl, ap, sym, ◌∙◌}
use Prim.Native.Nat.{ℕ, ◌≤◌, ◌<◌}
use native.Mathlib.Omega.{arith}
use lib.ListN.{length}
use Rattle.std.specs.Prelude as std
use Rattle.std.specs.Prelude.{Ok, Err}
use Rattle.fields.specs.Fields.{part, written as written_at}
use Rattle.sha256.specs.Sha256.{sha256}
use Rattle.sha256.proofs.Size.{length-sha256}
use Rattle.model.specs.Result.{Result, ok, refuse, ◌>>=◌}
use Rattle.model.specs.Numbers.{Bytes, H}
use Rattle.model.specs.Calls.{fitting}
use Rattle.outcome.specs.declared.Row.TheVariants.{OutputShort}
use Rattle.outcome.specs.declared.Refusal.{Refusal}
use Rattle.outcome.specs.Outcomes.{told, given, Gives}
use Rattle.outcome.proofs.Giving.{short, copied, digest-whole}
use Rattle.bozhtagul.specs.declared.Outcome.{Outcome}
use Rattle.bozhtagul.specs.declared.Written.{Written}
use Rattle.bozhtagul.specs.Results.{outcome, written, outcome_of, written_of}

-- ---- with the length, and without it

by_bytes : (m : Result Bytes) → (written (given m) ≡ written_of m) × (outcome_of (given m) ≡ outcome_of m)
unfolding given outcome written outcome_of written_of ◌>>=◌
by_bytes (ok y) = (refl, refl)
by_bytes (refuse n p) = (refl, refl)

module _ (m : Result Bytes) (r : std.Result ℕ Refusal) (e : told r ≡ given m) where
  pub numbers_agree : (w : Written) → w ≡ written (told r) → w ≡ written_of m
  numbers_agree w f = f ∙ ap written e ∙ (by_bytes m).0

  pub alone_agree : (o : Outcome) → o ≡ outcome_of (told r) → o ≡ outcome_of m
  alone_agree o f = f ∙ ap outcome_of e ∙ (by_bytes m).1

-- ---- the hash

module _ (message out : Bytes) where
  hash_length : length (H message) ≡ 32
  unfolding H
  hash_length = length-sha256 message

  pub hash_short : length out < 32 → (e : Refusal) → e ≡ record { row = OutputShort; position = 0 } → Gives (fitting out (H message)) out out (Err e)
  hash_short h = short _ out (H message) refl (omega (arith, hash_length))

  pub hash_written : 32 ≤ length out → (d out' : Bytes) → d ≡ sha256 message → out' ≡ written_at out 0 (part d 0 32) → Gives (fitting out (H message)) out out' (Ok 32)
  unfolding H
  hash_written h d out' e w = copied _ out (H message) refl (omega (arith, hash_length)) 32 (sym hash_length) d out' (digest-whole d (H message) e hash_length) w
