-- What a call that writes gives: a row, row 13 among them, or all its bytes. Assumes nothing.
use mathlib.Core.Path.{◌≡◌, sym, ap, ◌∙◌}
use Prim.Native.Nat.{ℕ, ◌≤◌, ◌<◌}
use borrow.Author.Tests.{lt-leb}
use lib.Dec.{le→leb}
use lib.ListN.{length}
use Rattle.fields.specs.Fields.{part, written}
use Rattle.fields.proofs.Places.{part-all}
use Rattle.model.specs.Numbers.{Bytes}
use Rattle.model.specs.Result.{Result, ok, refuse, ◌>>=◌, need}
use Rattle.model.specs.Calls.{output_after, fitting}
use Rattle.model.proofs.Outcomes.{pass}
use Rattle.std.specs.Prelude.{Ok, Err}
use Rattle.outcome.specs.declared.Row.TheVariants.{OutputShort}
use Rattle.outcome.specs.declared.Refusal.{Refusal}
use Rattle.outcome.specs.Outcomes.{number_of, given, Gives}

module _ (m : Result Bytes) (out : Bytes) where
  pub turned : (e : Refusal) → m ≡ refuse (number_of e.row) e.position → Gives m out out (Err e)
  unfolding given output_after
  turned e h = record { result = sym (ap given h); output = sym (ap (output_after out) h) }

  module _ (y : Bytes) (e : m ≡ fitting out y) where
    pub short : length out < length y → (r : Refusal) → r ≡ record { row = OutputShort; position = 0 } → Gives m out out (Err r)
    unfolding fitting need ◌>>=◌
    short h r is =
        turned r
        (e ∙ simp (lt-leb (length y) (length out) h) (sym (ap {B = Result Bytes} (λ (x : Refusal). refuse (number_of x.row) x.position) is)))

    pub whole : length y ≤ length out → (n : ℕ) → n ≡ length y → (out' : Bytes) → out' ≡ written out 0 y → Gives m out out' (Ok n)
    unfolding fitting given output_after
    whole h n k out' w =
        let b : m ≡ ok y = e ∙ pass _ _ _ _ (le→leb (length y) (length out) h) in
        record { result = ap ok k ∙ sym (ap given b); output = w ∙ sym (ap (output_after out) b) }

    -- copied from the front of a buffer
    pub copied : length y ≤ length out → (n : ℕ) → n ≡ length y → (b out' : Bytes) → part b 0 n ≡ y → out' ≡ written out 0 (part b 0 n) → Gives m out out' (Ok n)
    copied h n k b out' q w = whole h n k out' (w ∙ ap (written out 0) q)

-- a digest that is copied is copied whole
pub digest-whole : (d y : Bytes) → d ≡ y → length y ≡ 32 → part d 0 32 ≡ y
digest-whole d y e n = ap (λ (x : Bytes). part x 0 32) e ∙ part-all y 32 n
