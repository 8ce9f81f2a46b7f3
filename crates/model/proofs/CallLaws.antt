-- The lent memory after a call: its lengths stay, a refusal leaves the output as it was, an accepted call writes only its first bytes.
-- Assumes nothing.
use mathlib.Core.Path.{◌≡◌, refl, sym, ap, ◌∙◌, subst}
use Prim.Native.Nat.{ℕ, ◌+◌, ◌≤◌}
use native.Mathlib.Omega.{arith}
use mathlib.Core.List.{◌++◌}
use lib.ListN.{length, drop, replicate, length-replicate}
use lib.Dec.{leb→le}
use Rattle.fields.specs.Fields.{written}
use Rattle.fields.proofs.Places.{length-written}
use Rattle.model.specs.Result.{ok, refuse}
use Rattle.model.specs.Numbers.{Bytes}
use Rattle.model.specs.Calls.{cleared, output_after, fitting}
use Rattle.model.proofs.Outcomes.{ok_inj, past}

pub cleared-length : (work : Bytes) → length (cleared work) ≡ length work
unfolding cleared
cleared-length work = length-replicate (length work) 0

-- a work area of the same length, zeroed, is the work area cleared
pub area_cleared : (work w1 w2 : Bytes) → length w1 ≡ length work → w2 ≡ replicate (length w1) 0 → w2 ≡ cleared work
unfolding cleared
area_cleared work w1 w2 e z = z ∙ ap (λ (n : ℕ). replicate n 0) e

-- what row 13 lets pass fits
pub fitting-fits : (out z y : Bytes) → fitting out z ≡ ok y → (y ≡ z) × (length y ≤ length out)
unfolding fitting
fitting-fits out z y e =
    let a = past _ _ _ _ e in
    let k = ok_inj a.1 in
    (sym k, subst (λ (l : Bytes). length l ≤ length out) k (leb→le (length z) (length out) a.0))

pub output-refused : (out : Bytes) (n p : ℕ) → output_after out (refuse n p) ≡ out
unfolding output_after
output-refused out n p = refl

-- "they write only the first bytes of the output"
pub output-written : (out y : Bytes) → output_after out (ok y) ≡ y ++ drop (0 + length y) out
unfolding output_after written
output-written out y = refl

pub output-length : (out y : Bytes) → length y ≤ length out → length (output_after out (ok y)) ≡ length out
unfolding output_after
output-length out y h = length-written out 0 y (omega arith)
