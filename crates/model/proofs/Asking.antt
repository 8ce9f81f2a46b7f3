-- Rows 11 and 25, and the directions that they let pass. Assumes nothing.
use mathlib.Core.Path.{◌≡◌, refl}
use Prim.Native.Nat.{ℕ, zero, suc, ◌<◌, ◌≤◌}
use native.Mathlib.Omega.{arith}
use lib.Dec.{leb, leb→le, le→leb, not_T}
use Rattle.model.specs.Result.{ok, refuse}
use Rattle.model.specs.Question.{VersionQuestion, spanned, one, all, question}
use Rattle.model.proofs.Outcomes.{pass, need_no, bind_refused}

pub record Known (direction s t t2 : ℕ) : Type 0 where
  pub q : VersionQuestion
  pub is : question direction s t t2 ≡ ok (one q)

-- a direction up to 5 asks for one version
pub known_by : (direction s t t2 : ℕ) → direction ≤ 5 → Known direction s t t2
unfolding question
known_by zero s t t2 h = record { q = _; is = refl }
known_by (suc zero) s t t2 h = record { q = _; is = refl }
known_by (suc (suc zero)) s t t2 h = record { q = _; is = refl }
known_by (suc (suc (suc zero))) s t t2 h = record { q = _; is = refl }
known_by (suc (suc (suc (suc zero)))) s t t2 h = record { q = _; is = refl }
known_by (suc (suc (suc (suc (suc zero))))) s t t2 h = record { q = _; is = refl }
known_by (suc (suc (suc (suc (suc (suc d)))))) s t t2 h = absurd (let z : ⊥ = omega arith in z)

-- direction 6 with t1 at most t2, and above it
pub known_span : (s t t2 : ℕ) → t ≤ t2 → question 6 s t t2 ≡ ok (all (spanned s t t2))
unfolding question
known_span s t t2 h = pass _ 25 0 _ (le→leb t t2 h)

-- "a question with t1 above t2 is not known"
pub reversed : (s t t2 : ℕ) → t2 < t → question 6 s t t2 ≡ refuse 25 0
unfolding question
reversed s t t2 h = bind_refused _ _ 25 0 (need_no _ 25 0 (not_T (leb t t2) (λ b. let k = leb→le t t2 b in omega arith)))

pub unknown : (direction s t t2 : ℕ) → 6 < direction → question direction s t t2 ≡ refuse 11 0
unfolding question
unknown zero s t t2 h = absurd (let z : ⊥ = omega arith in z)
unknown (suc zero) s t t2 h = absurd (let z : ⊥ = omega arith in z)
unknown (suc (suc zero)) s t t2 h = absurd (let z : ⊥ = omega arith in z)
unknown (suc (suc (suc zero))) s t t2 h = absurd (let z : ⊥ = omega arith in z)
unknown (suc (suc (suc (suc zero)))) s t t2 h = absurd (let z : ⊥ = omega arith in z)
unknown (suc (suc (suc (suc (suc zero))))) s t t2 h = absurd (let z : ⊥ = omega arith in z)
unknown (suc (suc (suc (suc (suc (suc zero)))))) s t t2 h = absurd (let z : ⊥ = omega arith in z)
unknown (suc (suc (suc (suc (suc (suc (suc d))))))) s t t2 h = refl

-- elsewhere the second time is without effect
pub second_time_idle : (direction s t t2 t3 : ℕ) → direction ≤ 5 → question direction s t t2 ≡ question direction s t t3
unfolding question
second_time_idle zero s t t2 t3 h = refl
second_time_idle (suc zero) s t t2 t3 h = refl
second_time_idle (suc (suc zero)) s t t2 t3 h = refl
second_time_idle (suc (suc (suc zero))) s t t2 t3 h = refl
second_time_idle (suc (suc (suc (suc zero)))) s t t2 t3 h = refl
second_time_idle (suc (suc (suc (suc (suc zero))))) s t t2 t3 h = refl
second_time_idle (suc (suc (suc (suc (suc (suc d)))))) s t t2 t3 h = absurd (let z : ⊥ = omega arith in z)
