-- The hypotheses of demand 3's two clauses have instances, and each clause says something there: at Log K. Assumes nothing.
use mathlib.Core.Path.{◌≡◌, refl, sym, ap, ◌∙◌}
use mathlib.Core.List.{[], ◌∷◌}
use Prim.Native.Nat.{ℕ, ◌*◌, ◌≤◌}
use native.Mathlib.Omega.{arith}
use lib.ListN.{length}
use Rattle.fields.specs.Fields.{encode, written}
use Rattle.model.specs.Result.{ok}
use Rattle.model.specs.Numbers.{Bytes}
use Rattle.model.specs.Graph.{graph}
use Rattle.model.specs.Question.{at_or_before, at_or_after, backward, version_only, trace_of, Question, one, all, asked, spanned, question_part, question, not_yet, none_so_late, Verdict, count, name_string, list_string}
use Rattle.model.specs.Answer.{log_header, log_commitment, log_answer, log_hashed}
use Rattle.model.specs.CheckRows.{Accepted, run_into, hashed_in_check}
use Rattle.model.specs.Exact.{nearest_from, sought, outermost, verdict_unmet, verdict_at, version_verdict, places_between, list_at, list_verdict, TrueVerdict, true_verdict, Faithful}
use Rattle.model.proofs.Outcomes.{ok_inj}
use Rattle.model.proofs.LogGraph.{well_formed}
use Rattle.model.proofs.Asking.{known_span}
use Rattle.model.proofs.Verdicts.{true_verdict-only}
use Rattle.model.proofs.Anchors.{NoCollision, no_escape}
use Rattle.model.proofs.LogK.{computed, log-bytes, K, K-sound}
use Rattle.bozhtagul.specs.declared.Checked.{Checked}
use Rattle.bozhtagul.specs.Results.{checked}
use Rattle.bozhtagul.specs.Demand3.{Asked, Exact, Sound, Accepts, list_width, Complete}

-- every known question, asked of K's commitment
pub asked_of_K : (direction s t t2 : ℕ) (q : Question) → question direction s t t2 ≡ ok q → Asked direction s t t2 (log_commitment K)
asked_of_K direction s t t2 q known = record { log = log-bytes K; records = K; sound = K-sound; q = q; known = known; of_log = refl }

-- ---- what each half says of a known question of K, by its true verdict

pub record Case (direction s t t2 : ℕ) : Type 0 where
  pub q : Question
  pub known : question direction s t t2 ≡ ok q
  pub verdict : Verdict
  pub is : true_verdict (graph K) q ≡ verdict

module _ {direction s t t2 : ℕ} (c : Case direction s t t2) where
  numbers : (v : Verdict) → v ≡ true_verdict (graph K) c.q → checked (ok v) ≡ checked (ok c.verdict)
  numbers v e = ap (λ (v : Verdict). checked (ok v)) (e ∙ c.is)

  list_is : (out : Bytes) (v : Verdict) → v ≡ true_verdict (graph K) c.q → written out 0 (list_string v) ≡ written out 0 (list_string c.verdict)
  list_is out v e = ap (λ (v : Verdict). written out 0 (list_string v)) (e ∙ c.is)

  -- what the paths say of a verdict is enough to know it
  by_paths_alone : (v : Verdict) → TrueVerdict (graph K) c.q v → v ≡ true_verdict (graph K) c.q
  by_paths_alone = true_verdict-only (graph K) (well_formed (log-bytes K) K K-sound) c.q

  -- the second half, of the defined answer with enough work area and output: the numbers, of which the function tells as much as the paths, and
  -- the list in the output
  module _ (work out out' : Bytes) (r : Checked) (roomy : 128 * count c.verdict ≤ length work) (wide : list_width c.verdict ≤ length out)
      (complete : Complete direction s t t2 (log_commitment K) (log_answer K c.q) work out out' r)
    where
      accepts_of_K : Accepts (graph K) c.q out out' r
      unfolding asked_of_K
      accepts_of_K = complete (asked_of_K direction s t t2 c.q c.known) refl (omega (arith, roomy, ap count c.is)) (omega (arith, wide, ap list_width c.is))

      complete_of_K : r ≡ checked (ok c.verdict)
      complete_of_K = accepts_of_K.returned ∙ numbers _ accepts_of_K.by_function

      complete_of_K_by_paths : r ≡ checked (ok c.verdict)
      complete_of_K_by_paths = accepts_of_K.returned ∙ numbers _ (by_paths_alone _ accepts_of_K.by_paths)

      complete_list_of_K : out' ≡ written out 0 (list_string c.verdict)
      complete_list_of_K = accepts_of_K.listed ∙ list_is out _ accepts_of_K.by_function

  -- the first half, of any bytes where the call returns number 0: the run is the one that the definition computes, ...
  module _ (x work out out' : Bytes) (r : Checked) (sound : Sound direction s t t2 (log_commitment K) x work out out' r) (zero : r.number ≡ 0) where
    pub exact_of_K : Exact direction s t t2 (log_commitment K) x (length work) out out' (asked_of_K direction s t t2 c.q c.known) r
    exact_of_K = sound (asked_of_K direction s t t2 c.q c.known) zero

    pub run_of_K : (a : Accepted) → run_into direction s t t2 (log_commitment K) x (length work) (length out) ≡ ok a → exact_of_K.run_of ≡ a
    run_of_K a e = ok_inj (sym exact_of_K.ran ∙ e)

    -- ... and without a collision the same numbers and the same list are left
    module _ (none : NoCollision (log_hashed K) (hashed_in_check (question_part c.q) exact_of_K.run_of)) where
      faithful_of_K : Faithful (log_header K) (graph K) c.q x exact_of_K.run_of
      unfolding asked_of_K log_hashed
      faithful_of_K = no_escape none exact_of_K.demand_3

      sound_of_K : r ≡ checked (ok c.verdict)
      sound_of_K = exact_of_K.returned ∙ numbers _ faithful_of_K.the_verdict

      sound_of_K_by_paths : r ≡ checked (ok c.verdict)
      sound_of_K_by_paths = exact_of_K.returned ∙ numbers _ (by_paths_alone _ faithful_of_K.by_paths)

      sound_list_of_K : out' ≡ written out 0 (list_string c.verdict)
      sound_list_of_K = exact_of_K.listed ∙ list_is out _ faithful_of_K.the_verdict

-- ---- 2, 35, backward: found, 30, three records. The second time is without effect, and the output stays as it was.

abbrev pub first-question : Question
first-question = one (asked at_or_before (trace_of backward) 2 35)

pub first-known : (t2 : ℕ) → question 1 2 35 t2 ≡ ok first-question
unfolding question
first-known t2 = refl

pub first-verdict : true_verdict (graph K) first-question ≡ Verdict.found 30 3
unfolding computed nearest_from sought verdict_at version_verdict true_verdict
first-verdict = refl

abbrev pub first_case : (t2 : ℕ) → Case 1 2 35 t2
first_case t2 = record { q = first-question; known = first-known t2; verdict = Verdict.found 30 3; is = first-verdict }

-- the numbers
abbrev pub found_30 : Checked
found_30 = record { number = 0; position = 0; verdict = 3; time = 30; count = 3 }

module _ (t2 : ℕ) (work out out' : Bytes) (r : Checked) (roomy : 384 ≤ length work) (complete : Complete 1 2 35 t2 (log_commitment K) (log_answer K first-question) work out out' r) where
  pub complete_at_K : r ≡ found_30
  unfolding checked
  complete_at_K = complete_of_K (first_case t2) work out out' r roomy (omega arith) complete

  pub complete_at_K_by_paths : r ≡ found_30
  unfolding checked
  complete_at_K_by_paths = complete_of_K_by_paths (first_case t2) work out out' r roomy (omega arith) complete

  pub untouched_at_K : out' ≡ out
  unfolding list_string written
  untouched_at_K = complete_list_of_K (first_case t2) work out out' r roomy (omega arith) complete

-- no other result meets it
pub other_incomplete : (t2 : ℕ) (work out out' : Bytes) → 384 ≤ length work
    → Complete 1 2 35 t2 (log_commitment K) (log_answer K first-question) work out out' (record { number = 18; position = 0; verdict = 0; time = 0; count = 0 }) → ⊥
other_incomplete t2 work out out' roomy complete = let e = ap (λ (c : Checked). c.number) (complete_at_K t2 work out out' _ roomy complete) in omega arith

module _ (t2 : ℕ) (x work out out' : Bytes) (r : Checked) (sound : Sound 1 2 35 t2 (log_commitment K) x work out out' r) (zero : r.number ≡ 0)
    (none : NoCollision (log_hashed K) (hashed_in_check (trace_of backward) (exact_of_K (first_case t2) x work out out' r sound zero).run_of))
  where
    pub sound_at_K : r ≡ found_30
    unfolding checked
    sound_at_K = sound_of_K (first_case t2) x work out out' r sound zero none

    pub sound_at_K_by_paths : r ≡ found_30
    unfolding checked
    sound_at_K_by_paths = sound_of_K_by_paths (first_case t2) x work out out' r sound zero none

    pub sound_untouched_at_K : out' ≡ out
    unfolding list_string written
    sound_untouched_at_K = sound_list_of_K (first_case t2) x work out out' r sound zero none

-- ---- by the other relation, and where no version is found

-- "for the version with the least time at or after t"
pub ahead_at_K : (t2 : ℕ) (work out out' : Bytes) (r : Checked) → 384 ≤ length work
    → Complete 4 2 21 t2 (log_commitment K) (log_answer K (one (asked at_or_after (trace_of backward) 2 21))) work out out' r → r ≡ found_30
unfolding question computed nearest_from sought verdict_at version_verdict true_verdict checked
ahead_at_K t2 work out out' r roomy =
    complete_of_K {direction = 4} {s = 2} {t = 21} {t2 = t2} (record { q = one (asked at_or_after (trace_of backward) 2 21); known = refl; verdict = Verdict.found 30 3; is = refl }) work out out' r roomy (omega arith)

-- "Not yet now also gives the entity's first time"
pub not_yet_at_K : (t2 : ℕ) (work out out' : Bytes) (r : Checked) → Complete 0 2 19 t2 (log_commitment K) (log_answer K (one (asked at_or_before version_only 2 19))) work out out' r
    → r ≡ record { number = 0; position = 0; verdict = 2; time = 20; count = 0 }
unfolding question computed nearest_from sought outermost verdict_unmet verdict_at version_verdict true_verdict checked
not_yet_at_K t2 work out out' r =
    complete_of_K {direction = 0} {s = 2} {t = 19} {t2 = t2} (record { q = one (asked at_or_before version_only 2 19); known = refl; verdict = Verdict.not_found (not_yet 20); is = refl }) work out out' r (omega arith) (omega arith)

-- "and none so late its last"
pub none_so_late_at_K : (t2 : ℕ) (work out out' : Bytes) (r : Checked) → Complete 3 2 31 t2 (log_commitment K) (log_answer K (one (asked at_or_after version_only 2 31))) work out out' r
    → r ≡ record { number = 0; position = 0; verdict = 4; time = 30; count = 0 }
unfolding question computed nearest_from sought outermost verdict_unmet verdict_at version_verdict true_verdict checked
none_so_late_at_K t2 work out out' r =
    complete_of_K {direction = 3} {s = 2} {t = 31} {t2 = t2} (record { q = one (asked at_or_after version_only 2 31); known = refl; verdict = Verdict.not_found (none_so_late 30); is = refl }) work out out' r (omega arith) (omega arith)

-- ---- 1 from 10 to 40: "the check writes the exact list of versions ... and gives their number", with 24 bytes of output and no work area

abbrev pub span_question : Question
span_question = all (spanned 1 10 40)

abbrev pub versions_of_1 : Verdict
versions_of_1 = Verdict.listed (record { entity = 1; time = 10 } ∷ record { entity = 1; time = 40 } ∷ [])

pub span_verdict : true_verdict (graph K) span_question ≡ versions_of_1
unfolding computed nearest_from places_between list_at list_verdict true_verdict
span_verdict = refl

abbrev pub span_case : Case 6 1 10 40
span_case = record { q = span_question; known = known_span 1 10 40 (omega arith); verdict = versions_of_1; is = span_verdict }

-- the numbers, and the bytes of the list
abbrev pub listed_2 : Checked
listed_2 = record { number = 0; position = 0; verdict = 5; time = 0; count = 2 }

abbrev pub list_of_1 : Bytes
list_of_1 = 0 ∷ 0 ∷ 0 ∷ 1 ∷ 0 ∷ 0 ∷ 0 ∷ 0 ∷ 0 ∷ 0 ∷ 0 ∷ 10 ∷ 0 ∷ 0 ∷ 0 ∷ 1 ∷ 0 ∷ 0 ∷ 0 ∷ 0 ∷ 0 ∷ 0 ∷ 0 ∷ 40 ∷ []

module _ (work out out' : Bytes) (r : Checked) (wide : 24 ≤ length out) (complete : Complete 6 1 10 40 (log_commitment K) (log_answer K span_question) work out out' r) where
  pub list_at_K : r ≡ listed_2
  unfolding checked
  list_at_K = complete_of_K span_case work out out' r (omega arith) wide complete

  pub list_bytes_at_K : out' ≡ written out 0 list_of_1
  unfolding list_string name_string encode
  list_bytes_at_K = complete_list_of_K span_case work out out' r (omega arith) wide complete

-- whatever bytes are handed in: without a collision that list is left, and no other
module _ (x work out out' : Bytes) (r : Checked) (sound : Sound 6 1 10 40 (log_commitment K) x work out out' r) (zero : r.number ≡ 0)
    (none : NoCollision (log_hashed K) (hashed_in_check version_only (exact_of_K span_case x work out out' r sound zero).run_of))
  where
    pub sound_list_at_K : r ≡ listed_2
    unfolding checked
    sound_list_at_K = sound_of_K span_case x work out out' r sound zero none

    pub sound_list_bytes_at_K : out' ≡ written out 0 list_of_1
    unfolding list_string name_string encode
    sound_list_bytes_at_K = sound_list_of_K span_case x work out out' r sound zero none
