-- The calls, by what is asked. Assumes nothing.
use mathlib.Core.Path.{◌≡◌, refl, sym, ap, ◌∙◌, subst}
use Prim.Native.Nat.{ℕ, ◌+◌, ◌-◌}
use native.Mathlib.Omega.{arith}
use lib.ListN.{length, take, drop}
use Rattle.std.specs.Prelude.{Ok, Err}
use Rattle.std.specs.Prelude as std
use Rattle.outcome.specs.declared.Refusal.{Refusal}
use Rattle.outcome.specs.Outcomes.{number_of, told}
use Rattle.proof_reader.specs.Walks.{RefusedBy}
use Rattle.fields.specs.Fields.{part}
use Rattle.model.specs.Numbers.{Bytes}
use Rattle.model.specs.Result.{Result, ok, refuse, ◌>>=◌}
use Rattle.model.specs.Accumulator.{Leaf}
use Rattle.model.specs.Question as question
use Rattle.model.specs.Question.{question, one, all, version_only, SearchEnd, list_string}
use Rattle.model.specs.CheckRows.{CheckedProof, Accepted, end_here, check_end, run_under, run, room, run_into}
use Rattle.model.specs.Calls.{output_after, verdict_of, check_call, records_part, records_call}
use Rattle.model.proofs.Outcomes.{ok_inj, bind_ok, bind_eq, bind_refused}
use Rattle.model.proofs.CheckCall.{lists-nothing}
use Rattle.question.specs.declared.Question.{Question}
use Rattle.question.specs.declared.SpanQuestion.{SpanQuestion}
use Rattle.question.specs.declared.Query.{Query}
use Rattle.question.specs.declared.Query.TheVariants.{One, All}
use Rattle.question.specs.Directions.{question_of, span_of, AskedIs}
use Rattle.question.proofs.Directions.{query-asked, asking-refused}
use Rattle.checker.specs.declared.Verdict as declared
use Rattle.checker.specs.declared.Bounds.{Bounds}
use Rattle.checker.specs.declared.Run.{Run}
use Rattle.checker.specs.Runs.{checking_of, bounds, bounds_of, run_of, RunIs, bounds_told, BoundsAre, fitted, Checks}
use Rattle.checker.proofs.Listing.{turned, idle, run-verdict}

-- ---- a run without records

none_after : {A : Type 0} (m : Result A) (f : A → Result Accepted) → ((a : A) → bounds_of (f a) ≡ bounds 0 0) → bounds_of (m >>= f) ≡ bounds 0 0
unfolding bounds_of ◌>>=◌
none_after (ok a) f h = h a
none_after (refuse n p) f h = refl

here-none : (v : question.Verdict) (p : CheckedProof) → bounds_of (end_here v p) ≡ bounds 0 0
unfolding end_here bounds_of
here-none v p = none_after _ _ (λ _. refl)

end_none : (size : ℕ) (p : CheckedProof) (e : SearchEnd Leaf) → bounds_of (check_end version_only size p e) ≡ bounds 0 0
unfolding check_end
end_none size p (SearchEnd.not_found s) = here-none _ p
end_none size p (SearchEnd.found l) = here-none _ p
end_none size p (SearchEnd.listed ls) = here-none _ p

-- where the records of a run stand
run-records : (m : Result Accepted) (r : std.Result Run Refusal) → told r ≡ run_of m → (b : std.Result Bounds Refusal) → told b ≡ (told r >>= λ run. ok run.records) → bounds_told b ≡ bounds_of m
unfolding run_of bounds_of ◌>>=◌
run-records m r e b q = told-bounds b ∙ ap there (q ∙ ap (λ (x : Result Run). x >>= λ run. ok run.records) e) ∙ go m
  where
    there : Result Bounds → Bounds
    there (ok x) = x
    there (refuse n p) = bounds 0 0

    told-bounds : (b : std.Result Bounds Refusal) → bounds_told b ≡ there (told b)
    told-bounds (Ok x) = refl
    told-bounds (Err e) = refl

    go : (m : Result Accepted) → there (run_of m >>= λ run. ok run.records) ≡ bounds_of m
    go (ok a) = refl
    go (refuse n p) = refl

-- ---- by what is asked

module _ (direction s t t2 : ℕ) (commitment answer : Bytes) (size : ℕ) where
  abbrev this_run : Result Accepted
  this_run = run direction s t t2 commitment answer size

  run_refused : (e : Refusal) → AskedIs direction s t t2 (Err e) → RefusedBy this_run e
  unfolding run
  run_refused e h = bind_refused _ _ (number_of e.row) e.position (asking-refused direction s t t2 (Err e) h e refl)

  module _ (out : Bytes) where
    pub checks_refused : (e : Refusal) → AskedIs direction s t t2 (Err e) → Checks (verdict_of this_run) out out (Err e)
    unfolding verdict_of ◌>>=◌
    checks_refused e h = turned _ out e (ap verdict_of (run_refused e h))

  pub bounds_refused : (e : Refusal) → AskedIs direction s t t2 (Err e) → BoundsAre answer this_run (Err e)
  unfolding bounds_of
  bounds_refused e h = record { are = sym (ap bounds_of (run_refused e h)); within = omega arith }

  module _ (query : Query) (h : AskedIs direction s t t2 (Ok query)) where
    module _ (q : Question) (is : query ≡ One q) where
      asks_one : question direction s t t2 ≡ ok (one (question_of q))
      asks_one = query-asked direction s t t2 (Ok query) h (One q) (ap Ok is)

      one-run : this_run ≡ run_under 0x52 (one (question_of q)) commitment answer size
      unfolding run
      one-run = bind_eq _ _ _ asks_one

      module _ (r : std.Result Run Refusal) (i : RunIs answer (run_under 0x52 (one (question_of q)) commitment answer size) r) where
        run_is : told r ≡ run_of this_run
        run_is = i.is ∙ ap run_of (sym one-run)

        checks_one : (out : Bytes) (c : std.Result declared.Verdict Refusal) → told c ≡ (told r >>= λ x. ok x.verdict) → Checks (verdict_of this_run) out out c
        unfolding verdict_of
        checks_one out c k =
            idle _ out c
            (λ u k.
            let b = bind_ok this_run _ k in
            ap list_string (sym (ok_inj b.2)) ∙ lists-nothing direction s t t2 (question_of q) asks_one commitment answer size b.0 b.1)
            (k ∙ run-verdict this_run r run_is)

      module _ (out : Bytes) where
        pub one-refused : (e : Refusal) → RunIs answer (run_under 0x52 (one (question_of q)) commitment answer size) (Err e) → Checks (verdict_of this_run) out out (Err e)
        unfolding ◌>>=◌
        one-refused e i = checks_one (Err e) i out (Err e) refl

        pub one-accepted : (x : Run) → RunIs answer (run_under 0x52 (one (question_of q)) commitment answer size) (Ok x) → Checks (verdict_of this_run) out out (Ok x.verdict)
        unfolding ◌>>=◌
        one-accepted x i = checks_one (Ok x) i out (Ok x.verdict) refl

      pub one_without : (e : Refusal) → RunIs answer (run_under 0x52 (one (question_of q)) commitment answer size) (Err e) → BoundsAre answer this_run (Err e)
      unfolding ◌>>=◌
      one_without e i = record { are = run-records this_run (Err e) (run_is (Err e) i) (Err e) refl; within = omega arith }

      pub one-records : (x : Run) → RunIs answer (run_under 0x52 (one (question_of q)) commitment answer size) (Ok x) → BoundsAre answer this_run (Ok x.records)
      unfolding ◌>>=◌
      one-records x i = record { are = run-records this_run (Ok x) (run_is (Ok x) i) (Ok x.records) refl; within = i.inside }

    module _ (p : SpanQuestion) (is : query ≡ All p) where
      all-run : this_run ≡ run_under 0x52 (all (span_of p)) commitment answer size
      unfolding run
      all-run = bind_eq _ _ _ (query-asked direction s t t2 (Ok query) h (All p) (ap Ok is))

      pub checks_all : (out out' : Bytes) (r : std.Result declared.Verdict Refusal)
          → ((size : ℕ) → Checks (verdict_of (run_under 0x52 (all (span_of p)) commitment answer size)) out out' r) → Checks (verdict_of this_run) out out' r
      checks_all out out' r f = subst (λ (m : Result Accepted). Checks (verdict_of m) out out' r) (sym all-run) (f size)

      pub all_without : BoundsAre answer this_run (Ok (bounds 0 0))
      unfolding run_under
      all_without =
          record {
            are = sym (ap bounds_of all-run ∙ none_after _ _ (λ _. none_after _ _ (λ r. end_none size r r.end)));
            within = omega arith;
          }

-- ---- the calls

after-room : (x : Result (Unit {0})) (a : Accepted) → verdict_of (x >>= λ _. ok a) ≡ (x >>= λ _. ok a.verdict)
unfolding verdict_of ◌>>=◌
after-room (ok u) a = refl
after-room (refuse n p) a = refl

-- row 13 looks at the verdict alone
fitted-run : (out : ℕ) (m : Result Accepted) → verdict_of (m >>= λ a. room a.verdict out >>= λ _. ok a) ≡ fitted out (verdict_of m)
unfolding verdict_of fitted ◌>>=◌
fitted-run out (ok a) = after-room (room a.verdict out) a
fitted-run out (refuse n p) = refl

by_verdict : (m : Result Accepted) → (m >>= λ a. ok (list_string a.verdict)) ≡ (verdict_of m >>= λ v. ok (list_string v))
unfolding verdict_of ◌>>=◌
by_verdict (ok a) = refl
by_verdict (refuse n p) = refl

module _ (direction s t t2 : ℕ) (commitment answer out work out' : Bytes) (r : std.Result declared.Verdict Refusal) (C : Checks (verdict_of (run direction s t t2 commitment answer (length work))) out out' r) where
  into : verdict_of (run_into direction s t t2 commitment answer (length work) (length out)) ≡ fitted (length out) (verdict_of (run direction s t t2 commitment answer (length work)))
  unfolding run_into
  into = fitted-run (length out) (run direction s t t2 commitment answer (length work))

  pub call_result : told r ≡ checking_of (check_call direction s t t2 commitment answer out work).result
  unfolding check_call
  call_result = C.result_is ∙ ap checking_of (sym into)

  pub call_output : out' ≡ (check_call direction s t t2 commitment answer out work).output
  unfolding check_call
  call_output =
      C.output_is
      ∙ ap (output_after out)
      (ap (λ (v : Result question.Verdict). v >>= λ v. ok (list_string v)) (sym into) ∙ sym (by_verdict (run_into direction s t t2 commitment answer (length work) (length out))))

the_part : (answer : Bytes) (m : Result Accepted) → part answer (bounds_of m).start (bounds_of m).length ≡ records_part answer m
unfolding bounds_of records_part part
the_part answer (ok a) = refl
the_part answer (refuse n p) = refl

pub parted : (direction s t t2 : ℕ) (commitment answer work : Bytes) (b : Bounds) (x : Bytes) → b ≡ bounds_of (run direction s t t2 commitment answer (length work))
    → x ≡ take (b.start + b.length - b.start) (drop b.start answer) → x ≡ (records_call direction s t t2 commitment answer work).result
unfolding records_call part
parted direction s t t2 commitment answer work b x e q =
    q ∙ ap (λ (n : ℕ). take n (drop b.start answer)) (let k : b.start + b.length - b.start ≡ b.length = omega arith in k)
    ∙ ap (λ (c : Bounds). part answer c.start c.length) e
    ∙ the_part answer (run direction s t t2 commitment answer (length work))
