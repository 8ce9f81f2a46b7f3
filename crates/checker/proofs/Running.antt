-- Runs of the check for one version: a proof's end, and the trace behind it. Assumes nothing.
use mathlib.Core.Path.{◌≡◌, refl, sym, ap, ap₂, ◌∙◌, subst}
use mathlib.Core.List.{[]}
use Prim.Native.Nat.{ℕ, ◌+◌, ◌-◌, ◌≤◌, ◌<◌}
use native.Mathlib.Omega.{arith}
use borrow.Author.Tests.{eq-eqb, ne_eqb}
use lib.ListN.{length, take, drop, length-drop}
use Rattle.std.specs.Prelude.{None, Some, Ok, Err}
use Rattle.std.specs.Prelude as std
use Rattle.outcome.specs.declared.Row.TheVariants.{BytesAfterEnd, CommitmentNot32}
use Rattle.outcome.specs.declared.Refusal.{Refusal}
use Rattle.outcome.specs.Outcomes.{number_of, told}
use Rattle.fields.specs.Fields.{Octets}
use Rattle.fields.proofs.Places.{octets-drop}
use Rattle.model.specs.Numbers.{Bytes}
use Rattle.model.specs.Result.{Result, ok, refuse, ◌>>=◌, need}
use Rattle.model.specs.Accumulator.{Leaf}
use Rattle.model.specs.Question as question
use Rattle.model.specs.Question.{one, SearchEnd, Verdict}
use Rattle.model.specs.CheckRows.{leaf_in, CheckedProof, stopped, check_proof, read_trace, trace_rows, Accepted, end_here, with_trace, check_end, run_under}
use Rattle.model.proofs.Outcomes.{bind_eq, bind_refused}
use Rattle.model.proofs.TraceReading as reading
use Rattle.question.specs.declared.TimeKey.{TimeKey}
use Rattle.question.specs.declared.Way.{Way}
use Rattle.question.specs.declared.Question.{Question}
use Rattle.question.specs.Ways.{way_of}
use Rattle.question.specs.Directions.{part_of, question_of}
use Rattle.graph.specs.Table.{nodes_in}
use Rattle.graph.proofs.Nodes.{length-nodes}
use Rattle.proof_reader.specs.declared.Stop.{Stop}
use Rattle.proof_reader.specs.declared.Proof.{Proof}
use Rattle.proof_reader.specs.declared.Proof.TheVariants.{Stopped as ToStop, Found as ToLeaf}
use Rattle.proof_reader.specs.Walks.{RefusedBy, Gives, ProofIs}
use Rattle.model.proofs.CheckSteps.{without-opened}
use Rattle.proof_reader.proofs.Strings.{Made, refused-as}
use Rattle.proof_reader.proofs.Ends.{stopped-is, found-is, refused-is, run-without}
use Rattle.trace_reader.specs.declared.Trace.{Trace}
use Rattle.trace_reader.specs.Records.{TraceRead}
use Rattle.checker.specs.declared.Verdict as declared
use Rattle.checker.specs.declared.Verdict.TheVariants.{NotFound, Found}
use Rattle.checker.specs.declared.Run.{Run}
use Rattle.checker.specs.Runs.{declared_verdict, bounds, run_of, RunIs, EndsHere, leaf_in_answer, found_proof, trace_in, TraceInTable}

-- ---- runs

-- the strings opened are not told
run-bare : (m : Result Accepted) → run_of (without-opened m) ≡ run_of m
unfolding run_of ◌>>=◌
run-bare (ok a) = refl
run-bare (refuse n p) = refl

same-run : (m n : Result Accepted) → without-opened m ≡ without-opened n → run_of m ≡ run_of n
same-run m n e = sym (run-bare m) ∙ ap run_of e ∙ run-bare n

module _ (answer : Bytes) (m : Result Accepted) where
  run-refused : (e : Refusal) → RefusedBy m e → RunIs answer m (Err e)
  unfolding run_of
  run-refused e h = record { is = sym (ap run_of h); inside = tt }

  run_accepted : (v : Verdict) → m ≡ ok (record { verdict = v; opened = []; records = []; records_start = 0; records_length = 0 })
      → RunIs answer m (Ok (record { verdict = declared_verdict v; records = bounds 0 0 }))
  unfolding run_of
  run_accepted v e = record { is = sym (ap run_of e); inside = omega arith }

-- no trace: the answer ends where the proof does
module _ (answer : Bytes) (at : ℕ) (verdict : declared.Verdict) where
  pub bytes-behind : at < length answer → (r : Refusal) → Made BytesAfterEnd at r → EndsHere answer at verdict (Err r)
  unfolding end_here need ◌>>=◌
  bytes-behind h r made e v d =
      run-refused answer (end_here v (stopped e at (drop at answer))) r
      (refused-as _ BytesAfterEnd at (simp (ne_eqb (length (drop at answer)) 0 (λ z. omega (arith, length-drop at answer, z)))) r made)

  pub nothing-behind : length answer ≤ at → EndsHere answer at verdict (Ok (record { verdict = verdict; records = bounds 0 0 }))
  unfolding end_here need ◌>>=◌
  nothing-behind h e v d =
      subst (λ (x : declared.Verdict). RunIs answer (end_here v (stopped e at (drop at answer))) (Ok (record { verdict = x; records = bounds 0 0 }))) (sym d)
      (run_accepted answer (end_here v (stopped e at (drop at answer))) v (simp (eq-eqb (length (drop at answer)) 0 (omega (arith, length-drop at answer)))))

-- ---- the trace in the table

module _ (way : question.Way) (answer work : Bytes) (leaf at n end : ℕ) where
  abbrev the_rows : Result (Unit {0})
  the_rows = trace_rows way (leaf_in_answer answer leaf) (trace_in answer work at n end)

  abbrev Traced : std.Result Run Refusal → Type 0
  Traced r = (size : ℕ) → TraceInTable way size answer at work n end → RunIs answer (with_trace way size (found_proof answer leaf at) (leaf_in_answer answer leaf)) r

  pub rows_refused : (e : Refusal) → told {A = Unit {0}} (Err e) ≡ the_rows → Traced (Err e)
  unfolding with_trace found_proof
  rows_refused e h size t =
      run-refused answer (with_trace way size (found_proof answer leaf at) (leaf_in_answer answer leaf)) e
      (bind_eq (read_trace way size at (drop at answer)) _ (trace_in answer work at n end) t.is
      ∙ bind_refused the_rows _ (number_of e.row) e.position (sym h))

  pub rows_passed : (u : Unit {0}) → told (Ok u) ≡ the_rows → (time : TimeKey) → time.0 ≡ (leaf_in (take 77 (drop leaf answer))).time → at + 5 ≤ length answer
      → Traced (Ok (record { verdict = Found time n; records = bounds (at + 5) (length answer - (at + 5)) }))
  unfolding with_trace found_proof trace_in run_of declared_verdict leaf_in_answer ◌>>=◌
  rows_passed u passed time k h size t =
      let l = leaf_in_answer answer leaf in
      let d : length (drop at answer) ≡ length answer - at = length-drop at answer in
      let w : with_trace way size (found_proof answer leaf at) l
      ≡ ok (record {
        verdict = Verdict.found l.time (length (nodes_in work n));
        opened = [];
        records = nodes_in work n;
        records_start = at + 5;
        records_length = length (drop at answer) - 5;
      }) =
      bind_eq (read_trace way size at (drop at answer)) _ (trace_in answer work at n end) t.is
      ∙ bind_eq the_rows _ u (sym passed) in
      record {
        is =
            ap₂ (λ (v : declared.Verdict) (c : ℕ). ok (record { verdict = v; records = bounds (at + 5) c }))
            (ap₂ (λ (a b : ℕ). Found (record { 0 = a }) b) k (sym (length-nodes work n)))
            (let x : length answer - (at + 5) ≡ length (drop at answer) - 5 = omega arith in x)
            ∙ sym (ap run_of w);
        inside = omega arith;
      }

-- ---- the trace read

module _ (way : question.Way) (size : ℕ) (answer : Bytes) (at : ℕ) where
  pub trace_told : (work : Bytes) (trace : Trace) → TraceRead way size answer at work trace → Octets answer → size ≤ length work
      → TraceInTable way size answer at work trace.count trace.end
  unfolding trace_in
  trace_told work trace t o s =
      let r = t.records in
      let c = t.header in
      record {
        is = r.is;
        inside = r.inside;
        header = c.inside;
        some_record = c.some_record;
        ready =
            record {
              room = omega (arith, c.room);
              few = c.few;
              ordered = record { down = (reading.trace_read way size at (drop at answer) _ (octets-drop at o) r.is).good.below };
            };
      }

  pub trace-refused : (leaf : ℕ) (e : Refusal) → RefusedBy (read_trace way size at (drop at answer)) e
      → RunIs answer (with_trace way size (found_proof answer leaf at) (leaf_in_answer answer leaf)) (Err e)
  unfolding with_trace found_proof
  trace-refused leaf e h =
      run-refused answer (with_trace way size (found_proof answer leaf at) (leaf_in_answer answer leaf)) e
      (bind_refused (read_trace way size at (drop at answer)) _ (number_of e.row) e.position h)

-- ---- by the trace asked for

module _ (answer : Bytes) (leaf at size : ℕ) (trace : std.Option Way) (r : std.Result Run Refusal) where
  abbrev Here : std.Option Way → Type 0
  Here t = RunIs answer (check_end (part_of t) size (found_proof answer leaf at) (SearchEnd.found (leaf_in_answer answer leaf))) r

  pub found-only : (time : TimeKey) → trace ≡ None → time.0 ≡ (leaf_in (take 77 (drop leaf answer))).time → EndsHere answer at (Found time 0) r → Here trace
  unfolding check_end part_of found_proof declared_verdict leaf_in_answer
  found-only time e k f =
      subst Here (sym e)
      (f (SearchEnd.found (leaf_in_answer answer leaf)) (Verdict.found (leaf_in_answer answer leaf).time 0) (ap (λ (x : ℕ). Found (record { 0 = x }) 0) k))

  pub found-trace : (way : Way) → trace ≡ Some way → RunIs answer (with_trace (way_of way) size (found_proof answer leaf at) (leaf_in_answer answer leaf)) r → Here trace
  unfolding check_end part_of
  found-trace way e f = subst Here (sym e) f

-- ---- the whole run

-- under a commitment of 32 bytes
pub by_proof : (ask : question.Question) (commitment answer : Bytes) (size : ℕ) → length commitment ≡ 32
    → run_under 0x52 ask commitment answer size ≡ (check_proof 0x52 ask commitment 0 answer >>= λ (p : CheckedProof). check_end (question.question_part ask) size p p.end)
unfolding run_under need ◌>>=◌
by_proof ask commitment answer size wide = simp (eq-eqb (length commitment) 32 wide)

-- or row 14
pub no_commitment : (ask : question.Question) (commitment answer : Bytes) (size : ℕ) → (length commitment ≡ 32 → ⊥) → (r : Refusal) → Made CommitmentNot32 0 r
    → RefusedBy (run_under 0x52 ask commitment answer size) r
unfolding run_under need ◌>>=◌
no_commitment ask commitment answer size d r made = refused-as _ CommitmentNot32 0 (simp (ne_eqb (length commitment) 32 d)) r made

module _ (q : Question) (commitment answer : Bytes) (size : ℕ) where
  abbrev this_run : Result Accepted
  this_run = run_under 0x52 (one (question_of q)) commitment answer size

  pub commitment-refused : (length commitment ≡ 32 → ⊥) → (r : Refusal) → Made CommitmentNot32 0 r → RunIs answer this_run (Err r)
  commitment-refused d r made = run-refused answer this_run r (no_commitment (one (question_of q)) commitment answer size d r made)

-- its proof, as it was read
module _ (q : Question) (commitment answer : Bytes) where
  m : Result CheckedProof
  m = check_proof 0x52 (one (question_of q)) commitment 0 answer

  abbrev Read : std.Result Proof Refusal → Type 0
  Read p = ProofIs answer (check_proof 0x52 (one (question_of q)) commitment 0 (drop 0 answer)) p

  M : (p : std.Result Proof Refusal) → Read p → ProofIs answer m p
  unfolding m
  M p P = P

  module _ (size : ℕ) (wide : length commitment ≡ 32) where
    by_m : this_run q commitment answer size ≡ (m >>= λ (p : CheckedProof). check_end (part_of q.trace) size p p.end)
    unfolding m
    by_m = by_proof (one (question_of q)) commitment answer size wide

    pub proof-refused : (e : Refusal) → Read (Err e) → RunIs answer (this_run q commitment answer size) (Err e)
    proof-refused e P =
        run-refused answer (this_run q commitment answer size) e (by_m ∙ bind_refused m _ (number_of e.row) e.position (refused-is answer m e (M (Err e) P)))

    module _ (p : Proof) (P : Read (Ok p)) (r : std.Result Run Refusal) where
      -- what follows a proof depends on its end alone
      at_end : (e : SearchEnd Leaf) (at : ℕ) → Gives answer m e at → RunIs answer (check_end (part_of q.trace) size (stopped e at (drop at answer)) e) r
          → RunIs answer (this_run q commitment answer size) r
      at_end e at g i =
          record {
            is = i.is ∙ sym (same-run _ _ (run-without answer m e at g (part_of q.trace) size)) ∙ sym (ap run_of by_m);
            inside = i.inside;
          }

      pub to-stop : (s : Stop) (at : ℕ) → p ≡ ToStop s at → EndsHere answer at (NotFound s) r → RunIs answer (this_run q commitment answer size) r
      unfolding check_end declared_verdict
      to-stop s at e f =
          let g = stopped-is answer m p (M (Ok p) P) s at e in
          at_end (SearchEnd.not_found g.0) at g.2 (f (SearchEnd.not_found g.0) (Verdict.not_found g.0) (ap NotFound g.1))

      pub to-leaf : (leaf at : ℕ) → p ≡ ToLeaf leaf at
          → RunIs answer (check_end (part_of q.trace) size (found_proof answer leaf at) (SearchEnd.found (leaf_in_answer answer leaf))) r
          → RunIs answer (this_run q commitment answer size) r
      unfolding found_proof leaf_in_answer
      to-leaf leaf at e f = at_end (SearchEnd.found (leaf_in_answer answer leaf)) at (found-is answer m p (M (Ok p) P) leaf at e).1 f
