-- The check for all versions between two times: its verdict, and the output after it. Assumes nothing.
use mathlib.Core.Path.{◌≡◌, refl, sym, ap, ◌∙◌, subst}
use mathlib.Core.List.{List, [], map}
use Prim.Native.Nat.{ℕ, ◌*◌, ◌≤◌, ◌<◌}
use native.Mathlib.Omega.{arith}
use borrow.Author.Tests.{eq-eqb, ne_eqb}
use lib.Dec.{leb, leb→le, le→leb, not_T}
use lib.ListN.{length, drop, length-drop, length-map}
use Rattle.std.specs.Prelude.{Ok, Err}
use Rattle.std.specs.Prelude as std
use Rattle.outcome.specs.declared.Row.TheVariants.{OutputShort, BytesAfterEnd, CommitmentNot32}
use Rattle.outcome.specs.declared.Refusal.{Refusal}
use Rattle.outcome.specs.Outcomes.{number_of, told}
use Rattle.proof_reader.proofs.Strings.{Made, refused-as}
use Rattle.fields.specs.Fields.{written}
use Rattle.model.specs.Numbers.{Bytes, joined}
use Rattle.model.specs.Result.{Result, ok, refuse, ◌>>=◌, need}
use Rattle.model.specs.Accumulator.{Leaf}
use Rattle.model.specs.Question.{version_only, SpanQuestion, all, no_entity, SearchEnd, Verdict, name_string, list_string}
use Rattle.model.specs.CheckRows as CheckRows
use Rattle.model.specs.CheckRows.{CheckedProof, stopped, leaf_name, check_proof, end_here, check_end, run_under, room}
use Rattle.model.specs.Calls.{output_after, verdict_of}
use Rattle.model.proofs.Outcomes.{ok_inj, bind_ok, bind_refused, pass, past, need_no}
use Rattle.model.proofs.Preorder.{names-length}
use Rattle.proof_reader.specs.declared.Stop.TheVariants.{NoEntity as NoneThere}
use Rattle.proof_reader.specs.declared.ListProof.{ListProof}
use Rattle.proof_reader.specs.declared.ListProof.TheVariants.{NoEntity, Listed as ToList}
use Rattle.proof_reader.specs.Walks.{RefusedBy, stop_of, Gives}
use Rattle.proof_reader.specs.Spans.{ListStrings, ListIs, Listed}
use Rattle.proof_reader.proofs.Listing.{can_list}
use Rattle.proof_reader.proofs.Ends.{without_is, lists-is, unlisted-is, end-verdict}
use Rattle.checker.specs.declared.Verdict as declared
use Rattle.checker.specs.declared.Verdict.TheVariants.{NotFound, Listed as Counted}
use Rattle.checker.specs.declared.Run.{Run}
use Rattle.checker.specs.Runs.{declared_verdict, checking_of, run_of, EndsHere, fitted, Checks, list_verdict}
use Rattle.checker.proofs.Running.{by_proof, no_commitment}

-- ---- what a verdict leaves in the output

module _ (v : Result Verdict) (out : Bytes) (r : std.Result declared.Verdict Refusal) where
  -- by the verdict that row 13 lets pass
  checks_by : (w : Result Verdict) → fitted (length out) v ≡ w → told r ≡ checking_of w → (out' : Bytes) → out' ≡ output_after out (w >>= λ v. ok (list_string v)) → Checks v out out' r
  checks_by w e q out' o =
      record { result_is = q ∙ ap checking_of (sym e); output_is = o ∙ ap (λ (x : Result Verdict). output_after out (x >>= λ v. ok (list_string v))) (sym e) }

  turned-as : (n p : ℕ) → v ≡ refuse n p → told r ≡ refuse n p → Checks v out out r
  unfolding fitted checking_of output_after ◌>>=◌
  turned-as n p e q = checks_by (refuse n p) (bind_refused v _ n p e) q out refl

pub turned : (v : Result Verdict) (out : Bytes) (e : Refusal) → RefusedBy v e → Checks v out out (Err e)
turned v out e h = turned-as v out (Err e) (number_of e.row) e.position h refl

-- a verdict that lists nothing needs no output
fits-nothing : (out : ℕ) (u : Verdict) → list_string u ≡ [] → fitted out (ok u) ≡ ok u
unfolding fitted room ◌>>=◌
fits-nothing out u h = ap (λ (y : Bytes). need (leb (length y) out) 13 0 >>= λ _. ok u) h ∙ pass _ 13 0 _ (le→leb 0 out (omega arith))

pub idle : (v : Result Verdict) (out : Bytes) (r : std.Result declared.Verdict Refusal) → ((u : Verdict) → v ≡ ok u → list_string u ≡ []) → told r ≡ checking_of v → Checks v out out r
unfolding checking_of output_after written ◌>>=◌
idle v out r none q = go v refl
  where
    go : (w : Result Verdict) → v ≡ w → Checks v out out r
    go (refuse n p) e = turned-as v out r n p e (q ∙ ap checking_of e)
    go (ok u) e =
        checks_by v out r (ok u) (ap (fitted (length out)) e ∙ fits-nothing (length out) u (none u e)) (q ∙ ap checking_of e) out
        (ap (written out 0) (sym (none u e)))

-- ---- the list behind a proof that opened these leaves

module _ (answer : Bytes) (end : ℕ) (ls : List Leaf) where
  more-behind : end < length answer → list_verdict answer end ls ≡ refuse 18 end
  unfolding list_verdict end_here verdict_of need ◌>>=◌
  more-behind h = simp (ne_eqb (length (drop end answer)) 0 (λ z. omega (arith, length-drop end answer, z)))

  none-behind : length answer ≤ end → list_verdict answer end ls ≡ ok (Verdict.listed (map leaf_name ls))
  unfolding list_verdict end_here verdict_of need ◌>>=◌
  none-behind h = simp (eq-eqb (length (drop end answer)) 0 (omega (arith, length-drop end answer)))

list_size : (ls : List Leaf) → length (list_string (Verdict.listed (map leaf_name ls))) ≡ 12 * length ls
unfolding list_string
list_size ls = names-length (map leaf_name ls) ∙ ap (λ (n : ℕ). 12 * n) (length-map ls leaf_name)

module _ (answer : Bytes) (start end count : ℕ) (out : Bytes) where
  abbrev Given : Bytes → std.Result declared.Verdict Refusal → Type 0
  Given out' r = (l : ListStrings answer start end count) → Checks (list_verdict answer end l.leaves) out out' r

  pub bytes-behind : end < length answer → (r : Refusal) → Made BytesAfterEnd end r → Given out (Err r)
  bytes-behind h r made l = turned _ out r (refused-as _ BytesAfterEnd end (more-behind answer end l.leaves h) r made)

  module _ (ends : length answer ≤ end) where
    pub too_short : length out < 12 * count → (r : Refusal) → Made OutputShort 0 r → Given out (Err r)
    unfolding fitted room checking_of output_after ◌>>=◌
    too_short h r made l =
        checks_by _ out (Err r) (refuse 13 0)
        (ap (fitted (length out)) (none-behind answer end l.leaves ends)
        ∙ bind_refused _ _ 13 0
        (need_no _ 13 0
        (not_T (leb (length (list_string (Verdict.listed (map leaf_name l.leaves)))) (length out))
        (λ b. let k = leb→le (length (list_string (Verdict.listed (map leaf_name l.leaves)))) (length out) b in omega (arith, list_size l.leaves, l.count_is)))))
        (ap (λ (x : Refusal). refuse (number_of x.row) x.position) made) out refl

    pub listed : 12 * count ≤ length out → (out' : Bytes)
        → ((k : Listed answer start end (length out)) → out' ≡ written out 0 (joined (map name_string k.names))) → Given out' (Ok (Counted count))
    unfolding fitted room checking_of declared_verdict output_after list_string can_list ◌>>=◌
    listed h out' w l =
        checks_by _ out _ (ok (Verdict.listed (map leaf_name l.leaves)))
        (ap (fitted (length out)) (none-behind answer end l.leaves ends)
        ∙ pass _ 13 0 _ (le→leb _ (length out) (omega (arith, list_size l.leaves, l.count_is))))
        (ap (λ (n : ℕ). ok (Counted n)) (sym (length-map l.leaves leaf_name ∙ l.count_is)))
        out' (w (can_list answer start end count (length out) l h))

-- ---- by the proof, as it was read

here-lists : (v : Verdict) (p : CheckedProof) (u : Verdict) → list_string v ≡ [] → verdict_of (end_here v p) ≡ ok u → list_string u ≡ []
unfolding verdict_of end_here
here-lists v p u h k =
    let b = bind_ok (end_here v p) _ k in
    let c = ok_inj (past _ _ _ _ b.1).1 in
    ap list_string (sym (ok_inj b.2)) ∙ ap (λ (z : CheckRows.Accepted). list_string z.verdict) (sym c) ∙ h

-- a run's verdict
pub run-verdict : (m : Result CheckRows.Accepted) (r : std.Result Run Refusal) → told r ≡ run_of m → (told r >>= λ run. ok run.verdict) ≡ checking_of (verdict_of m)
unfolding run_of checking_of verdict_of ◌>>=◌
run-verdict m r e = ap (λ (x : Result Run). x >>= λ run. ok run.verdict) e ∙ go m
  where
    go : (m : Result CheckRows.Accepted) → (run_of m >>= λ run. ok run.verdict) ≡ checking_of (verdict_of m)
    go (ok a) = refl
    go (refuse n p) = refl

module _ (p : SpanQuestion) (commitment answer : Bytes) where
  m : Result CheckedProof
  m = check_proof 0x52 (all p) commitment 0 answer

  abbrev Read : std.Result ListProof Refusal → Type 0
  Read r = ListIs answer (check_proof 0x52 (all p) commitment 0 (drop 0 answer)) r

  M : (r : std.Result ListProof Refusal) → Read r → ListIs answer m r
  unfolding m
  M r L = L

  module _ (out : Bytes) (size : ℕ) where
    abbrev this_verdict : Result Verdict
    this_verdict = verdict_of (run_under 0x52 (all p) commitment answer size)

    -- row 14
    pub list_uncommitted : (length commitment ≡ 32 → ⊥) → (r : Refusal) → Made CommitmentNot32 0 r → Checks this_verdict out out (Err r)
    unfolding verdict_of ◌>>=◌
    list_uncommitted d r made = turned this_verdict out r (ap verdict_of (no_commitment (all p) commitment answer size d r made))

    module _ (wide : length commitment ≡ 32) where
      by_end : (e : SearchEnd Leaf) (at : ℕ) → Gives answer m e at → this_verdict ≡ verdict_of (check_end version_only size (stopped e at (drop at answer)) e)
      unfolding m
      by_end e at g = ap verdict_of (by_proof (all p) commitment answer size wide) ∙ end-verdict answer m e at g version_only size

      pub list_refused : (e : Refusal) → Read (Err e) → Checks this_verdict out out (Err e)
      unfolding m verdict_of ◌>>=◌
      list_refused e L =
          turned this_verdict out e
          (ap verdict_of (by_proof (all p) commitment answer size wide ∙ bind_refused _ _ (number_of e.row) e.position (unlisted-is answer m e (M (Err e) L))))

      module _ (r : ListProof) (L : Read (Ok r)) where
        missing : (at : ℕ) → r ≡ NoEntity at → (run : std.Result Run Refusal) → EndsHere answer at (NotFound NoneThere) run
            → (c : std.Result declared.Verdict Refusal) → told c ≡ (told run >>= λ x. ok x.verdict) → Checks this_verdict out out c
        unfolding check_end declared_verdict stop_of list_string
        missing at e run f c k =
            let v = by_end (SearchEnd.not_found no_entity) at (without_is answer m r (M (Ok r) L) at e) in
            idle this_verdict out c (λ u k. here-lists (Verdict.not_found no_entity) _ u refl (sym v ∙ k))
            (k ∙ run-verdict _ run (f (SearchEnd.not_found no_entity) (Verdict.not_found no_entity) refl).is ∙ ap checking_of (sym v))

        pub missing-refused : (at : ℕ) → r ≡ NoEntity at → (e : Refusal) → EndsHere answer at (NotFound NoneThere) (Err e) → Checks this_verdict out out (Err e)
        unfolding ◌>>=◌
        missing-refused at k e f = missing at k (Err e) f (Err e) refl

        pub missing_accepted : (at : ℕ) → r ≡ NoEntity at → (run : Run) → EndsHere answer at (NotFound NoneThere) (Ok run) → Checks this_verdict out out (Ok run.verdict)
        unfolding ◌>>=◌
        missing_accepted at k run f = missing at k (Ok run) f (Ok run.verdict) refl

        pub list_there : (start end count : ℕ) → r ≡ ToList start end count → (out' : Bytes) (c : std.Result declared.Verdict Refusal)
            → ((l : ListStrings answer start end count) → Checks (list_verdict answer end l.leaves) out out' c) → Checks this_verdict out out' c
        unfolding check_end list_verdict
        list_there start end count e out' c f =
            let g = lists-is answer m r (M (Ok r) L) start end count e in
            subst (λ (v : Result Verdict). Checks v out out' c) (sym (by_end (SearchEnd.listed g.0.leaves) end g.1)) (f g.0)
