-- Demand 3, second half, of the check call itself: its result on lent bytes; and what the call leaves in the output. Assumes nothing.
use mathlib.Core.Path.{◌≡◌, refl, sym, ap, ◌∙◌, subst}
use Prim.Native.Nat.{ℕ, zero, suc, ◌+◌, ◌*◌, ◌≤◌}
use mathlib.Core.List.{List, []}
use lib.ListN.{length, drop}
use lib.Dec.{eqb}
use Rattle.fields.specs.Fields.{written}
use Rattle.model.specs.Result.{Result, ok, refuse, ◌>>=◌}
use Rattle.model.specs.Numbers.{Bytes}
use Rattle.model.specs.Log.{Record}
use Rattle.model.specs.Graph.{graph}
use Rattle.model.specs.Accumulator.{letter_R, R_width, branch_width, Subtree, Layout, Leaf, versions_layout, entities_layout}
use Rattle.model.specs.Question.{Part, version_only, trace_of, VersionQuestion, Question, one, question, SearchEnd, Descent, by_entity, by_time, VersionName, Verdict, count, list_string}
use Rattle.model.specs.Answer.{log_commitment, log_answer}
use Rattle.model.specs.CheckRows.{take_string, CheckedProof, stopped, opening, subtree_in, check_tree, check_versions, check_sought, check_entities, check_proof, enough, Accepted, end_here, with_trace, check_end, run_under, run, room, run_into}
use Rattle.model.specs.Calls.{output_after, check_call}
use Rattle.model.specs.Exact.{true_verdict, SoundLog}
use Rattle.model.proofs.Outcomes.{refuse≢ok, ok_inj, bind_ok, bind_eq, past, by_test}
use Rattle.model.proofs.Asking.{known_by}
use Rattle.model.proofs.Preorder.{names-length}
use Rattle.model.proofs.Soundness.{run_of_into}
use Rattle.model.proofs.Completeness.{completeness}

module _ (log : Bytes) (rs : List Record) (l : SoundLog log rs) (direction s t t2 : ℕ) (q : Question) (known : question direction s t t2 ≡ ok q) (out work : Bytes) where
  pub check_complete : (check_call direction s t t2 (log_commitment rs) (log_answer rs q) out work).result
      ≡ (enough (count (true_verdict (graph rs) q)) (length work) >>= λ _. room (true_verdict (graph rs) q) (length out) >>= λ _. ok (true_verdict (graph rs) q))
  unfolding check_call
  check_complete = completeness log rs l direction s t t2 q known (length work) (length out)

-- ---- the output

module _ (direction s t t2 : ℕ) (c x out work : Bytes) where
  -- an accepted call writes its list over the output's first bytes
  pub output-listed : (a : Accepted) → run_into direction s t t2 c x (length work) (length out) ≡ ok a → (check_call direction s t t2 c x out work).output ≡ written out 0 (list_string a.verdict)
  unfolding check_call output_after ◌>>=◌
  output-listed a e = ap (λ (r : Result Accepted). output_after out (r >>= λ a. ok (list_string a.verdict))) e

  -- a call that is turned away leaves it as it was
  pub output-kept : (n p : ℕ) → run_into direction s t t2 c x (length work) (length out) ≡ refuse n p → (check_call direction s t t2 c x out work).output ≡ out
  unfolding check_call output_after ◌>>=◌
  output-kept n p e = ap (λ (r : Result Accepted). output_after out (r >>= λ a. ok (list_string a.verdict))) e

-- 12 bytes a version
pub list_length : (vs : List VersionName) → length (list_string (Verdict.listed vs)) ≡ 12 * length vs
unfolding list_string
list_length vs = names-length vs

-- ---- a question for one version lists nothing, so its output stays as it was

abbrev NoList : SearchEnd Leaf → Type 0
NoList (SearchEnd.not_found s) = Unit {0}
NoList (SearchEnd.found l) = Unit {0}
NoList (SearchEnd.listed ls) = ⊥

string_no_list : (letter w pos : ℕ) (due x : Bytes) (r : CheckedProof) (g : Bytes → Result CheckedProof) → (take_string letter w due pos x >>= λ s. g s >>= λ r. ok (opening s r)) ≡ ok r
    → ((s : Bytes) (r' : CheckedProof) → g s ≡ ok r' → NoList r'.end) → NoList r.end
string_no_list letter w pos due x r g q ih =
    let o = bind_ok _ _ q in
    let k = bind_ok _ _ o.2 in
    subst (λ (z : CheckedProof). NoList z.end) (ok_inj k.2) (ih o.0 k.0 k.1)

stop_no_list : {A : Type 0} (l : Layout A) (d : Descent) (k : Subtree) (pos : ℕ) (x : Bytes) (r : CheckedProof)
    → ◌≡◌ {A = Result CheckedProof} (ok (stopped (SearchEnd.not_found (d.stop_at k)) pos x)) (ok r) → NoList r.end
stop_no_list l d k pos x r o = subst (λ (z : CheckedProof). NoList z.end) (ok_inj o) tt

tree_no_list : {A : Type 0} (l : Layout A) (d : Descent) (inside : Bytes → ℕ → ℕ → Bytes → Result CheckedProof)
    → ((s : Bytes) (f pos : ℕ) (x : Bytes) (r : CheckedProof) → inside s f pos x ≡ ok r → NoList r.end)
    → (f : ℕ) (k : Subtree) (pos : ℕ) (x : Bytes) (r : CheckedProof) → check_tree l d inside f k pos x ≡ ok r → NoList r.end
unfolding check_tree
tree_no_list l d inside ih zero k pos x r q =
    by_test (d.stops k) (λ (m : Result CheckedProof). m ≡ ok r → NoList r.end) (λ _ o. stop_no_list l d k pos x r o) (λ _ o. refuse≢ok o) q
tree_no_list l d inside ih (suc f) k pos x r q =
    by_test (d.stops k) (λ (m : Result CheckedProof). m ≡ ok r → NoList r.end) (λ _ o. stop_no_list l d k pos x r o)
    (λ _. by_test (eqb k.least k.greatest) (λ (m : Result CheckedProof). m ≡ ok r → NoList r.end)
    (λ _ o. string_no_list l.leaf_letter l.leaf_width pos k.digest x r _ o (λ s r' q'. ih s f (pos + l.leaf_width) (drop l.leaf_width x) r' q'))
    (λ _ o. string_no_list l.inner_letter branch_width pos k.digest x r _ o (λ s r' q'. tree_no_list l d inside ih f _ (pos + branch_width) (drop branch_width x) r' q')))
    q

proof_no_list : (letter : ℕ) (q : VersionQuestion) (due x : Bytes) (pos : ℕ) (r : CheckedProof) → check_proof letter (one q) due pos x ≡ ok r → NoList r.end
unfolding check_proof check_entities check_sought check_versions
proof_no_list letter q due x pos r e =
    string_no_list letter R_width pos due x r _ e
    (λ s r' o. tree_no_list entities_layout (by_entity q.entity) _
    (λ s f pos x r o. tree_no_list versions_layout (by_time q.relation q.time) _ (λ s f pos x r o. subst (λ (z : CheckedProof). NoList z.end) (ok_inj o) tt) f (subtree_in s 9) pos x r o)
    (length x) _ (pos + R_width) (drop R_width x) r' o)

here_no_list : (v : Verdict) (r : CheckedProof) (a : Accepted) → list_string v ≡ [] → end_here v r ≡ ok a → list_string a.verdict ≡ []
unfolding end_here
here_no_list v r a h q = ap (λ (z : Accepted). list_string z.verdict) (sym (ok_inj (past _ _ _ _ q).1)) ∙ h

end_no_list : (p : Part) (work : ℕ) (r : CheckedProof) (a : Accepted) (e : SearchEnd Leaf) → NoList e → check_end p work r e ≡ ok a → list_string a.verdict ≡ []
unfolding check_end with_trace list_string
end_no_list p work r a (SearchEnd.not_found s) n q = here_no_list (Verdict.not_found s) r a refl q
end_no_list p work r a (SearchEnd.listed ls) n q = absurd n
end_no_list version_only work r a (SearchEnd.found l) n q = here_no_list (Verdict.found l.time 0) r a refl q
end_no_list (trace_of way) work r a (SearchEnd.found l) n q =
    let b = bind_ok _ _ q in
    let c = bind_ok _ _ b.2 in
    ap (λ (z : Accepted). list_string z.verdict) (sym (ok_inj c.2))

written-nothing : (out : Bytes) → written out 0 [] ≡ out
unfolding written
written-nothing out = refl

module _ (direction s t t2 : ℕ) (q : VersionQuestion) (asks : question direction s t t2 ≡ ok (one q)) (c x : Bytes) where
  pub lists-nothing : (work : ℕ) (a : Accepted) → run direction s t t2 c x work ≡ ok a → list_string a.verdict ≡ []
  unfolding run run_under
  lists-nothing work a e =
      let b = past _ _ _ _ (sym (bind_eq _ (λ q. run_under letter_R q c x work) (one q) asks) ∙ e) in
      let d = bind_ok _ _ b.1 in
      end_no_list q.part work d.0 a d.0.end (proof_no_list letter_R q c x 0 d.0 d.1) d.2

  pub one_untouched : (out work : Bytes) → (check_call direction s t t2 c x out work).output ≡ out
  one_untouched out work = go (run_into direction s t t2 c x (length work) (length out)) refl
    where
      go : (r : Result Accepted) → run_into direction s t t2 c x (length work) (length out) ≡ r → (check_call direction s t t2 c x out work).output ≡ out
      go (refuse n p) e = output-kept direction s t t2 c x out work n p e
      go (ok a) e =
          output-listed direction s t t2 c x out work a e
          ∙ ap (written out 0) (lists-nothing (length work) a (run_of_into direction s t t2 c x (length work) (length out) a e))
          ∙ written-nothing out

-- outside direction 6
pub output_untouched : (direction s t t2 : ℕ) (c x out work : Bytes) → direction ≤ 5 → (check_call direction s t t2 c x out work).output ≡ out
output_untouched direction s t t2 c x out work h = let k = known_by direction s t t2 h in one_untouched direction s t t2 k.q k.is c x out work
