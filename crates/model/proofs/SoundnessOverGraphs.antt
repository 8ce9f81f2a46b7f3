-- Demand 3, first half, over well-formed graphs: an accepted answer is the defined one with the true verdict and the true trace, or two
-- strings collide. Assumes nothing.
use mathlib.Core.Path.{◌≡◌, refl, sym, ap, ◌∙◌, subst}
use mathlib.Core.Logic.{◌⊎◌, inl, inr}
use Prim.Native.Nat.{ℕ, ◌+◌, ◌-◌}
use native.Mathlib.Omega.{arith}
use mathlib.Core.List.Memᴰ
use mathlib.Core.List.{List, [], ◌∷◌, ◌++◌, append-nil}
use lib.ListN.{length}
use lib.Dec.{eqb→eq}
use Rattle.fields.specs.Fields.{Octets}
use Rattle.model.specs.Result.{ok}
use Rattle.model.specs.Numbers.{Bytes, joined}
use Rattle.model.specs.Graph.{VersionNode, node_at}
use Rattle.model.specs.Digest.{incoming_strings, outgoing_strings}
use Rattle.model.specs.Accumulator.{Leaf, VersionLeaf, Header, entities, entity_tree, root, commitment, hashed_in_building}
use Rattle.model.specs.Question.{Relation, Way, backward, forward, Part, version_only, trace_of, VersionQuestion, asked, SpanQuestion, Question, one, all, question_part, Stop, SearchEnd, after, open_entities, VersionName, Verdict}
use Rattle.model.specs.Trace.{trace, trace_string}
use Rattle.model.specs.Answer.{proof, trace_part, answer}
use Rattle.model.specs.CheckRows.{CheckedProof, check_proof, CheckedTrace, Accepted, end_here, with_trace, check_end, run_under, path_strings, trace_strings, hashed_in_check}
use Rattle.model.specs.WellFormed.{WellFormed}
use Rattle.model.specs.Exact.{IsSought, TrueVerdict, is_found, reached, true_verdict, Shows, TraceShown, Collision, Escape, strings, Faithful, SoundnessOverGraphs}
use Rattle.model.proofs.Outcomes.{ok_inj, bind_ok, past}
use Rattle.model.proofs.Strings.{empty, octets-right}
use Rattle.model.proofs.Lists.{◌among◌}
use Rattle.model.proofs.Match.{collision_into}
use Rattle.model.proofs.TraceReading.{trace_read}
use Rattle.model.proofs.TraceExact.{Passed, rows_passed, trace_exact}
use Rattle.model.proofs.Walk.{entity-strings, Sound, Agrees, seen}
use Rattle.model.proofs.ProofPart.{proof-sound, proof_used}
use Rattle.model.proofs.Verdicts.{regular, sought_unique, reached_exact, true_verdict-holds, true_verdict-only}
use Rattle.model.proofs.Truth.{trace-count, verdict_by, IsVersion, groups_fit, found-is, walk-verdict}
use Rattle.model.proofs.Showing.{trace_shows, nothing_shows}

path_in_built : (h : Header) (G : List VersionNode) (way : Way) (y : Bytes) → y among path_strings way G → y among hashed_in_building h G
unfolding path_strings hashed_in_building
path_in_built h G backward y m = Memᴰ.append_right (root h G ∷ entity-strings (entity_tree G)) (Memᴰ.append_left (outgoing_strings G) m)
path_in_built h G forward y m = Memᴰ.append_right (root h G ∷ entity-strings (entity_tree G)) (Memᴰ.append_right (incoming_strings G) m)

-- an accepted check opened what its proof opened
here-opened : (v : Verdict) (r : CheckedProof) (a : Accepted) → end_here v r ≡ ok a → a.opened ≡ r.opened
unfolding end_here
here-opened v r a q = ap (λ (z : Accepted). z.opened) (sym (ok_inj (past _ _ _ _ q).1))

end-opened : (p : Part) (work : ℕ) (r : CheckedProof) (a : Accepted) (e : SearchEnd Leaf) → check_end p work r e ≡ ok a → a.opened ≡ r.opened
unfolding check_end with_trace
end-opened p work r a (SearchEnd.not_found s) q = here-opened (Verdict.not_found s) r a q
end-opened p work r a (SearchEnd.listed ls) q = here-opened _ r a q
end-opened version_only work r a (SearchEnd.found l) q = here-opened (Verdict.found l.time 0) r a q
end-opened (trace_of way) work r a (SearchEnd.found l) q =
    let b = bind_ok _ _ q in
    let c = bind_ok _ _ b.2 in
    ap (λ (z : Accepted). z.opened) (sym (ok_inj c.2))

-- a sought version makes every other verdict false
sought-found : (G : List VersionNode) → WellFormed G → (q : VersionQuestion) (v : ℕ) → IsSought G q v
    → true_verdict G (one q) ≡ Verdict.found (node_at G v).time (length (reached q.part G v))
sought-found G w q v a = sym (true_verdict-only G w (one q) _ (is_found v (reached q.part G v) a (reached_exact G (regular G w) q.part v a.there)))

-- the verdict that is the true one as a function is so by paths
faithful : (h : Header) (G : List VersionNode) (w : WellFormed G) (ask : Question) (x : Bytes) (a : Accepted) → x ≡ answer h G ask
    → a.verdict ≡ true_verdict G ask → TraceShown G ask a.records → Faithful h G ask x a
faithful h G w ask x a is v shown =
    record {
      the_answer = is;
      by_paths = subst (TrueVerdict G ask) (sym v) (true_verdict-holds G w ask);
      the_verdict = v;
      the_trace = shown;
    }

module _ (h : Header) (G : List VersionNode) (w : WellFormed G) (ask : Question) (x : Bytes) (ox : Octets x) (work : ℕ) (a : Accepted) where
  abbrev Done : Type 0
  Done = Faithful h G ask x a ⊎ Collision (hashed_in_building h G) (hashed_in_check (question_part ask) a)

  abbrev end : SearchEnd VersionLeaf
  end = (open_entities ask (entity_tree G)).end

  module _ (r : CheckedProof) (er : check_proof h.letter ask (commitment h G) 0 x ≡ ok r)
      (A : Agrees r (after (root h G) (open_entities ask (entity_tree G))))
    where
      the_split : x ≡ joined (proof h G ask).opened ++ r.rest
      unfolding proof
      the_split = (proof_used h.letter ask (commitment h G) 0 x r er).split ∙ ap (λ (l : List Bytes). joined l ++ r.rest) A.opens

      -- nothing after the proof
      plain : (e : SearchEnd VersionLeaf) → end ≡ e → trace_part G (question_part ask) e ≡ [] → (u : Verdict) → verdict_by G (question_part ask) e ≡ u
          → TraceShown G ask [] → end_here u r ≡ ok a → Done
      unfolding answer proof end_here
      plain e pe pt u pu shown q =
          let k = past _ _ _ _ q in
          let nil = empty r.rest (eqb→eq (length r.rest) 0 k.0) in
          let accepted = ok_inj k.1 in
          inl
          (faithful h G w ask x a
          (the_split ∙ ap (λ (l : Bytes). joined (proof h G ask).opened ++ l) (nil ∙ sym pt ∙ ap (trace_part G (question_part ask)) (sym pe)))
          (ap (λ (z : Accepted). z.verdict) (sym accepted) ∙ sym pu ∙ ap (verdict_by G (question_part ask)) (sym pe) ∙ walk-verdict G w ask)
          (subst (TraceShown G ask) (ap (λ (z : Accepted). z.records) accepted) shown))

  module _ (r : CheckedProof) (er : check_proof h.letter ask (commitment h G) 0 x ≡ ok r) where
    opened-checked : (e : SearchEnd Leaf) → check_end (question_part ask) work r e ≡ ok a → (y : Bytes) → y among r.opened → y among hashed_in_check (question_part ask) a
    unfolding hashed_in_check
    opened-checked e q y m = Memᴰ.append_left (trace_strings (question_part ask) a.records) (subst (λ (l : List Bytes). y among l) (sym (end-opened (question_part ask) work r a e q)) m)

  of-root : (r : CheckedProof) → check_proof h.letter ask (commitment h G) 0 x ≡ ok r
      → Sound (hashed_in_building h G) r (after (root h G) (open_entities ask (entity_tree G)))
  unfolding commitment root hashed_in_building
  of-root r e =
      proof-sound h (length (entities G)) (entity_tree G) (groups_fit G w) ask 0 x r
      (λ y m. Memᴰ.append_left (incoming_strings G ++ outgoing_strings G) m) e

-- a verdict without a version leaves nothing to show
none-sought : (G : List VersionNode) (w : WellFormed G) (q : VersionQuestion) (u : Verdict) → verdict_by G q.part (open_entities (one q) (entity_tree G)).end ≡ u → ((m n : ℕ) → u ≡ Verdict.found m n → ⊥)
    → TraceShown G (one q) []
none-sought G w q u pu other v b = absurd (other _ _ (sym pu ∙ walk-verdict G w (one q) ∙ sought-found G w q v b))

stop_is_not_found : (s : Stop) (m n : ℕ) → Verdict.not_found s ≡ Verdict.found m n → ⊥
stop_is_not_found s m n e = let z : ◌≡◌ {A = ℕ} 0 1 = cc in omega arith

list_is_not_found : (vs : List VersionName) (m n : ℕ) → Verdict.listed vs ≡ Verdict.found m n → ⊥
list_is_not_found vs m n e = let z : ◌≡◌ {A = ℕ} 0 1 = cc in omega arith

-- with a trace
traced : (h : Header) (G : List VersionNode) (w : WellFormed G) (way : Way) (rel : Relation) (s t : ℕ) (x : Bytes) → Octets x → (work : ℕ) (a : Accepted) (r : CheckedProof)
    → check_proof h.letter (one (asked rel (trace_of way) s t)) (commitment h G) 0 x ≡ ok r
    → (A : Agrees r (after (root h G) (open_entities (one (asked rel (trace_of way) s t)) (entity_tree G)))) (u : VersionLeaf)
    → (open_entities (one (asked rel (trace_of way) s t)) (entity_tree G)).end ≡ SearchEnd.found u → with_trace way work r u.leaf ≡ ok a
    → Faithful h G (one (asked rel (trace_of way) s t)) x a ⊎ Collision (hashed_in_building h G) (hashed_in_check (trace_of way) a)
unfolding answer proof trace_part with_trace hashed_in_check trace_strings IsVersion
traced h G w way rel s t x ox work a r er A u pe q =
    let b = bind_ok _ _ q in
    let tr = b.0 in
    let c = bind_ok _ _ b.2 in
    let accepted = ok_inj c.2 in
    let o : Octets r.rest = octets-right (joined (proof h G (one (asked rel (trace_of way) s t))).opened) (subst Octets split ox) in
    let R = trace_read way work r.pos r.rest tr o b.1 in
    let J = rows_passed way u.leaf tr c.1 in
    let f = found-is G w (asked rel (trace_of way) s t) u pe in
    finish tr accepted f.1 R.split J.nothing_left
    (trace_exact G (regular G w) u.place f.0.0 tr way R.good R.some_record (subst (λ (l : Leaf). Passed way l tr) f.0.1 J)
    (path_in_built h G way)
    (λ y m. Memᴰ.append_right a.opened (subst (λ (z : Accepted). y among path_strings way z.records) accepted m)))
  where
    split : x ≡ joined (proof h G (one (asked rel (trace_of way) s t))).opened ++ r.rest
    split = the_split h G w (one (asked rel (trace_of way) s t)) x ox work a r er A

    finish : (tr : CheckedTrace)
        → record { verdict = Verdict.found u.leaf.time (length tr.records); opened = r.opened; records = tr.records; records_start = r.pos + 5; records_length = length r.rest - 5 } ≡ a
        → IsSought G (asked rel (trace_of way) s t) u.place → r.rest ≡ trace_string way tr.records ++ tr.rest → length tr.rest ≡ 0
        → (tr.records ≡ trace way G u.place) ⊎ Collision (hashed_in_building h G) (hashed_in_check (trace_of way) a)
        → Faithful h G (one (asked rel (trace_of way) s t)) x a ⊎ Collision (hashed_in_building h G) (hashed_in_check (trace_of way) a)
    finish tr accepted b sp nl (inr c) = inr c
    finish tr accepted b sp nl (inl k) =
        inl
        (faithful h G w (one (asked rel (trace_of way) s t)) x a
        (split
        ∙ ap (λ (l : Bytes). joined (proof h G (one (asked rel (trace_of way) s t))).opened ++ l)
        (sp ∙ ap (λ (l : Bytes). trace_string way tr.records ++ l) (empty tr.rest nl) ∙ append-nil (trace_string way tr.records)
        ∙ ap (trace_string way) k ∙ ap (trace_part G (trace_of way)) (sym pe)))
        (ap (λ (z : Accepted). z.verdict) (sym accepted)
        ∙ ap (λ (n : ℕ). Verdict.found u.leaf.time n) (ap length k ∙ trace-count way G u.place)
        ∙ ap (verdict_by G (trace_of way)) (sym pe)
        ∙ walk-verdict G w (one (asked rel (trace_of way) s t)))
        (λ v c.
        subst (λ (z : ℕ). Shows G z (trace_of way) a.records) (sought_unique G (regular G w) (asked rel (trace_of way) s t) u.place v b c)
        (subst (Shows G u.place (trace_of way)) (sym k ∙ ap (λ (z : Accepted). z.records) accepted) (trace_shows G w.starts_before way u.place b.there))))

-- by the end of the walk
by_end : (h : Header) (G : List VersionNode) (w : WellFormed G) (rel : Relation) (p : Part) (s t : ℕ) (x : Bytes) → Octets x → (work : ℕ) (a : Accepted) (r : CheckedProof)
    → check_proof h.letter (one (asked rel p s t)) (commitment h G) 0 x ≡ ok r
    → Agrees r (after (root h G) (open_entities (one (asked rel p s t)) (entity_tree G)))
    → (e : SearchEnd VersionLeaf) → (open_entities (one (asked rel p s t)) (entity_tree G)).end ≡ e → check_end p work r (seen e) ≡ ok a
    → Faithful h G (one (asked rel p s t)) x a ⊎ Collision (hashed_in_building h G) (hashed_in_check p a)
unfolding check_end trace_part reached
by_end h G w rel p s t x ox work a r er A (SearchEnd.not_found z) pe q =
    plain h G w (one (asked rel p s t)) x ox work a r er A (SearchEnd.not_found z) pe refl (Verdict.not_found z) refl
    (none-sought G w (asked rel p s t) (Verdict.not_found z) (ap (verdict_by G p) pe) (stop_is_not_found z)) q
by_end h G w rel p s t x ox work a r er A (SearchEnd.listed vs) pe q =
    plain h G w (one (asked rel p s t)) x ox work a r er A (SearchEnd.listed vs) pe refl _ refl
    (none-sought G w (asked rel p s t) _ (ap (verdict_by G p) pe) (list_is_not_found _)) q
by_end h G w rel version_only s t x ox work a r er A (SearchEnd.found u) pe q =
    plain h G w (one (asked rel version_only s t)) x ox work a r er A (SearchEnd.found u) pe refl (Verdict.found u.leaf.time 0) refl (λ v b. nothing_shows G v) q
by_end h G w rel (trace_of way) s t x ox work a r er A (SearchEnd.found u) pe q = traced h G w way rel s t x ox work a r er A u pe q

-- direction 6: no trace, whatever the end
by_list_end : (h : Header) (G : List VersionNode) (w : WellFormed G) (p : SpanQuestion) (x : Bytes) → Octets x → (work : ℕ) (a : Accepted) (r : CheckedProof)
    → check_proof h.letter (all p) (commitment h G) 0 x ≡ ok r → Agrees r (after (root h G) (open_entities (all p) (entity_tree G)))
    → (e : SearchEnd VersionLeaf) → (open_entities (all p) (entity_tree G)).end ≡ e → check_end version_only work r (seen e) ≡ ok a
    → Faithful h G (all p) x a ⊎ Collision (hashed_in_building h G) (hashed_in_check version_only a)
unfolding check_end trace_part reached
by_list_end h G w p x ox work a r er A (SearchEnd.not_found z) pe q = plain h G w (all p) x ox work a r er A (SearchEnd.not_found z) pe refl (Verdict.not_found z) refl refl q
by_list_end h G w p x ox work a r er A (SearchEnd.listed vs) pe q = plain h G w (all p) x ox work a r er A (SearchEnd.listed vs) pe refl _ refl refl q
by_list_end h G w p x ox work a r er A (SearchEnd.found u) pe q = plain h G w (all p) x ox work a r er A (SearchEnd.found u) pe refl (Verdict.found u.leaf.time 0) refl refl q

pub soundness_over_graphs : SoundnessOverGraphs run_under
unfolding run_under
soundness_over_graphs h G w ask x ox work a q =
    let b = past _ _ _ _ q in
    let c = bind_ok _ _ b.1 in
    escape (by_proof ask c.0 c.1 c.2 (of-root h G w ask x ox work a c.0 c.1))
  where
    escape : {F : Type 0} → F ⊎ Collision (hashed_in_building h G) (hashed_in_check (question_part ask) a) → F ⊎ Escape h G (question_part ask) a
    escape (inl f) = inl f
    escape (inr c) = inr (strings c)

    by_proof : (ask : Question) (r : CheckedProof) → check_proof h.letter ask (commitment h G) 0 x ≡ ok r → check_end (question_part ask) work r r.end ≡ ok a
        → Sound (hashed_in_building h G) r (after (root h G) (open_entities ask (entity_tree G)))
        → Faithful h G ask x a ⊎ Collision (hashed_in_building h G) (hashed_in_check (question_part ask) a)
    by_proof ask r er q (inr c) = inr (collision_into (opened-checked h G w ask x ox work a r er r.end q) c)
    by_proof (one k) r er q (inl A) =
        by_end h G w k.relation k.part k.entity k.time x ox work a r er A _ refl (ap (check_end k.part work r) (sym A.ends) ∙ q)
    by_proof (all p) r er q (inl A) = by_list_end h G w p x ox work a r er A _ refl (ap (check_end version_only work r) (sym A.ends) ∙ q)
