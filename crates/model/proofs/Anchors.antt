-- What the two halves of demand 3 rule out: these break where a statement is weakened. Assumes nothing.
use mathlib.Core.Path.{◌≡◌, refl, sym, ap, ◌∙◌, subst}
use mathlib.Core.Logic.{◌≢◌, ◌⊎◌, inl, inr}
use Prim.Native.Nat.{ℕ, zero, suc, ◌<◌, ◌≤◌}
use native.Mathlib.Omega.{arith}
use mathlib.Core.List.Memᴰ
use mathlib.Core.List.{List, [], ◌∷◌}
use lib.ListN.{length}
use lib.Dec.{lit<}
use Rattle.fields.specs.Fields.{Octets}
use Rattle.model.specs.Result.{ok, refuse, ◌>>=◌}
use Rattle.model.specs.Numbers.{Bytes, H}
use Rattle.model.specs.Log.{Record}
use Rattle.model.specs.Graph.{VersionNode, InEdge, temporal, dependency, node_at, graph, NamedEdge, CausalPath, stay, step, edges_on}
use Rattle.model.specs.Digest.{letter_I, letter_O, links_string, incoming_string, outgoing_string, incoming_strings, outgoing_strings, incoming_string_of, outgoing_string_of}
use Rattle.model.specs.Accumulator.{letter_L, letter_N, letter_G, letter_P, letter_R, Header, strings_of, hashed_in_building}
use Rattle.model.specs.Question.{at_or_before, at_or_after, backward, version_only, trace_of, VersionQuestion, asked, spanned, Question, one, all, question_part, question, no_entity, VersionName, Verdict, count, name_string, list_string}
use Rattle.model.specs.Answer.{log_header, log_commitment, log_answer, log_hashed}
use Rattle.model.specs.CheckRows.{enough, Accepted, room, run_into, path_strings, trace_strings, hashed_in_check}
use Rattle.model.specs.Calls.{verdict_of}
use Rattle.model.specs.Exact.{path_edges, ending, IsSought, nearest_from, sought, verdict_at, version_verdict, TrueList, places_between, list_at, list_verdict, true_verdict, ShowsVersion, ShowsEdge, VersionOnPath, EdgeOnPath, Shows, Collision, Escape, strings, Faithful, Check, SoundLog, Soundness, Completeness}
use Rattle.model.proofs.Outcomes.{refuse≢ok, ok_inj}
use Rattle.model.proofs.Lists.{◌among◌, among_two}
use Rattle.model.proofs.Widths.{letters_of}
use Rattle.model.proofs.LogGraph.{well_formed}
use Rattle.model.proofs.Stops.{StopsWith, stop-gives}
use Rattle.model.proofs.Verdicts.{true_verdict-only}
use Rattle.model.proofs.Truth.{found-is}
use Rattle.model.proofs.Showing.{version-on, trace_shows}
use Rattle.model.proofs.HashedCount.{log_building_count}
use Rattle.model.proofs.Asking.{known_span}
use Rattle.model.proofs.Soundness.{soundness}
use Rattle.model.proofs.Completeness.{completeness}
use Rattle.model.proofs.LogK.{computed, log-bytes, K, K-sound, backward_2_35_records, starred_cases, both_of_1}

-- ---- a collision is a real collision

pub collision_real : {built checked : List Bytes} → Collision built checked → (x : Bytes) × (y : Bytes) × (x ≢ y) × (H x ≡ H y)
collision_real c = (c.x, c.y, c.differ, c.one_hash)

-- no two different strings of the two lists share a hash
abbrev pub NoCollision : List Bytes → List Bytes → Type 0
NoCollision built checked = (y z : Bytes) → y among built → z among checked → H y ≡ H z → y ≡ z

-- where that is so, the escape clause gives nothing
pub no_escape : {h : Header} {ns : List VersionNode} {q : Question} {x : Bytes} {a : Accepted} → NoCollision (hashed_in_building h ns) (hashed_in_check (question_part q) a)
    → Faithful h ns q x a ⊎ Escape h ns (question_part q) a → Faithful h ns q x a
no_escape none (inl f) = f
no_escape none (inr (strings c)) = absurd (c.differ (none c.x c.y c.x_built c.y_checked c.one_hash))

-- and an accepted answer is faithful
pub no_collision : {log : Bytes} {rs : List Record} → SoundLog log rs → (direction s t t2 : ℕ) (q : Question) → question direction s t t2 ≡ ok q
    → (x : Bytes) → Octets x → (work out : ℕ) (a : Accepted) → run_into direction s t t2 (log_commitment rs) x work out ≡ ok a
    → NoCollision (log_hashed rs) (hashed_in_check (question_part q) a) → Faithful (log_header rs) (graph rs) q x a
unfolding log_hashed
no_collision {log} {rs} l direction s t t2 q e x o work out a r none = no_escape none (soundness log rs l direction s t t2 q e x o work out a r)

-- ---- the strings hashed, on K

pub K_hashed_count : length (log_hashed K) ≡ 18
unfolding computed
K_hashed_count = log_building_count (log-bytes K) K K-sound ∙ refl

pub K_hashed_letters : letters_of (log_hashed K)
    ≡ letter_R ∷ letter_P
    ∷ letter_G ∷ letter_N ∷ letter_L ∷ letter_L
    ∷ letter_G ∷ letter_N ∷ letter_L ∷ letter_L
    ∷ letter_I ∷ letter_I ∷ letter_I ∷ letter_I
    ∷ letter_O ∷ letter_O ∷ letter_O ∷ letter_O
    ∷ []
unfolding computed log_hashed hashed_in_building strings_of incoming_strings outgoing_strings incoming_string_of outgoing_string_of incoming_string outgoing_string links_string
K_hashed_letters = refl

-- ---- both halves at K

pub soundness_at_K : (direction s t t2 : ℕ) (q : Question) → question direction s t t2 ≡ ok q → (x : Bytes) → Octets x → (work out : ℕ) (a : Accepted)
    → run_into direction s t t2 (log_commitment K) x work out ≡ ok a → Faithful (log_header K) (graph K) q x a ⊎ Escape (log_header K) (graph K) (question_part q) a
soundness_at_K = soundness (log-bytes K) K K-sound

pub completeness_at_K : (direction s t t2 : ℕ) (q : Question) → question direction s t t2 ≡ ok q → (work out : ℕ)
    → verdict_of (run_into direction s t t2 (log_commitment K) (log_answer K q) work out)
    ≡ (enough (count (true_verdict (graph K) q)) work >>= λ _. room (true_verdict (graph K) q) out >>= λ _. ok (true_verdict (graph K) q))
completeness_at_K = completeness (log-bytes K) K K-sound

-- ---- where the walk stops, at K: 2 before its first version and after its last

pub stops_back_at_K : StopsWith (graph K) (asked at_or_before version_only 2 19) 20
unfolding computed
stops_back_at_K = stop-gives (log-bytes K) K K-sound (asked at_or_before version_only 2 19) 20 refl

pub stops_ahead_at_K : StopsWith (graph K) (asked at_or_after version_only 2 31) 30
unfolding computed
stops_ahead_at_K = stop-gives (log-bytes K) K K-sound (asked at_or_after version_only 2 31) 30 refl

-- ---- each part of `Faithful`, at K's first question

abbrev first-question : VersionQuestion
first-question = asked at_or_before (trace_of backward) 2 35

-- the version sought is the third, 2 at 30
first-sought : IsSought (graph K) first-question 2
unfolding computed
first-sought = (found-is (graph K) (well_formed (log-bytes K) K K-sound) first-question _ refl).1

-- and its records show what is on its paths
first-trace : Shows (graph K) 2 (trace_of backward) backward_2_35_records
unfolding computed
first-trace = trace_shows (graph K) (well_formed (log-bytes K) K K-sound).starts_before backward 2 (lit< tt)

first-verdict : true_verdict (graph K) (one first-question) ≡ Verdict.found 30 3
unfolding computed nearest_from sought verdict_at version_verdict true_verdict
first-verdict = refl

-- a flow's edge by kind and by the names of its two ends
abbrev pub flow-edge : ℕ → ℕ → ℕ → ℕ → ℕ → NamedEdge
flow-edge k e t f u = record { type = 1; kind = k; start_entity = e; start_time = t; end_entity = f; end_time = u }

-- from 1 at 10 to 2 at 30, by the flow of kind 7
first-path : CausalPath (graph K) 0 2
unfolding computed
first-path =
    step (record { edge = dependency 7 0; start_there = lit< tt; end_there = lit< tt; listed = Memᴰ.tail (Memᴰ.head refl); starts = refl })
    (stay (lit< tt))

first-version : VersionOnPath (graph K) 2 (trace_of backward) 1 10
unfolding computed
first-version = version-on (graph K) 2 backward 0 1 10 first-path refl refl

first_edge : EdgeOnPath (graph K) 2 (trace_of backward) (flow-edge 7 1 10 2 30)
unfolding computed path_edges edges_on first-path
first_edge = record { path = ending first-path; on = Memᴰ.head refl }

-- nothing on a path that ends there has the time 40
module _ (n : ℕ) (late : n ≡ 40) where
  shown_by : (i : ℕ) → i < 3 → (node_at backward_2_35_records i).time ≡ n → ⊥
  shown_by zero h q = omega arith
  shown_by (suc zero) h q = omega arith
  shown_by (suc (suc zero)) h q = omega arith
  shown_by (suc (suc (suc i))) h q = omega arith

  no_version_at_40 : (e : ℕ) → VersionOnPath (graph K) 2 (trace_of backward) e n → ⊥
  unfolding computed
  no_version_at_40 e p = let s = (first-trace.versions e n).1 p in shown_by s.i s.inside s.is_time

  starts_in-trace : (j : ℕ) → j < 3 → (e : InEdge) → e among (node_at backward_2_35_records j).in_edges → e.start < 3
  starts_in-trace zero h e m = absurd (Memᴰ.not-nil m)
  starts_in-trace (suc zero) h e m = absurd (Memᴰ.not-nil m)
  starts_in-trace (suc (suc zero)) h e m = among_two (λ (e : InEdge). e.start < 3) (temporal 1) (dependency 7 0) (lit< tt) (lit< tt) e m
  starts_in-trace (suc (suc (suc j))) h e m = absurd (let z : ⊥ = omega arith in z)

  no_edge_from_40 : (l : NamedEdge) → l.start_time ≡ n → EdgeOnPath (graph K) 2 (trace_of backward) l → ⊥
  unfolding computed
  no_edge_from_40 l q p =
      let s = (first-trace.edges l).1 p in
      shown_by s.edge.start (starts_in-trace s.j s.inside s.edge s.listed) (ap (λ (m : NamedEdge). m.start_time) s.is_it ∙ q)

-- what an accepted answer to it is and shows, where no strings collide
module _ (x : Bytes) (o : Octets x) (t2 work out : ℕ) (a : Accepted) (accepted : run_into 1 2 35 t2 (log_commitment K) x work out ≡ ok a)
    (none : NoCollision (log_hashed K) (hashed_in_check (trace_of backward) a))
  where
    the_faithful : Faithful (log_header K) (graph K) (one first-question) x a
    unfolding question
    the_faithful = no_collision K-sound 1 2 35 t2 (one first-question) refl x o work out a accepted none

    shown : Shows (graph K) 2 (trace_of backward) a.records
    shown = the_faithful.the_trace 2 first-sought

    pub answer_at_K : x ≡ log_answer K (one first-question)
    unfolding log_answer
    answer_at_K = the_faithful.the_answer

    pub verdict_at-K : a.verdict ≡ Verdict.found 30 3
    verdict_at-K = the_faithful.the_verdict ∙ first-verdict

    pub verdict_by_paths_at_K : a.verdict ≡ Verdict.found 30 3
    verdict_by_paths_at_K = true_verdict-only (graph K) (well_formed (log-bytes K) K K-sound) (one first-question) a.verdict the_faithful.by_paths ∙ first-verdict

    pub version_shown_at_K : ShowsVersion a.records 1 10
    version_shown_at_K = (shown.versions 1 10).1 first-version

    pub version_not_shown_at_K : ShowsVersion a.records 1 40 → ⊥
    version_not_shown_at_K s = no_version_at_40 40 refl 1 ((shown.versions 1 40).0 s)

    pub edge_shown_at_K : ShowsEdge a.records (flow-edge 7 1 10 2 30)
    edge_shown_at_K = (shown.edges (flow-edge 7 1 10 2 30)).1 first_edge

    pub edge_not_shown_at_K : (l : NamedEdge) → l.start_entity ≡ 1 → l.start_time ≡ 40 → ShowsEdge a.records l → ⊥
    edge_not_shown_at_K l of_1 at_40 s = no_edge_from_40 40 refl l at_40 ((shown.edges l).0 s)

-- ---- idle checks

-- accepts whatever it is given, with one verdict, and opens nothing
pub accept_all : Verdict → Check
accept_all v direction s t t2 c x work out = ok (record { verdict = v; opened = []; records = []; records_start = 0; records_length = 0 })

pub accept_all_unsound : (v : Verdict) → Soundness (accept_all v) → ⊥
unfolding computed accept_all hashed_in_check trace_strings path_strings incoming_strings log_answer
accept_all_unsound v sound = go (sound (log-bytes K) K K-sound 1 2 35 0 (one (asked at_or_before (trace_of backward) 2 35)) refl [] Octets.none 0 0 _ refl)
  where
    go : Faithful (log_header K) (graph K) (one (asked at_or_before (trace_of backward) 2 35)) [] (record { verdict = v; opened = []; records = []; records_start = 0; records_length = 0 })
        ⊎ Escape (log_header K) (graph K) (trace_of backward) (record { verdict = v; opened = []; records = []; records_start = 0; records_length = 0 }) → ⊥
    go (inl f) =
        let c = starred_cases.one 0 in
        nothing (ap length f.the_answer) (subst (λ (z : Question). length (log_answer K z) ≡ 446) (ok_inj (sym c.known)) c.the_length)
      where
        nothing : {m : ℕ} → 0 ≡ m → m ≡ 446 → ⊥
        nothing e n = omega arith
    go (inr (strings c)) = Memᴰ.not-nil c.y_checked

-- refuses whatever it is given
pub refuse-all : ℕ → ℕ → Check
refuse-all n p direction s t t2 c x work out = refuse n p

pub refuse_all_incomplete : (n p : ℕ) → Completeness (refuse-all n p) → ⊥
unfolding computed refuse-all verdict_of nearest_from sought verdict_at version_verdict true_verdict room list_string
refuse_all_incomplete n p complete = refuse≢ok (complete (log-bytes K) K K-sound 1 2 35 0 (one (asked at_or_before (trace_of backward) 2 35)) refl 384 0)

-- "no entity" before R is opened: neither half holds
pub no_entity_first_unsound : Soundness (accept_all (Verdict.not_found no_entity)) → ⊥
no_entity_first_unsound = accept_all_unsound (Verdict.not_found no_entity)

pub no_entity_first_incomplete : Completeness (accept_all (Verdict.not_found no_entity)) → ⊥
unfolding computed accept_all verdict_of nearest_from sought verdict_at version_verdict true_verdict room list_string
no_entity_first_incomplete complete = never (ok_inj (complete (log-bytes K) K K-sound 1 2 35 0 (one (asked at_or_before (trace_of backward) 2 35)) refl 384 0))
  where
    never : Verdict.not_found no_entity ≡ Verdict.found 30 3 → ⊥
    never e = let z : ◌≡◌ {A = ℕ} 0 1 = cc in omega arith

-- ---- direction 6: lists that leave a version out

-- where no two different strings of the two lists share a hash, an accepted list is that of all the log's versions of s in the span, ...
module _ {log : Bytes} {rs : List Record} (l : SoundLog log rs) (s t t2 : ℕ) (h : t ≤ t2) (x : Bytes) (o : Octets x) (work out : ℕ) (a : Accepted)
    (r : run_into 6 s t t2 (log_commitment rs) x work out ≡ ok a) (none : NoCollision (log_hashed rs) (hashed_in_check version_only a))
  where
    list_faithful : Faithful (log_header rs) (graph rs) (all (spanned s t t2)) x a
    list_faithful = no_collision l 6 s t t2 (all (spanned s t t2)) (known_span s t t2 h) x o work out a r none

    pub full_list : TrueList (graph rs) (spanned s t t2) a.verdict
    full_list = list_faithful.by_paths

    -- ... and there are no records
    pub list_without_records : a.records ≡ []
    list_without_records = list_faithful.the_trace

-- a check that gives these versions for 1, 10 to 40 on K, whatever it is handed: neither half holds unless they are 1 10 and 1 40
pub fixed_list_incomplete : (vs : List VersionName) → (vs ≢ both_of_1) → Completeness (accept_all (Verdict.listed vs)) → ⊥
unfolding computed accept_all verdict_of nearest_from places_between list_at list_verdict true_verdict room name_string list_string
fixed_list_incomplete vs other complete = other (listed_inj (ok_inj (complete (log-bytes K) K K-sound 6 1 10 40 (all (spanned 1 10 40)) refl 0 24)))
  where
    listed_inj : {a b : List VersionName} → Verdict.listed a ≡ Verdict.listed b → a ≡ b
    listed_inj e = cc

pub nothing_listed_incomplete : Completeness (accept_all (Verdict.listed [])) → ⊥
nothing_listed_incomplete = fixed_list_incomplete [] (λ e. let z = ap length e in omega arith)

pub first_listed_incomplete : Completeness (accept_all (Verdict.listed (record { entity = 1; time = 10 } ∷ []))) → ⊥
first_listed_incomplete = fixed_list_incomplete (record { entity = 1; time = 10 } ∷ []) (λ e. let z = ap length e in omega arith)

pub nothing_listed_unsound : Soundness (accept_all (Verdict.listed [])) → ⊥
nothing_listed_unsound = accept_all_unsound (Verdict.listed [])
