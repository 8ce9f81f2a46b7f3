-- Log K: its starred cases in one proved table, under the real SHA-256. Assumes nothing.
use mathlib.Core.Path.{◌≡◌, refl, sym, ap, ◌∙◌, subst}
use Prim.Native.Nat.{ℕ, zero, suc, ◌+◌, ◌-◌, ◌*◌, ◌<◌, ◌≤◌}
use native.Mathlib.Omega.{arith}
use mathlib.Core.Bool.{Bool, true, cond, not}
use mathlib.Core.List.{List, [], ◌∷◌, ◌++◌, map}
use lib.ListN.{length, get_or, length-append, set, take, drop, replicate}
use lib.Dec.{T, eqb, leb, ltb, le→leb, leb→le, not_T}
use Rattle.fields.specs.Fields.{Octets, encode, decode, part, field, equal}
use Rattle.fields.proofs.Numbers.{octets-encode, octets-append}
use Rattle.model.specs.Result.{Result, ok, refuse, ◌>>=◌, need}
use Rattle.model.specs.Numbers.{Bytes, H, joined}
use Rattle.model.specs.Log.{Record, birth, flow, BIRTH, FLOW, record_limit, last_time, births}
use Rattle.model.specs.Graph.{InEdge, temporal, dependency, VersionNode, latest_from, latest, made, grow, graph}
use Rattle.model.specs.Digest.{letter_I, letter_O, links_string, incoming_string, outgoing_string, incoming_string_of, outgoing_string_of, incoming_strings, outgoing_strings}
use Rattle.model.specs.Accumulator.{Subtree, letter_L, letter_N, letter_G, letter_P, letter_R, branch_string, parent, doubled_below, largest_power_below, halved, tree, subtree, string_of, leaf_string, VersionLeaf, group_string, root_string, entities, leaf_at, version_leaves, of_entity, group, entity_tree, root, commitment}
use Rattle.model.specs.Question.{Relation, at_or_before, at_or_after, backward, forward, Part, version_only, trace_of, Question, asked, spanned, question, no_entity, not_yet, none_so_late, SearchEnd, by_entity, by_time, open_tree, open_versions, open_entities, Opened, open_all, within, VersionName, Verdict, count, VersionQuestion, SpanQuestion, one, all, question_part, open_span, open_sought, name_string, list_string}
use Rattle.model.specs.Trace.{letter_E, letter_V, letter_S, letter_T, letter_D, refers, referred, add_ancestors, ancestors, starts_in, add_descendants, descendants, trace_versions, position_in, edges_inside, node_inside, induced_subgraph, trace, one_edge_string, record_string_by, record_string, record_strings, trace_string, letter_B, letter_F}
use Rattle.model.specs.Answer.{proof, trace_part, answer, log_header, log_commitment, log_answer}
use Rattle.model.specs.LogRows.{parse, above_all, ends_rows, next_record, records_by, records_from, log_by, log_within, read_log}
use Rattle.model.specs.CheckRows.{enough, Accepted, none_opened, none_due, check_leaf, check_all, run_under, run, path_strings, trace_strings, hashed_in_check, check_proof, take_string, due, shown_edges, shown_record, all_below, read_record, CheckedTrace, last_shown, read_records, read_trace, referred_to, first_unreferenced, unreferenced, found_position, trace_rows, with_trace, path_limit, room, run_into}
use Rattle.model.specs.Recorder.{places, start_rows, offer, taken_with, taken, taken_after, all_taken, kept_bytes, log_after, log_taken, recorder_commitment}
use Rattle.model.specs.Calls.{Written, output_after, fitting, writing, hash_call, commitment_bytes, commitment_call, answer_bytes, answer_call, listing_call, records_part, check_call, records_call}
use Rattle.model.specs.Listing.{decimal_within, decimal, line, birth_word, flow_word, from_word, refused_word, at_word, made_by, version_line, too_long, listed, listing_within, listing}
use Rattle.model.specs.Exact.{nearest_from, list_at, list_verdict, true_verdict, reached, SoundLog}
use Rattle.model.proofs.Outcomes.{ok_inj, refuse≢ok, bind_eq, bind_refused, pass, past, need_no}
use Rattle.model.proofs.Strings.{sum, H-length}
use Rattle.model.proofs.Truth.{verdict_by}
use Rattle.model.proofs.LogReading.{records-next}
use Rattle.model.proofs.LogGraph.{well_formed}
use Rattle.model.proofs.Open.{reading}
use Rattle.model.proofs.CompletenessOverGraphs.{accepted_by, answer-run}
use Rattle.model.proofs.RecordsPart.{part-behind}
use Rattle.model.proofs.Asking.{known_span}
use Rattle.model.proofs.CheckCall.{check_complete, list_length}
use Rattle.model.proofs.Widths.{proof_width, letters_of, proof-length}

-- ---- opens every definition that computes, and not H

unfoldable pub computed : Unit {0}
unfolding encode decode part field need ◌>>=◌ last_time births latest_from latest made grow graph branch_string parent doubled_below largest_power_below halved tree subtree string_of leaf_string group_string root_string entities leaf_at version_leaves of_entity group entity_tree root question by_entity by_time open_tree open_versions open_entities refers referred add_ancestors ancestors starts_in add_descendants descendants trace_versions position_in edges_inside node_inside induced_subgraph trace one_edge_string record_string_by record_string record_strings trace_string proof trace_part log_header parse above_all ends_rows next_record records_by log_by log_within read_log enough reached open_all within open_span open_sought
computed = tt

-- ---- the logs

abbrev pub record_bytes : Record → Bytes
record_bytes (birth e t) = BIRTH ∷ joined (encode 4 e ∷ encode 8 t ∷ [])
record_bytes (flow s d k t) = FLOW ∷ joined (encode 4 s ∷ encode 4 d ∷ encode 1 k ∷ encode 8 t ∷ [])

abbrev pub log-bytes : List Record → Bytes
log-bytes rs = joined (map record_bytes rs)

record_octets : (r : Record) → Octets (record_bytes r)
record_octets (birth e t) = Octets.more {b = BIRTH} (omega arith) (octets-append (octets-encode 4 e) (octets-append (octets-encode 8 t) Octets.none))
record_octets (flow s d k t) =
    Octets.more {b = FLOW} (omega arith) (octets-append (octets-encode 4 s) (octets-append (octets-encode 4 d) (octets-append (octets-encode 1 k) (octets-append (octets-encode 8 t) Octets.none))))

pub log-octets : (rs : List Record) → Octets (log-bytes rs)
log-octets [] = Octets.none
log-octets (r ∷ rs) = octets-append (record_octets r) (log-octets rs)

-- "birth 1 at 10, birth 2 at 20, flow 1 to 2 kind 7 at 30, flow 2 to 1 kind 8 at 40; 62 bytes"
abbrev pub K : List Record
K = birth 1 10 ∷ birth 2 20 ∷ flow 1 2 7 30 ∷ flow 2 1 8 40 ∷ []

pub K-sound : SoundLog (log-bytes K) K
unfolding computed
K-sound = record { octets = log-octets K; reads = refl }

pub K-length : length (log-bytes K) ≡ 62
unfolding computed
K-length = refl

-- "Births 1 and 5 only"
abbrev pub two_births : List Record
two_births = birth 1 10 ∷ birth 5 20 ∷ []

pub two_births_sound : SoundLog (log-bytes two_births) two_births
unfolding computed
two_births_sound = record { octets = log-octets two_births; reads = refl }

-- ---- a question's answer and its check

module _ (rs : List Record) (ask : Question) where
  abbrev the_proof : Opened
  the_proof = proof (log_header rs) (graph rs) ask

  abbrev the_end : SearchEnd VersionLeaf
  the_end = (open_entities ask (entity_tree (graph rs))).end

  abbrev the_trace : Bytes
  the_trace = trace_part (graph rs) (question_part ask) the_end

  abbrev work-room : ℕ → Result (Unit {0})
  work-room work = enough (count (verdict_by (graph rs) (question_part ask) the_end)) work

  abbrev the_accepted : Accepted
  the_accepted = accepted_by (graph rs) (question_part ask) (reading the_proof 0 the_trace) the_end

  abbrev the_size : ℕ
  the_size = sum (map proof_width (letters_of the_proof.opened)) + length the_trace

module _ (log : Bytes) (rs : List Record) (l : SoundLog log rs) (direction s t t2 : ℕ) (ask : Question) (known : question direction s t t2 ≡ ok ask) where
  abbrev the_run : ℕ → Result Accepted
  the_run work = run direction s t t2 (log_commitment rs) (log_answer rs ask) work

  run_is : (work : ℕ) → the_run work ≡ (work-room rs ask work >>= λ _. ok (the_accepted rs ask))
  unfolding run log_commitment log_answer log_header
  run_is work =
      bind_eq _ (λ q. run_under letter_R q (log_commitment rs) (log_answer rs ask) work) ask known
      ∙ answer-run (log_header rs) (graph rs) (well_formed log rs l) ask work

  pub run_accepts : (work : ℕ) → work-room rs ask work ≡ ok tt → the_run work ≡ ok (the_accepted rs ask)
  run_accepts work e = run_is work ∙ bind_eq (work-room rs ask work) _ tt e

  pub run-refuses : (work : ℕ) → work-room rs ask work ≡ refuse 12 0 → the_run work ≡ refuse 12 0
  run-refuses work e = run_is work ∙ bind_refused (work-room rs ask work) _ 12 0 e

  pub answer-length : length (log_answer rs ask) ≡ the_size rs ask
  unfolding log_answer answer proof log_header
  answer-length =
      length-append (joined (the_proof rs ask).opened) (the_trace rs ask)
      ∙ ap (λ (n : ℕ). n + length (the_trace rs ask)) (proof-length (log_header rs) (graph rs) (well_formed log rs l) header-letter ask)
    where
      header-letter : (log_header rs).letter ≡ letter_R
      header-letter = refl

-- ---- cases with a trace

-- Of a question by its direction: the proof's letters and the answer's length; with 128 bytes of work area a record the check accepts
-- with this verdict, its records show these versions and edges, the records call returns these bytes, and beside the opened strings the
-- check hashed strings of these letters; with one byte less the check meets 12.
pub record Traced (rs : List Record) (direction s t t2 : ℕ) (letters : List ℕ) (long : ℕ) (v : Verdict) (records : List VersionNode) (bytes : List Bytes) (hashed : List ℕ) : Type 0 where
  pub q : Question
  pub known : question direction s t t2 ≡ ok q
  pub the_letters : letters_of (proof (log_header rs) (graph rs) q).opened ≡ letters
  pub the_length : length (log_answer rs q) ≡ long
  pub run_of : Accepted
  pub accepted : run direction s t t2 (log_commitment rs) (log_answer rs q) (128 * length records) ≡ ok run_of
  pub the_verdict : run_of.verdict ≡ v
  pub the_records : run_of.records ≡ records
  pub the_part : records_part (log_answer rs q) (run direction s t t2 (log_commitment rs) (log_answer rs q) (128 * length records)) ≡ joined bytes
  pub the_hashed : letters_of (hashed_in_check (question_part q) run_of) ≡ letters ++ hashed
  pub too_little : run direction s t t2 (log_commitment rs) (log_answer rs q) (128 * length records - 1) ≡ refuse 12 0

module _ (log : Bytes) (rs : List Record) (l : SoundLog log rs) (direction s t t2 : ℕ) (ask : Question) (known : question direction s t t2 ≡ ok ask) where
  -- a case by what is computed of it
  traced : {letters : List ℕ} {long : ℕ} {v : Verdict} {records : List VersionNode} {bytes : List Bytes} {hashed : List ℕ}
      → letters_of (the_proof rs ask).opened ≡ letters → the_size rs ask ≡ long
      → work-room rs ask (128 * length records) ≡ ok tt → work-room rs ask (128 * length records - 1) ≡ refuse 12 0
      → (the_accepted rs ask).verdict ≡ v → (the_accepted rs ask).records ≡ records
      → records_part (log_answer rs ask) (ok (the_accepted rs ask))
      ≡ part (joined (the_proof rs ask).opened ++ the_trace rs ask) (0 + length (joined (the_proof rs ask).opened) + 5) (length (the_trace rs ask) - 5)
      → drop 5 (the_trace rs ask) ≡ joined bytes
      → letters_of (hashed_in_check (question_part ask) (the_accepted rs ask)) ≡ letters ++ hashed
      → Traced rs direction s t t2 letters long v records bytes hashed
  traced {letters} {long} {v} {records} a b c d e f g h i =
      record {
        q = ask;
        known = known;
        the_letters = a;
        the_length = answer-length log rs l direction s t t2 ask known ∙ b;
        run_of = the_accepted rs ask;
        accepted = run_accepts log rs l direction s t t2 ask known (128 * length records) c;
        the_verdict = e;
        the_records = f;
        the_part =
            ap (records_part (log_answer rs ask)) (run_accepts log rs l direction s t t2 ask known (128 * length records) c)
            ∙ g ∙ part-behind (joined (the_proof rs ask).opened) (the_trace rs ask) 5 ∙ h;
        the_hashed = i;
        too_little = run-refuses log rs l direction s t t2 ask known (128 * length records - 1) d;
      }

abbrev node : ℕ → ℕ → List InEdge → VersionNode
node e t es = record { entity = e; time = t; in_edges = es }

-- all five letters
abbrev found_letters : List ℕ
found_letters = letter_R ∷ letter_P ∷ letter_G ∷ letter_N ∷ letter_L ∷ []

-- "2, 35, backward: E 1 10; E 2 20; V 2 30 kind 7, 1, 0. 446 bytes."
abbrev pub backward_2_35_records : List VersionNode
backward_2_35_records = node 1 10 [] ∷ node 2 20 [] ∷ node 2 30 (temporal 1 ∷ dependency 7 0 ∷ []) ∷ []

abbrev backward_2_35_bytes : List Bytes
backward_2_35_bytes =
    (letter_E ∷ []) ∷ encode 4 1 ∷ encode 8 10
    ∷ (letter_E ∷ []) ∷ encode 4 2 ∷ encode 8 20
    ∷ (letter_V ∷ []) ∷ encode 4 2 ∷ encode 8 30 ∷ encode 1 7 ∷ encode 4 1 ∷ encode 4 0
    ∷ []

backward_2_35 : (t2 : ℕ) → Traced K 1 2 35 t2 found_letters 446 (Verdict.found 30 3) backward_2_35_records backward_2_35_bytes (letter_I ∷ letter_I ∷ letter_I ∷ [])
unfolding computed log_answer answer records_part hashed_in_check trace_strings path_strings incoming_strings outgoing_strings incoming_string_of outgoing_string_of incoming_string outgoing_string links_string
backward_2_35 t2 = traced (log-bytes K) K K-sound 1 2 35 t2 (one (asked at_or_before (trace_of backward) 2 35)) refl refl refl refl refl refl refl refl refl refl

-- "1, 39, forward: S 1 10; D 2 30 kind 7, 0; V 1 40 kind 8, 0, 1. 451 bytes."
abbrev forward_1_39_records : List VersionNode
forward_1_39_records = node 1 10 [] ∷ node 2 30 (dependency 7 0 ∷ []) ∷ node 1 40 (temporal 0 ∷ dependency 8 1 ∷ []) ∷ []

abbrev forward_1_39_bytes : List Bytes
forward_1_39_bytes =
    (letter_S ∷ []) ∷ encode 4 1 ∷ encode 8 10
    ∷ (letter_D ∷ []) ∷ encode 4 2 ∷ encode 8 30 ∷ encode 1 7 ∷ encode 4 0
    ∷ (letter_V ∷ []) ∷ encode 4 1 ∷ encode 8 40 ∷ encode 1 8 ∷ encode 4 0 ∷ encode 4 1
    ∷ []

forward_1_39 : (t2 : ℕ) → Traced K 2 1 39 t2 found_letters 451 (Verdict.found 10 3) forward_1_39_records forward_1_39_bytes (letter_O ∷ letter_O ∷ letter_O ∷ [])
unfolding computed log_answer answer records_part hashed_in_check trace_strings path_strings incoming_strings outgoing_strings incoming_string_of outgoing_string_of incoming_string outgoing_string links_string
forward_1_39 t2 = traced (log-bytes K) K K-sound 2 1 39 t2 (one (asked at_or_before (trace_of forward) 1 39)) refl refl refl refl refl refl refl refl refl refl

-- "2, 20, forward: S 2 20; T 2 30, 0; D 1 40 kind 8, 1. 446 bytes."
abbrev forward_2_20_records : List VersionNode
forward_2_20_records = node 2 20 [] ∷ node 2 30 (temporal 0 ∷ []) ∷ node 1 40 (dependency 8 1 ∷ []) ∷ []

abbrev forward_2_20_bytes : List Bytes
forward_2_20_bytes =
    (letter_S ∷ []) ∷ encode 4 2 ∷ encode 8 20
    ∷ (letter_T ∷ []) ∷ encode 4 2 ∷ encode 8 30 ∷ encode 4 0
    ∷ (letter_D ∷ []) ∷ encode 4 1 ∷ encode 8 40 ∷ encode 1 8 ∷ encode 4 1
    ∷ []

forward_2_20 : (t2 : ℕ) → Traced K 2 2 20 t2 found_letters 446 (Verdict.found 20 3) forward_2_20_records forward_2_20_bytes (letter_O ∷ letter_O ∷ letter_O ∷ [])
unfolding computed log_answer answer records_part hashed_in_check trace_strings path_strings incoming_strings outgoing_strings incoming_string_of outgoing_string_of incoming_string outgoing_string links_string
forward_2_20 t2 = traced (log-bytes K) K K-sound 2 2 20 t2 (one (asked at_or_before (trace_of forward) 2 20)) refl refl refl refl refl refl refl refl refl refl

-- ---- cases without a trace, in all three directions of a relation

one_inj : {q r : VersionQuestion} → one q ≡ one r → q ≡ r
one_inj e = cc

all_is_not_one : {q : VersionQuestion} {p : SpanQuestion} → all p ≡ one q → ⊥
all_is_not_one e = let z : ◌≡◌ {A = ℕ} 0 1 = cc in omega arith

-- every known question for one version has the form that the theorems speak of
question-asked : (direction s t t2 : ℕ) (q : VersionQuestion) → question direction s t t2 ≡ ok (one q) → (r : Relation) × (p : Part) × (q ≡ asked r p s t)
unfolding question
question-asked zero s t t2 q e = (at_or_before, version_only, one_inj (sym (ok_inj e)))
question-asked (suc zero) s t t2 q e = (at_or_before, trace_of backward, one_inj (sym (ok_inj e)))
question-asked (suc (suc zero)) s t t2 q e = (at_or_before, trace_of forward, one_inj (sym (ok_inj e)))
question-asked (suc (suc (suc zero))) s t t2 q e = (at_or_after, version_only, one_inj (sym (ok_inj e)))
question-asked (suc (suc (suc (suc zero)))) s t t2 q e = (at_or_after, trace_of backward, one_inj (sym (ok_inj e)))
question-asked (suc (suc (suc (suc (suc zero))))) s t t2 q e = (at_or_after, trace_of forward, one_inj (sym (ok_inj e)))
question-asked (suc (suc (suc (suc (suc (suc zero)))))) s t t2 q e = absurd (all_is_not_one (ok_inj (past _ _ _ _ e).1))
question-asked (suc (suc (suc (suc (suc (suc (suc d))))))) s t t2 q e = refuse≢ok e

-- with no work area
pub record Untraced (rs : List Record) (s t t2 : ℕ) (letters : List ℕ) (long : ℕ) (v : Verdict) (direction : ℕ) (q : Question) : Type 0 where
  pub the_letters : letters_of (proof (log_header rs) (graph rs) q).opened ≡ letters
  pub the_length : length (log_answer rs q) ≡ long
  pub run_of : Accepted
  pub accepted : run direction s t t2 (log_commitment rs) (log_answer rs q) 0 ≡ ok run_of
  pub the_verdict : run_of.verdict ≡ v
  pub no_records : run_of.records ≡ []

-- a case by what is computed of it
untraced : (log : Bytes) (rs : List Record) (l : SoundLog log rs) (direction s t t2 : ℕ) (ask : Question) (known : question direction s t t2 ≡ ok ask)
    {letters : List ℕ} {long : ℕ} {v : Verdict}
    → letters_of (the_proof rs ask).opened ≡ letters → the_size rs ask ≡ long → work-room rs ask 0 ≡ ok tt
    → (the_accepted rs ask).verdict ≡ v → (the_accepted rs ask).records ≡ []
    → Untraced rs s t t2 letters long v direction ask
untraced log rs l direction s t t2 ask known a b c d e =
    record {
      the_letters = a;
      the_length = answer-length log rs l direction s t t2 ask known ∙ b;
      run_of = the_accepted rs ask;
      accepted = run_accepts log rs l direction s t t2 ask known 0 c;
      the_verdict = d;
      no_records = e;
    }

-- in every direction of a relation: 0 to 2, or 3 to 5
abbrev InDirections : Relation → List Record → ℕ → ℕ → List ℕ → ℕ → Verdict → Type 0
InDirections r rs s t letters long v =
    (direction t2 : ℕ) (q : VersionQuestion) → question direction s t t2 ≡ ok (one q) → q.relation ≡ r → Untraced rs s t t2 letters long v direction (one q)

in_directions : (log : Bytes) (rs : List Record) (l : SoundLog log rs) (r : Relation) (s t : ℕ) {letters : List ℕ} {long : ℕ} {v : Verdict}
    → ((p : Part) → letters_of (the_proof rs (one (asked r p s t))).opened ≡ letters) → ((p : Part) → the_size rs (one (asked r p s t)) ≡ long)
    → ((p : Part) → work-room rs (one (asked r p s t)) 0 ≡ ok tt)
    → ((p : Part) → (the_accepted rs (one (asked r p s t))).verdict ≡ v) → ((p : Part) → (the_accepted rs (one (asked r p s t))).records ≡ [])
    → InDirections r rs s t letters long v
in_directions log rs l r s t {letters} {long} {v} a b c d e direction t2 q known by_r = go (question-asked direction s t t2 q known)
  where
    go : (r' : Relation) × (p : Part) × (q ≡ asked r' p s t) → Untraced rs s t t2 letters long v direction (one q)
    go z =
        let p = z.1 in
        let is : q ≡ asked r p s t = z.2 ∙ ap (λ (x : Relation). asked x p s t) (sym (ap (λ (x : VersionQuestion). x.relation) z.2) ∙ by_r) in
        let k = known ∙ ap (λ (x : VersionQuestion). ok (one x)) is in
        subst (λ (x : VersionQuestion). Untraced rs s t t2 letters long v direction (one x)) (sym is)
        (untraced log rs l direction s t t2 (one (asked r p s t)) k (a p) (b p) (c p) (d p) (e p))

-- "2, 19: not yet, 219 bytes", with the entity's first time
not_yet_2_19 : InDirections at_or_before K 2 19 (letter_R ∷ letter_P ∷ letter_G ∷ []) 219 (Verdict.not_found (not_yet 20))
unfolding computed
not_yet_2_19 = in_directions (log-bytes K) K K-sound at_or_before 2 19 (λ p. refl) (λ p. refl) (λ p. refl) (λ p. refl) (λ p. refl)

-- "3 and 0: no entity, 65 bytes", by both relations
no_entity_3 : (r : Relation) (t : ℕ) → InDirections r K 3 t (letter_R ∷ []) 65 (Verdict.not_found no_entity)
unfolding computed
no_entity_3 r t = in_directions (log-bytes K) K K-sound r 3 t (λ p. refl) (λ p. refl) (λ p. refl) (λ p. refl) (λ p. refl)

no_entity_0 : (r : Relation) (t : ℕ) → InDirections r K 0 t (letter_R ∷ []) 65 (Verdict.not_found no_entity)
unfolding computed
no_entity_0 r t = in_directions (log-bytes K) K K-sound r 0 t (λ p. refl) (λ p. refl) (λ p. refl) (λ p. refl) (λ p. refl)

-- "Births 1 and 5 only, asked 3: R and P, 162 bytes."
between_births : (r : Relation) (t : ℕ) → InDirections r two_births 3 t (letter_R ∷ letter_P ∷ []) 162 (Verdict.not_found no_entity)
unfolding computed
between_births r t = in_directions (log-bytes two_births) two_births two_births_sound r 3 t (λ p. refl) (λ p. refl) (λ p. refl) (λ p. refl) (λ p. refl)

-- ---- looking ahead, on K: not among document 01's cases

-- 2, 31: none so late, with the entity's last time, 219 bytes
none_so_late_2_31 : InDirections at_or_after K 2 31 (letter_R ∷ letter_P ∷ letter_G ∷ []) 219 (Verdict.not_found (none_so_late 30))
unfolding computed
none_so_late_2_31 = in_directions (log-bytes K) K K-sound at_or_after 2 31 (λ p. refl) (λ p. refl) (λ p. refl) (λ p. refl) (λ p. refl)

-- 2, 21, backward: 2 at 30, with the records of 2, 35, backward
backward_2_21 : (t2 : ℕ) → Traced K 4 2 21 t2 found_letters 446 (Verdict.found 30 3) backward_2_35_records backward_2_35_bytes (letter_I ∷ letter_I ∷ letter_I ∷ [])
unfolding computed log_answer answer records_part hashed_in_check trace_strings path_strings incoming_strings outgoing_strings incoming_string_of outgoing_string_of incoming_string outgoing_string links_string
backward_2_21 t2 = traced (log-bytes K) K K-sound 4 2 21 t2 (one (asked at_or_after (trace_of backward) 2 21)) refl refl refl refl refl refl refl refl refl refl

-- 2, 21, forward: S 2 30; D 1 40 kind 8, 0. 429 bytes.
abbrev forward_2_21_records : List VersionNode
forward_2_21_records = node 2 30 [] ∷ node 1 40 (dependency 8 0 ∷ []) ∷ []

abbrev forward_2_21_bytes : List Bytes
forward_2_21_bytes =
    (letter_S ∷ []) ∷ encode 4 2 ∷ encode 8 30
    ∷ (letter_D ∷ []) ∷ encode 4 1 ∷ encode 8 40 ∷ encode 1 8 ∷ encode 4 0
    ∷ []

forward_2_21 : (t2 : ℕ) → Traced K 5 2 21 t2 found_letters 429 (Verdict.found 30 2) forward_2_21_records forward_2_21_bytes (letter_O ∷ letter_O ∷ [])
unfolding computed log_answer answer records_part hashed_in_check trace_strings path_strings incoming_strings outgoing_strings incoming_string_of outgoing_string_of incoming_string outgoing_string links_string
forward_2_21 t2 = traced (log-bytes K) K K-sound 5 2 21 t2 (one (asked at_or_after (trace_of forward) 2 21)) refl refl refl refl refl refl refl refl refl refl

-- 1, 0: 1 at 10, which is after 0
only_1_0 : (t2 : ℕ) → Untraced K 1 0 t2 found_letters 393 (Verdict.found 10 0) 3 (one (asked at_or_after version_only 1 0))
unfolding computed
only_1_0 t2 = untraced (log-bytes K) K K-sound 3 1 0 t2 (one (asked at_or_after version_only 1 0)) refl refl refl refl refl refl

-- 1, 10, forward: 1 at 10 itself, with the records of 1, 39, forward
forward_1_10 : (t2 : ℕ) → Traced K 5 1 10 t2 found_letters 451 (Verdict.found 10 3) forward_1_39_records forward_1_39_bytes (letter_O ∷ letter_O ∷ letter_O ∷ [])
unfolding computed log_answer answer records_part hashed_in_check trace_strings path_strings incoming_strings outgoing_strings incoming_string_of outgoing_string_of incoming_string outgoing_string links_string
forward_1_10 t2 = traced (log-bytes K) K K-sound 5 1 10 t2 (one (asked at_or_after (trace_of forward) 1 10)) refl refl refl refl refl refl refl refl refl refl

-- 1, 11, forward: S 1 40. 411 bytes.
forward_1_11 : (t2 : ℕ) → Traced K 5 1 11 t2 found_letters 411 (Verdict.found 40 1) (node 1 40 [] ∷ []) ((letter_S ∷ []) ∷ encode 4 1 ∷ encode 8 40 ∷ []) (letter_O ∷ [])
unfolding computed log_answer answer records_part hashed_in_check trace_strings path_strings incoming_strings outgoing_strings incoming_string_of outgoing_string_of incoming_string outgoing_string links_string
forward_1_11 t2 = traced (log-bytes K) K K-sound 5 1 11 t2 (one (asked at_or_after (trace_of forward) 1 11)) refl refl refl refl refl refl refl refl refl refl

-- ---- all versions between two times, on K: not among document 01's cases

-- the proof's letters and the answer's length; with no work area and 12 bytes of output a version the check accepts with this list, and the
-- call writes these bytes over the output's first; with fewer it meets 13
pub record ListCase (rs : List Record) (s t t2 : ℕ) (letters : List ℕ) (long : ℕ) (names : List VersionName) (bytes : Bytes) : Type 0 where
  pub known : question 6 s t t2 ≡ ok (all (spanned s t t2))
  pub the_letters : letters_of (proof (log_header rs) (graph rs) (all (spanned s t t2))).opened ≡ letters
  pub the_length : length (log_answer rs (all (spanned s t t2))) ≡ long
  pub run_of : Accepted
  pub accepted : (out : ℕ) → 12 * length names ≤ out → run_into 6 s t t2 (log_commitment rs) (log_answer rs (all (spanned s t t2))) 0 out ≡ ok run_of
  pub the_verdict : run_of.verdict ≡ Verdict.listed names
  pub no_records : run_of.records ≡ []
  pub written-bytes : list_string run_of.verdict ≡ bytes
  pub too_short : (out : ℕ) → out < 12 * length names → run_into 6 s t t2 (log_commitment rs) (log_answer rs (all (spanned s t t2))) 0 out ≡ refuse 13 0

-- a case by what is computed of it
list_case : (log : Bytes) (rs : List Record) (l : SoundLog log rs) (s t t2 : ℕ) (known : question 6 s t t2 ≡ ok (all (spanned s t t2)))
    {letters : List ℕ} {long : ℕ} {names : List VersionName} {bytes : Bytes}
    → letters_of (the_proof rs (all (spanned s t t2))).opened ≡ letters → the_size rs (all (spanned s t t2)) ≡ long → work-room rs (all (spanned s t t2)) 0 ≡ ok tt
    → (the_accepted rs (all (spanned s t t2))).verdict ≡ Verdict.listed names → (the_accepted rs (all (spanned s t t2))).records ≡ []
    → list_string (the_accepted rs (all (spanned s t t2))).verdict ≡ bytes
    → ListCase rs s t t2 letters long names bytes
unfolding run_into room
list_case log rs l s t t2 known {names = names} a b c d e f =
    let q = all (spanned s t t2) in
    let ran = run_accepts log rs l 6 s t t2 q known 0 c in
    let size : length (list_string (the_accepted rs q).verdict) ≡ 12 * length names = ap (λ (v : Verdict). length (list_string v)) d ∙ list_length names in
    record {
      known = known;
      the_letters = a;
      the_length = answer-length log rs l 6 s t t2 q known ∙ b;
      run_of = the_accepted rs q;
      accepted = λ out h. bind_eq _ _ _ ran ∙ pass _ 13 0 _ (le→leb _ out (omega (arith, size)));
      the_verdict = d;
      no_records = e;
      written-bytes = f;
      too_short = λ out h.
          bind_eq _ _ _ ran
          ∙ bind_refused _ _ 13 0 (need_no _ 13 0 (not_T (leb (length (list_string (the_accepted rs q).verdict)) out) (λ z. let k = leb→le (length (list_string (the_accepted rs q).verdict)) out z in omega (arith, size))));
    }

-- 1, 10 to 40: ends included, both versions; R, P, G, N, L, L
abbrev pub both_of_1 : List VersionName
both_of_1 = record { entity = 1; time = 10 } ∷ record { entity = 1; time = 40 } ∷ []

list_1_10_40 : ListCase K 1 10 40 (letter_R ∷ letter_P ∷ letter_G ∷ letter_N ∷ letter_L ∷ letter_L ∷ []) 470 both_of_1 (joined (encode 4 1 ∷ encode 8 10 ∷ encode 4 1 ∷ encode 8 40 ∷ []))
unfolding computed name_string list_string
list_1_10_40 = list_case (log-bytes K) K K-sound 1 10 40 refl refl refl refl refl refl refl

-- 2, 20 to 29: the first alone; R, P, G, N, L
abbrev first_of_2 : List VersionName
first_of_2 = record { entity = 2; time = 20 } ∷ []

list_2_20_29 : ListCase K 2 20 29 (letter_R ∷ letter_P ∷ letter_G ∷ letter_N ∷ letter_L ∷ []) 393 first_of_2 (joined (encode 4 2 ∷ encode 8 20 ∷ []))
unfolding computed name_string list_string
list_2_20_29 = list_case (log-bytes K) K K-sound 2 20 29 refl refl refl refl refl refl refl

-- 2, 21 to 29: between its versions, an empty list; R, P, G, N
list_2_21_29 : ListCase K 2 21 29 (letter_R ∷ letter_P ∷ letter_G ∷ letter_N ∷ []) 316 [] []
unfolding computed name_string list_string
list_2_21_29 = list_case (log-bytes K) K K-sound 2 21 29 refl refl refl refl refl refl refl

-- 2, 31 to 99: after its last, an empty list; R, P, G
list_2_31_99 : ListCase K 2 31 99 (letter_R ∷ letter_P ∷ letter_G ∷ []) 219 [] []
unfolding computed name_string list_string
list_2_31_99 = list_case (log-bytes K) K K-sound 2 31 99 refl refl refl refl refl refl refl

-- 3: no entity, as in every other direction; nothing is written, and no output is needed
no_list_of_3 : (t t2 : ℕ) → t ≤ t2 → Untraced K 3 t t2 (letter_R ∷ []) 65 (Verdict.not_found no_entity) 6 (all (spanned 3 t t2))
unfolding computed
no_list_of_3 t t2 h = untraced (log-bytes K) K K-sound 6 3 t t2 (all (spanned 3 t t2)) (known_span 3 t t2 h) refl refl refl refl refl

no_output_for_3 : (t t2 : ℕ) → t ≤ t2 → (check_call 6 3 t t2 (log_commitment K) (log_answer K (all (spanned 3 t t2))) [] []).result ≡ ok (Verdict.not_found no_entity)
unfolding computed nearest_from list_at list_verdict true_verdict room list_string
no_output_for_3 t t2 h = check_complete (log-bytes K) K K-sound 6 3 t t2 (all (spanned 3 t t2)) (known_span 3 t t2 h) [] []

-- ---- logs that are turned away

-- "Second time 10: 5 at 13."
second_time : read_log (log-bytes (birth 1 10 ∷ birth 2 10 ∷ flow 1 2 7 30 ∷ flow 2 1 8 40 ∷ [])) ≡ refuse 5 13
unfolding computed
second_time = refl

-- "K, then flow 1 to 1 kind 7 at 50: 9 at 62."
flow_to_itself : read_log (log-bytes (K ++ (flow 1 1 7 50 ∷ []))) ≡ refuse 9 62
unfolding computed
flow_to_itself = refl

-- "A log that begins with a flow: 7 at 0", whatever the flow's operands and whatever follows it
flow-first : (x : Bytes) → get_or x 0 0 ≡ FLOW → 18 ≤ length x → read_log x ≡ refuse 7 0
unfolding read_log log_within log_by records_from next_record parse ends_rows births last_time need ◌>>=◌
flow-first x c h =
    pass (leb 1 (length x)) 1 0 _ (le→leb 1 (length x) (omega arith))
    ∙ records-next record_limit [] 0 x (omega arith)
    ∙ bind_refused (next_record record_limit [] 0 x) _ 7 0
    (bind_eq (parse x 0) _ _ parsed)
  where
    parsed : parse x 0 ≡ ok (flow (field 4 x 1) (field 4 x 5) (field 1 x 9) (field 8 x 10))
    parsed =
        ap (λ (b : ℕ). cond (eqb b BIRTH) (need (leb 13 (length x)) 4 0 >>= λ _. ok (birth (field 4 x 1) (field 8 x 5)))
        (cond (eqb b FLOW) (need (leb 18 (length x)) 4 0 >>= λ _. ok (flow (field 4 x 1) (field 4 x 5) (field 1 x 9) (field 8 x 10))) (refuse 3 0))) c
        ∙ pass (leb 18 (length x)) 4 0 _ (le→leb 18 (length x) h)

-- ---- the table

pub record StarredCases : Type 0 where
  pub one : (t2 : ℕ) → Traced K 1 2 35 t2 found_letters 446 (Verdict.found 30 3) backward_2_35_records backward_2_35_bytes (letter_I ∷ letter_I ∷ letter_I ∷ [])
  pub two : (t2 : ℕ) → Traced K 2 1 39 t2 found_letters 451 (Verdict.found 10 3) forward_1_39_records forward_1_39_bytes (letter_O ∷ letter_O ∷ letter_O ∷ [])
  pub three : (t2 : ℕ) → Traced K 2 2 20 t2 found_letters 446 (Verdict.found 20 3) forward_2_20_records forward_2_20_bytes (letter_O ∷ letter_O ∷ letter_O ∷ [])
  pub four : InDirections at_or_before K 2 19 (letter_R ∷ letter_P ∷ letter_G ∷ []) 219 (Verdict.not_found (not_yet 20))
  pub five : (r : Relation) (t : ℕ) → InDirections r K 3 t (letter_R ∷ []) 65 (Verdict.not_found no_entity)
  pub six : (r : Relation) (t : ℕ) → InDirections r K 0 t (letter_R ∷ []) 65 (Verdict.not_found no_entity)
  pub seven : (r : Relation) (t : ℕ) → InDirections r two_births 3 t (letter_R ∷ letter_P ∷ []) 162 (Verdict.not_found no_entity)
  pub eight : read_log (log-bytes (birth 1 10 ∷ birth 2 10 ∷ flow 1 2 7 30 ∷ flow 2 1 8 40 ∷ [])) ≡ refuse 5 13
  pub nine : read_log (log-bytes (K ++ (flow 1 1 7 50 ∷ []))) ≡ refuse 9 62
  pub ten : (x : Bytes) → get_or x 0 0 ≡ FLOW → 18 ≤ length x → read_log x ≡ refuse 7 0

pub starred_cases : StarredCases
starred_cases =
    record {
      one = backward_2_35;
      two = forward_1_39;
      three = forward_2_20;
      four = not_yet_2_19;
      five = no_entity_3;
      six = no_entity_0;
      seven = between_births;
      eight = second_time;
      nine = flow_to_itself;
      ten = flow-first;
    }

-- ---- the table of looking ahead

pub record AheadCases : Type 0 where
  pub one : (t2 : ℕ) → Traced K 4 2 21 t2 found_letters 446 (Verdict.found 30 3) backward_2_35_records backward_2_35_bytes (letter_I ∷ letter_I ∷ letter_I ∷ [])
  pub two : (t2 : ℕ) → Traced K 5 2 21 t2 found_letters 429 (Verdict.found 30 2) forward_2_21_records forward_2_21_bytes (letter_O ∷ letter_O ∷ [])
  pub three : InDirections at_or_after K 2 31 (letter_R ∷ letter_P ∷ letter_G ∷ []) 219 (Verdict.not_found (none_so_late 30))
  pub four : (t2 : ℕ) → Untraced K 1 0 t2 found_letters 393 (Verdict.found 10 0) 3 (Question.one (asked at_or_after version_only 1 0))
  pub five : (t2 : ℕ) → Traced K 5 1 10 t2 found_letters 451 (Verdict.found 10 3) forward_1_39_records forward_1_39_bytes (letter_O ∷ letter_O ∷ letter_O ∷ [])
  pub six : (t2 : ℕ) → Traced K 5 1 11 t2 found_letters 411 (Verdict.found 40 1) (node 1 40 [] ∷ []) ((letter_S ∷ []) ∷ encode 4 1 ∷ encode 8 40 ∷ []) (letter_O ∷ [])
  pub seven : InDirections at_or_after K 3 0 (letter_R ∷ []) 65 (Verdict.not_found no_entity)

pub ahead_cases : AheadCases
ahead_cases =
    record {
      one = backward_2_21;
      two = forward_2_21;
      three = none_so_late_2_31;
      four = only_1_0;
      five = forward_1_10;
      six = forward_1_11;
      seven = no_entity_3 at_or_after 0;
    }

-- ---- the table of lists

pub record ListCases : Type 0 where
  pub one : ListCase K 1 10 40 (letter_R ∷ letter_P ∷ letter_G ∷ letter_N ∷ letter_L ∷ letter_L ∷ []) 470 both_of_1 (joined (encode 4 1 ∷ encode 8 10 ∷ encode 4 1 ∷ encode 8 40 ∷ []))
  pub two : ListCase K 2 20 29 (letter_R ∷ letter_P ∷ letter_G ∷ letter_N ∷ letter_L ∷ []) 393 first_of_2 (joined (encode 4 2 ∷ encode 8 20 ∷ []))
  pub three : ListCase K 2 21 29 (letter_R ∷ letter_P ∷ letter_G ∷ letter_N ∷ []) 316 [] []
  pub four : ListCase K 2 31 99 (letter_R ∷ letter_P ∷ letter_G ∷ []) 219 [] []
  pub five : (t t2 : ℕ) → t ≤ t2 → Untraced K 3 t t2 (letter_R ∷ []) 65 (Verdict.not_found no_entity) 6 (all (spanned 3 t t2))
  pub six : (t t2 : ℕ) → t ≤ t2 → (check_call 6 3 t t2 (log_commitment K) (log_answer K (all (spanned 3 t t2))) [] []).result ≡ ok (Verdict.not_found no_entity)

pub list_cases : ListCases
list_cases =
    record {
      one = list_1_10_40;
      two = list_2_20_29;
      three = list_2_21_29;
      four = list_2_31_99;
      five = no_list_of_3;
      six = no_output_for_3;
    }

-- ---- rows of the log; a row that comes first wins

pub rows_of_the_log :
    (read_log [] ≡ refuse 1 0)
    × ((x : Bytes) → read_log x ≡ log_within 65535 x)
    × (log_within 4 (log-bytes K) ≡ ok K)
    × (log_within 3 (log-bytes K) ≡ refuse 2 44)
    × (log_within 1 (log-bytes (birth 1 10 ∷ []) ++ (0 ∷ [])) ≡ refuse 2 13)
    × (read_log (0 ∷ []) ≡ refuse 3 0)
    × (read_log (BIRTH ∷ []) ≡ refuse 4 0)
    × (read_log (log-bytes (birth 0 0 ∷ [])) ≡ ok (birth 0 0 ∷ []))
    × (read_log (log-bytes (birth 2 10 ∷ birth 1 10 ∷ [])) ≡ refuse 5 13)
    × (read_log (log-bytes (birth 2 10 ∷ birth 1 20 ∷ [])) ≡ refuse 6 13)
    × (read_log (log-bytes (birth 1 10 ∷ flow 2 2 7 20 ∷ [])) ≡ refuse 7 13)
    × (read_log (log-bytes (birth 1 10 ∷ flow 1 2 7 20 ∷ [])) ≡ refuse 8 13)
unfolding computed
rows_of_the_log = (refl, (λ x. refl), refl, refl, refl, refl, refl, refl, refl, refl, refl, refl)

-- ---- rows of the check that no hash comes before, on K's first question: the trace at byte 393 of its answer

abbrev first-trace : Bytes
first-trace = letter_B ∷ joined (encode 4 3 ∷ backward_2_35_bytes)

-- the same with another count
abbrev counting-records : ℕ → Bytes
counting-records n = letter_B ∷ joined (encode 4 n ∷ backward_2_35_bytes)

-- three records, none of which refers to another: the lowest is named
abbrev idle_trace : Bytes
idle_trace =
    letter_B ∷ joined
    (encode 4 3
    ∷ (letter_E ∷ []) ∷ encode 4 1 ∷ encode 8 10
    ∷ (letter_E ∷ []) ∷ encode 4 2 ∷ encode 8 20
    ∷ (letter_E ∷ []) ∷ encode 4 2 ∷ encode 8 30
    ∷ [])

-- the trace's bytes read, and judged against a leaf 2 30
abbrev read_first : Bytes → ℕ → Result CheckedTrace
read_first x work = read_trace backward work 393 x

abbrev judge_first : Bytes → Result Accepted
judge_first x =
    with_trace backward 384 (record { end = SearchEnd.not_found no_entity; opened = []; pos = 393; rest = x })
    (record { entity = 2; time = 30; incoming = []; outgoing = [] })

-- a known subtree in which N is due, if one more may stand on the path
abbrev two_keys : Subtree
two_keys = record { least = 20; greatest = 30; digest = [] }

pub rows_of_the_check :
    (run 7 2 35 0 [] [] 0 ≡ refuse 11 0)
    × (run 6 2 35 34 [] [] 0 ≡ refuse 25 0)
    × (run 6 2 35 35 [] [] 0 ≡ refuse 14 0)
    × (path_limit ≡ 16)
    × (check_all (within (spanned 2 20 30)) 0 two_keys 219 [] ≡ refuse 15 219)
    × (check_all (within (spanned 2 20 30)) 0 two_keys 219 (letter_N ∷ []) ≡ refuse 16 219)
    × (check_all (within (spanned 2 20 30)) 0 two_keys 219 (letter_L ∷ []) ≡ refuse 16 219)
    × (check_all (within (spanned 2 20 30)) 1 two_keys 219 (letter_N ∷ []) ≡ refuse 15 219)
    × (check_all (within (spanned 2 20 30)) 1 two_keys 219 (letter_L ∷ []) ≡ refuse 16 219)
    × (check_all (within (spanned 2 31 40)) 0 two_keys 219 [] ≡ ok (none_opened 219 []))
    × (run 1 2 35 0 [] [] 0 ≡ refuse 14 0)
    × (run 1 2 35 0 (encode 32 0) [] 0 ≡ refuse 15 0)
    × (run 1 2 35 0 (encode 32 0) (letter_P ∷ []) 0 ≡ refuse 16 0)
    × (run 1 2 35 0 (encode 32 0) (letter_R ∷ []) 0 ≡ refuse 15 0)
    × (read_first [] 384 ≡ refuse 15 393)
    × (read_first (set first-trace 0 letter_F) 384 ≡ refuse 16 393)
    × (read_first (take 4 first-trace) 384 ≡ refuse 15 393)
    × (read_first (set first-trace 4 0) 0 ≡ refuse 19 393)
    × (read_first (counting-records 65536) 0 ≡ refuse 19 393)
    × (read_first (counting-records 65535) 384 ≡ refuse 12 0)
    × (read_first first-trace 383 ≡ refuse 12 0)
    × (read_first (set first-trace 5 letter_S) 384 ≡ refuse 16 398)
    × (read_first (set first-trace 5 letter_V) 384 ≡ refuse 20 398)
    × (read_first (take 52 first-trace) 384 ≡ refuse 15 424)
    × (read_first (set first-trace 48 2) 384 ≡ refuse 20 424)
    × (read_first (set first-trace 43 20) 384 ≡ refuse 21 424)
    × (read_first (set (set first-trace 48 2) 43 20) 384 ≡ refuse 20 424)
    × (read_first (set first-trace 30 10) 384 ≡ refuse 21 411)
    × (judge_first (first-trace ++ (0 ∷ [])) ≡ refuse 18 446)
    × (judge_first (set first-trace 52 1) ≡ refuse 22 398)
    × (judge_first idle_trace ≡ refuse 22 398)
    × (judge_first (set first-trace 43 31) ≡ refuse 23 424)
unfolding computed run run_under check_proof take_string equal due shown_edges shown_record all_below read_record last_shown read_records read_trace referred_to first_unreferenced unreferenced found_position trace_rows with_trace none_due check_leaf check_all
rows_of_the_check =
    (refl, refl, refl, refl, refl, refl, refl, refl, refl, refl, refl, refl, refl, refl, refl, refl, refl, refl, refl, refl, refl, refl, refl, refl, refl, refl, refl, refl, refl, refl, refl, refl)

-- what the listing program prints for K
pub K-listing : listing (log-bytes K)
    ≡ joined
    (line ((49 ∷ []) ∷ (49 ∷ 48 ∷ []) ∷ birth_word ∷ [])
    ∷ line ((50 ∷ []) ∷ (50 ∷ 48 ∷ []) ∷ birth_word ∷ [])
    ∷ line ((50 ∷ []) ∷ (51 ∷ 48 ∷ []) ∷ flow_word ∷ (55 ∷ []) ∷ from_word ∷ (49 ∷ []) ∷ (49 ∷ 48 ∷ []) ∷ [])
    ∷ line ((49 ∷ []) ∷ (52 ∷ 48 ∷ []) ∷ flow_word ∷ (56 ∷ []) ∷ from_word ∷ (50 ∷ []) ∷ (51 ∷ 48 ∷ []) ∷ [])
    ∷ [])
unfolding computed listing listing_within listed too_long version_line made_by line decimal decimal_within
K-listing = refl

-- its limits, and those of other logs: the last record and byte that are let in, the first that are not; a row that is met before that
-- record is printed, one that is met at it is not
pub listing_limits :
    ((x : Bytes) → listing x ≡ listing_within 9216 512 x)
    × (listing_within 62 4 (log-bytes K) ≡ listing (log-bytes K))
    × (listing_within 61 4 (log-bytes K) ≡ too_long)
    × (listing_within 62 3 (log-bytes K) ≡ too_long)
    × (listing (log-bytes (K ++ (flow 1 1 7 50 ∷ []))) ≡ line (refused_word ∷ (57 ∷ []) ∷ at_word ∷ (54 ∷ 50 ∷ []) ∷ []))
    × (listing_within 9216 5 (log-bytes (K ++ (flow 1 1 7 50 ∷ []))) ≡ line (refused_word ∷ (57 ∷ []) ∷ at_word ∷ (54 ∷ 50 ∷ []) ∷ []))
    × (listing_within 9216 4 (log-bytes (K ++ (flow 1 1 7 50 ∷ []))) ≡ too_long)
    × (listing [] ≡ line (refused_word ∷ (49 ∷ []) ∷ at_word ∷ (48 ∷ []) ∷ []))
unfolding computed listing listing_within listed too_long version_line made_by line decimal decimal_within
listing_limits = ((λ x. refl), refl, refl, refl, refl, refl, refl, refl)

-- ---- rows of the calls, and what is left where one is met

abbrev zeros : ℕ → Bytes
zeros n = replicate n 0

-- 13, by the number of bytes to write
fitting_by : (out y : Bytes) (n : ℕ) → length y ≡ n → fitting out y ≡ (need (leb n (length out)) 13 0 >>= λ _. ok y)
unfolding fitting
fitting_by out y n e = ap (λ (k : ℕ). need (leb k (length out)) 13 0 >>= λ _. ok y) e

module _ (message out : Bytes) where
  hash_by : hash_call message out ≡ writing (λ _. tt) (need (leb 32 (length out)) 13 0 >>= λ _. ok (H message)) out []
  unfolding hash_call
  hash_by = ap (λ (r : Result Bytes). writing (λ _. tt) r out []) (fitting_by out (H message) 32 (H-length message))

module _ (out work : Bytes) (enough-work : leb 512 (length work) ≡ true) where
  commitment_by : commitment_call (log-bytes K) out work ≡ writing (λ _. tt) (need (leb 32 (length out)) 13 0 >>= λ _. ok (log_commitment K)) out work
  unfolding computed commitment_call commitment_bytes log_commitment commitment
  commitment_by =
      ap (λ (b : Bool). writing (λ _. tt) (need b 12 0 >>= λ _. fitting out (log_commitment K)) out work) enough-work
      ∙ ap (λ (r : Result Bytes). writing (λ _. tt) r out work) (fitting_by out (log_commitment K) 32 (H-length _))

  answer_by : (t2 : ℕ) (q : Question) → question 1 2 35 t2 ≡ ok q → length (log_answer K q) ≡ 446
      → answer_call 1 2 35 t2 (log-bytes K) out work ≡ writing length (need (leb 446 (length out)) 13 0 >>= λ _. ok (log_answer K q)) out work
  unfolding computed answer_call answer_bytes
  answer_by t2 q known long =
      ap (λ (b : Bool). writing length (need b 12 0 >>= λ _. fitting out (log_answer K (one (asked at_or_before (trace_of backward) 2 35)))) out work) enough-work
      ∙ ap (λ (z : Question). writing length (fitting out (log_answer K z)) out work) (ok_inj known)
      ∙ ap (λ (r : Result Bytes). writing length r out work) (fitting_by out (log_answer K q) 446 long)

-- "Answer: 11, log, 12, 13", 25 "directly after 11"; "Commitment: log, 12, 13"; an empty part where the check refuses
pub rows_of_the_calls :
    ((m : Bytes) → (hash_call m (zeros 31)).result ≡ refuse 13 0)
    × ((m : Bytes) → (hash_call m (zeros 32)).result ≡ ok tt)
    × ((commitment_call [] [] []).result ≡ refuse 1 0)
    × ((commitment_call (log-bytes K) (zeros 31) (zeros 511)).result ≡ refuse 12 0)
    × ((commitment_call (log-bytes K) (zeros 31) (zeros 512)).result ≡ refuse 13 0)
    × ((commitment_call (log-bytes K) (zeros 31) (zeros 512)).output ≡ zeros 31)
    × ((commitment_call (log-bytes K) (zeros 32) (zeros 512)).result ≡ ok tt)
    × ((answer_call 7 2 35 34 [] [] []).result ≡ refuse 11 0)
    × ((answer_call 6 2 35 34 [] [] []).result ≡ refuse 25 0)
    × ((answer_call 6 2 35 35 [] [] []).result ≡ refuse 1 0)
    × ((answer_call 1 2 35 34 [] [] []).result ≡ refuse 1 0)
    × ((answer_call 1 2 35 34 (log-bytes K) (zeros 445) (zeros 511)).result ≡ refuse 12 0)
    × ((answer_call 1 2 35 34 (log-bytes K) (zeros 445) (zeros 512)).result ≡ refuse 13 0)
    × ((answer_call 1 2 35 34 (log-bytes K) (zeros 446) (zeros 512)).result ≡ ok 446)
    × ((listing_call (log-bytes K) (zeros 65)).result ≡ refuse 13 0)
    × ((listing_call (log-bytes K) (zeros 66)).result ≡ ok 66)
    × ((records_call 7 2 35 35 [] [] []).result ≡ [])
    × ((records_call 1 2 35 34 (log_commitment K) (log_answer K (starred_cases.one 34).q) (zeros 383)).result ≡ [])
unfolding computed hash_call commitment_call commitment_bytes answer_call answer_bytes listing_call records_call records_part writing fitting output_after run listing listing_within listed too_long version_line made_by line decimal decimal_within
rows_of_the_calls =
    let c = starred_cases.one 34 in (
      (λ m. ap (λ (w : Written (Unit {0})). w.result) (hash_by m (zeros 31))),
      (λ m. ap (λ (w : Written (Unit {0})). w.result) (hash_by m (zeros 32))),
      refl,
      refl,
      ap (λ (w : Written (Unit {0})). w.result) (commitment_by (zeros 31) (zeros 512) refl),
      ap (λ (w : Written (Unit {0})). w.output) (commitment_by (zeros 31) (zeros 512) refl),
      ap (λ (w : Written (Unit {0})). w.result) (commitment_by (zeros 32) (zeros 512) refl),
      refl,
      refl,
      refl,
      refl,
      refl,
      ap (λ (w : Written ℕ). w.result) (answer_by (zeros 445) (zeros 512) refl 34 c.q c.known c.the_length),
      ap (λ (w : Written ℕ). w.result) (answer_by (zeros 446) (zeros 512) refl 34 c.q c.known c.the_length) ∙ ap ok c.the_length,
      refl,
      refl,
      refl,
      ap (records_part (log_answer K c.q)) c.too_little,
    )

-- ---- the running recorder, in memory that has place for K's four records

-- the records of K as they are offered
abbrev pub K_offers : List Bytes
K_offers = map record_bytes K

-- "65,535 records are sound, one more gives 2", whatever its bytes
full_turns : (n : ℕ) (rs : List Record) (b : ℕ) (x : Bytes) → length rs ≡ 65535 → offer n rs (b ∷ x) ≡ refuse 2 0
unfolding offer next_record
full_turns n rs b x e =
    pass (leb 1 (length (b ∷ x))) 4 0 _ (le→leb 1 (length (b ∷ x)) (omega arith))
    ∙ bind_refused (next_record 65535 rs 0 (b ∷ x)) _ 2 0 (bind_refused (need (ltb (length rs) 65535) 2 0) _ 2 0 (need_no (ltb (length rs) 65535) 2 0 (subst (λ (k : ℕ). T (not (ltb k 65535))) (sym e) tt)))

-- "A record offered empty meets 4 and never 2, one with bytes after it 18 once sound, and positions count in it. Errors: 26, no place left, at 0 after
-- these, exactly when the lent memory has taken a record for each whole 512 bytes after its first 512, or a fresh start gets fewer than 512."
pub rows_of_the_recorder :
    (start_rows 511 ≡ refuse 26 0)
    × (start_rows 512 ≡ ok tt)
    × ((n : ℕ) (rs : List Record) → offer n rs [] ≡ refuse 4 0)
    × ((n : ℕ) (rs : List Record) (b : ℕ) (x : Bytes) → length rs ≡ 65535 → offer n rs (b ∷ x) ≡ refuse 2 0)
    × (offer 1024 [] (0 ∷ []) ≡ refuse 3 0)
    × (offer 1024 [] (BIRTH ∷ []) ≡ refuse 4 0)
    × (offer 1023 [] (record_bytes (birth 1 10)) ≡ refuse 26 0)
    × (offer 1024 [] (record_bytes (birth 1 10)) ≡ ok (birth 1 10))
    × (offer 1023 [] (record_bytes (birth 1 10) ++ (0 ∷ [])) ≡ refuse 18 13)
    × (offer 2560 K (record_bytes (birth 3 40)) ≡ refuse 5 0)
    × (offer 2560 K (record_bytes (birth 2 50)) ≡ refuse 6 0)
    × (offer 2560 K (record_bytes (flow 3 3 7 50)) ≡ refuse 7 0)
    × (offer 2560 K (record_bytes (flow 1 3 7 50)) ≡ refuse 8 0)
    × (offer 2560 K (record_bytes (flow 1 1 7 50)) ≡ refuse 9 0)
    × (offer 2560 K (record_bytes (flow 1 2 7 50) ++ (0 ∷ [])) ≡ refuse 18 18)
    × (offer 2560 K (record_bytes (flow 1 2 7 50)) ≡ refuse 26 0)
    × (offer 3071 K (record_bytes (flow 1 2 7 50)) ≡ refuse 26 0)
    × (offer 3072 K (record_bytes (flow 1 2 7 50)) ≡ ok (flow 1 2 7 50))
    × (all_taken 2560 K_offers ≡ K)
    × (log_taken 2560 K_offers ≡ log-bytes K)
    × (all_taken 2560 ([] ∷ (K_offers ++ (record_bytes (flow 1 2 7 50) ∷ []))) ≡ K)
    × (log_taken 2560 ([] ∷ (K_offers ++ (record_bytes (flow 1 2 7 50) ∷ []))) ≡ log-bytes K)
    × ((out : Bytes) → recorder_commitment [] out ≡ refuse 1 0)
    × (recorder_commitment K (zeros 31) ≡ refuse 13 0)
    × (recorder_commitment K (zeros 32) ≡ ok (log_commitment K))
unfolding computed start_rows places offer taken_with taken taken_after all_taken kept_bytes log_after log_taken recorder_commitment log_commitment commitment
rows_of_the_recorder = (
  refl,
  refl,
  (λ n rs. refl),
  full_turns,
  refl,
  refl,
  refl,
  refl,
  refl,
  refl,
  refl,
  refl,
  refl,
  refl,
  refl,
  refl,
  refl,
  refl,
  refl,
  refl,
  refl,
  refl,
  (λ out. refl),
  fitting_by (zeros 31) (log_commitment K) 32 (H-length _),
  fitting_by (zeros 32) (log_commitment K) 32 (H-length _),
)
