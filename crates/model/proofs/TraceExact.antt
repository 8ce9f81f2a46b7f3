-- An accepted trace is the defined one, or two strings collide. Assumes nothing.
use mathlib.Core.Path.{◌≡◌, refl, ap, ◌∙◌}
use mathlib.Core.Logic.{◌⊎◌, inl, inr}
use Prim.Native.Nat.{ℕ, suc, ◌+◌, ◌-◌, ◌<◌}
use native.Mathlib.Nat.{zero-add}
use native.Mathlib.Omega.{arith}
use mathlib.Core.Option.{Option, none, some}
use mathlib.Core.List.{List, []}
use lib.ListN.{length, get_or}
use lib.Dec.{T, eqb, eqb→eq}
use Rattle.fields.proofs.Places.{equal_true}
use Rattle.model.specs.Result.{ok}
use Rattle.model.specs.Numbers.{Bytes}
use Rattle.model.specs.Graph.{InEdge, VersionNode, node_at, CausalPath}
use Rattle.model.specs.Digest.{incoming_digests, outgoing_digests}
use Rattle.model.specs.Accumulator.{Leaf, leaf_at}
use Rattle.model.specs.Question.{Way, backward, forward, trace_of}
use Rattle.model.specs.Trace.{trace_versions, induced_subgraph, trace}
use Rattle.model.specs.CheckRows.{CheckedTrace, unreferenced, is_none, found_position, path_digests, leaf_digest, trace_rows, path_strings}
use Rattle.model.specs.Exact.{Exactly, Reached, Collision}
use Rattle.model.proofs.Outcomes.{past, need-ok, and_T}
use Rattle.model.proofs.Lists.{◌among◌, exactly_unique}
use Rattle.model.proofs.Digests.{path_string_in}
use Rattle.model.proofs.Match.{Regular, Matches, Entry}
use Rattle.model.proofs.Search.{refers_in, search_exact_down}
use Rattle.model.proofs.TraceReading.{ReadRecords, records_regular, unreferenced-none}
use Rattle.model.proofs.Backward as Backward
use Rattle.model.proofs.Forward as Forward

none_is : (o : Option ℕ) → T (is_none o) → o ≡ none
none_is none t = refl
none_is (some i) t = absurd t

-- rows 18, 22, 23 and 24 passed
pub record Passed (way : Way) (l : Leaf) (t : CheckedTrace) : Type 0 where
  pub nothing_left : length t.rest ≡ 0
  pub all_referenced : unreferenced way t.records ≡ none
  pub entity-is : (node_at t.records (found_position way t.records)).entity ≡ l.entity
  pub time-is : (node_at t.records (found_position way t.records)).time ≡ l.time
  pub digest-is : get_or (path_digests way t.records) (found_position way t.records) [] ≡ leaf_digest way l

pub rows_passed : (way : Way) (l : Leaf) (t : CheckedTrace) {u : Unit {0}} → trace_rows way l t ≡ ok u → Passed way l t
unfolding trace_rows
rows_passed way l t e =
    let ns = t.records in
    let i = found_position way ns in
    let n = node_at ns i in
    let a = past _ _ _ _ e in
    let b = past _ _ _ _ a.1 in
    let c = past _ _ _ _ b.1 in
    let d = need-ok _ _ _ c.1 in
    let two = and_T (eqb n.entity l.entity) (eqb n.time l.time) c.0 in
    record {
      nothing_left = eqb→eq (length t.rest) 0 a.0;
      all_referenced = none_is (unreferenced way ns) b.0;
      entity-is = eqb→eq n.entity l.entity two.0;
      time-is = eqb→eq n.time l.time two.1;
      digest-is = equal_true (get_or (path_digests way ns) i []) (leaf_digest way l) d;
    }

pub leaf_digest-is : (way : Way) (G : List VersionNode) (v : ℕ) → leaf_digest way (leaf_at G (incoming_digests G) (outgoing_digests G) v) ≡ get_or (path_digests way G) v []
unfolding leaf_digest leaf_at path_digests
leaf_digest-is backward G v = refl
leaf_digest-is forward G v = refl

position_in_range : (way : Way) (ns : List VersionNode) → 0 < length ns → found_position way ns < length ns
unfolding found_position
position_in_range backward ns h = omega arith
position_in_range forward ns h = h

module _ (G : List VersionNode) (r_G : Regular G) (v : ℕ) (hv : v < length G) (t : CheckedTrace) where
  -- the found version's record is the found version
  start : (way : Way) → 0 < length t.records → Passed way (leaf_at G (incoming_digests G) (outgoing_digests G) v) t
      → Matches way t.records G (found_position way t.records) v
  unfolding leaf_at
  start way h p =
      record {
        i_in = position_in_range way t.records h;
        j_in = hv;
        entity-is = p.entity-is;
        time-is = p.time-is;
        digest-is = p.digest-is ∙ leaf_digest-is way G v;
      }

  -- the places gathered are those of the search
  finish : (way : Way) (fs : List ℕ) → Exactly (Reached G v (trace_of way)) fs → t.records ≡ induced_subgraph G fs → t.records ≡ trace way G v
  unfolding trace
  finish way fs e p =
      p ∙ ap (induced_subgraph G) (exactly_unique (Reached G v (trace_of way)) fs (trace_versions way G v) e (search_exact_down G r_G.down way v hv))

  pub trace_exact : {B C : List Bytes} (way : Way) → ReadRecords way t.records → 0 < length t.records → Passed way (leaf_at G (incoming_digests G) (outgoing_digests G) v) t
      → ((y : Bytes) → y among path_strings way G → y among B) → ((y : Bytes) → y among path_strings way t.records → y among C)
      → (t.records ≡ trace way G v) ⊎ Collision B C
  unfolding found_position unreferenced
  trace_exact {B} {C} backward R h p in_b in_c =
      go (Backward.entries T G r_T r_G (λ i b. in_b _ (path_string_in backward G i b)) (λ i b. in_c _ (path_string_in backward T i b)) n v last first used)
    where
      T : List VersionNode
      T = t.records

      r_T : Regular T
      r_T = records_regular R

      n : ℕ
      n = length T - 1

      last : length T ≡ suc n
      last = omega arith

      first : Matches backward T G n v
      first = start backward h p

      used : (i : ℕ) → i < n → (k : ℕ) × (e : InEdge) × (k < length T) × (e among (node_at T k).in_edges) × (e.start ≡ i)
      used i b =
          let q = unreferenced-none 0 T p.all_referenced i (omega (arith, last)) in
          let f = refers_in (0 + i) (node_at T q.0).in_edges q.2 in
          (q.0, f.0, q.1, f.1, f.2 ∙ zero-add i)

      go : Collision B C ⊎ ((fs : List ℕ) × (length fs ≡ length T) × ((i : ℕ) → i < length T → Entry backward T G (λ (j : ℕ). CausalPath G j v) i (get_or fs i 0)))
          → (T ≡ trace backward G v) ⊎ Collision B C
      go (inl c) = inr c
      go (inr r) =
          inl (finish backward r.0 (Backward.exactly T G r_T r_G n v last first r.0 r.1 r.2) (Backward.induced T G r_T r_G n v last first r.0 r.1 r.2))
  trace_exact {B} {C} forward R h p in_b in_c =
      go (Forward.entries T G r_T r_G (λ i b. in_b _ (path_string_in forward G i b)) (λ i b. in_c _ (path_string_in forward T i b)) v first (λ i b k. (R.fine i k).rooted b))
    where
      T : List VersionNode
      T = t.records

      r_T : Regular T
      r_T = records_regular R

      first : Matches forward T G 0 v
      first = start forward h p

      go : Collision B C ⊎ ((fs : List ℕ) × (length fs ≡ length T) × ((i : ℕ) → i < length T → Entry forward T G (λ (j : ℕ). CausalPath G v j) i (get_or fs i 0)))
          → (T ≡ trace forward G v) ⊎ Collision B C
      go (inl c) = inr c
      go (inr r) =
          inl (finish forward r.0 (Forward.exactly T G r_T r_G v first r.0 r.1 r.2) (Forward.induced T G r_T r_G v first r.0 r.1 r.2))
