-- Records as the slots say them: their widths, and that all of them are the trace. Assumes nothing.
use mathlib.Core.Path.{◌≡◌, refl, sym, ap, ap₂, ◌∙◌}
use mathlib.Core.Bool.{Bool, true, false, cond}
use mathlib.Core.List.{List, [], ◌∷◌, ◌++◌, map, map-append, append-nil}
use Prim.Native.Nat.{ℕ, zero, suc, ◌+◌, ◌*◌, ◌≤◌, ◌<◌}
use native.Mathlib.Numerals.{add-one}
use native.Mathlib.Omega.{arith}
use borrow.Author.Tests.{ltb-true}
use lib.Dec.{ltb, lit≤}
use lib.ListN.{length, length-append}
use Rattle.fields.specs.Fields.{encode, field}
use Rattle.fields.proofs.Numbers.{length-encode}
use Rattle.model.specs.Numbers.{Bytes, joined}
use Rattle.model.specs.Graph.{InEdge, temporal, dependency, VersionNode, node_at}
use Rattle.model.specs.Question as question
use Rattle.model.specs.Trace.{position_in, edges_inside, node_inside, induced_subgraph, trace_versions, trace, trace_letter, entry_letter, one_edge_string, record_string_by, record_string, record_strings, trace_string}
use Rattle.model.proofs.Strings.{joined-append, none, num, joined_length}
use Rattle.graph.specs.Table.{absent, node_in, nodes_in, columns, Kept, Ready}
use Rattle.graph.proofs.Slots.{kept_then, kept_also, kept-first}
use Rattle.graph.proofs.Nodes.{map-length, node_at_nodes, nodes-kept}
use Rattle.graph.proofs.Strings.{previous-before, source-before}
use Rattle.marks.specs.Marks.{is_marked}
use Rattle.trace_writer.specs.Marks.{position_column, is_inside, slot_position, members, MarksDone, PositionsDone, Positioned, Prepared}
use Rattle.trace_writer.specs.Texts.{slot_edges, record_with, slot_string, slot_strings, slots_trace, Width, TraceLength}
use Rattle.marks.proofs.Marking.{marked-kept}
use Rattle.trace_writer.proofs.Marking.{members-same, members-elem}
use Rattle.trace_writer.proofs.Edges.{and_left, edges_agree}
use Rattle.trace_writer.proofs.Searching.{ready-kept, starts_at}
use Rattle.trace_writer.proofs.Positions.{position_members}

-- ---- widths

-- by whether the temporal and the dependency edge start inside
abbrev pub width : Bool → Bool → ℕ
width b c = cond b (cond c 22 17) (cond c 18 13)

abbrev pub some_edges : Bool → Bool → ℕ → ℕ → ℕ → List InEdge
some_edges b c p k s = cond b (temporal p ∷ []) [] ++ cond c (dependency k s ∷ []) []

width_is : (way : question.Way) (work : Bytes) (i : ℕ) (b c : Bool) (p k s : ℕ) → length (record_with way work i (some_edges b c p k s)) ≡ width b c
unfolding record_with record_string_by one_edge_string
width_is way work i true true p k s = ap suc (joined_length (num 4 _ (num 8 _ (num 1 k (num 4 p (num 4 s none))))))
width_is way work i true false p k s = ap suc (joined_length (num 4 _ (num 8 _ (num 4 p none))))
width_is way work i false true p k s = ap suc (joined_length (num 4 _ (num 8 _ (num 1 k (num 4 s none)))))
width_is way work i false false p k s = ap suc (joined_length (num 4 _ (num 8 _ none)))

width_small : (b c : Bool) → width b c ≤ 22
width_small true true = lit≤ tt
width_small true false = lit≤ tt
width_small false true = lit≤ tt
width_small false false = lit≤ tt

-- the tests of slot i's edges, and the edges by them
pub record Tested (work : Bytes) (i p s : ℕ) (b c : Bool) : Type 0 where
  pub previous : p ≡ field 2 work (128 * i + 76)
  pub source : s ≡ field 2 work (128 * i + 78)
  pub first : b ≡ is_inside work p
  pub second : c ≡ is_inside work s

pub tested : (work : Bytes) (i p s : ℕ) (b c : Bool) → p ≡ field 2 work (128 * i + 76) → s ≡ field 2 work (128 * i + 78) → b ≡ is_inside work p → c ≡ is_inside work s
    → Tested work i p s b c
tested work i p s b c ep es eb ec = record { previous = ep; source = es; first = eb; second = ec }

pub edges_are : (work : Bytes) (i p s : ℕ) (b c : Bool) → Tested work i p s b c
    → some_edges b c (slot_position work p) (field 1 work (128 * i + 80)) (slot_position work s) ≡ slot_edges work i
unfolding slot_edges
edges_are work i p s b c t =
    ap₂ (λ (x y : List InEdge). x ++ y)
    (ap (λ (x : Bool). cond x (temporal (slot_position work p) ∷ []) []) t.first
    ∙ ap (λ (x : ℕ). cond (is_inside work x) (temporal (slot_position work x) ∷ []) []) t.previous)
    (ap (λ (x : Bool). cond x (dependency (field 1 work (128 * i + 80)) (slot_position work s) ∷ []) []) t.second
    ∙ ap (λ (x : ℕ). cond (is_inside work x) (dependency (field 1 work (128 * i + 80)) (slot_position work x) ∷ []) []) t.source)

pub record_width-is : (way : question.Way) (work : Bytes) (i p s : ℕ) (b c : Bool) → Tested work i p s b c
    → length (record_with way work i (slot_edges work i)) ≡ width b c
record_width-is way work i p s b c t =
    ap (λ (es : List InEdge). length (record_with way work i es)) (sym (edges_are work i p s b c t)) ∙ width_is way work i b c _ _ _

pub slot-marked : (way : question.Way) (work : Bytes) (i : ℕ) (m : Bool) → m ≡ is_marked work i → m ≡ true → record_with way work i (slot_edges work i) ≡ slot_string way work i
unfolding slot_string
slot-marked way work i m e t = ap {B = Bytes} (λ (x : Bool). cond x (record_with way work i (slot_edges work i)) []) (sym t ∙ e)

pub slot-unmarked : (way : question.Way) (work : Bytes) (i : ℕ) (m : Bool) → m ≡ is_marked work i → m ≡ false → [] ≡ slot_string way work i
unfolding slot_string
slot-unmarked way work i m e f = ap {B = Bytes} (λ (x : Bool). cond x (record_with way work i (slot_edges work i)) []) (sym f ∙ e)

pub width_marked : (work : Bytes) (i p s : ℕ) (m b c : Bool) (r : ℕ) → m ≡ is_marked work i → m ≡ true → p ≡ field 2 work (128 * i + 76) → b ≡ is_inside work p
    → s ≡ field 2 work (128 * i + 78) → c ≡ is_inside work s → r ≡ width b c → Width work i r
width_marked work i p s m b c r e t ep eb es ec er =
    record {
      small = omega (arith, width_small b c);
      is = λ way. ap length (sym (slot-marked way work i m e t)) ∙ record_width-is way work i p s b c (tested work i p s b c ep es eb ec) ∙ sym er;
    }

pub width_unmarked : (work : Bytes) (i : ℕ) (m : Bool) → m ≡ is_marked work i → m ≡ false → Width work i 0
width_unmarked work i m e f = record { small = omega arith; is = λ way. ap length (sym (slot-unmarked way work i m e f)) }

-- ---- the loop: the bytes of the header and of the first i slots

pub record Measuring (work : Bytes) (n r i : ℕ) : Type 0 where
  pub few : i ≤ n
  pub small : r ≤ 5 + 22 * i
  pub is : (way : question.Way) → r ≡ 5 + length (slot_strings way work i)

pub measuring_none : (work : Bytes) (n : ℕ) → Measuring work n 5 0
unfolding slot_strings
measuring_none work n = record { few = omega arith; small = omega arith; is = λ way. refl }

pub measuring_more : (work : Bytes) (n r i w : ℕ) → i < n → Measuring work n r i → Width work i w → Measuring work n (r + w) (i + 1)
unfolding slot_strings
measuring_more work n r i w h t wide =
    record {
      few = omega arith;
      small = omega (arith, t.small, wide.small);
      is = λ way.
          let a = t.is way in
          let b = wide.is way in
          ap (λ (x : ℕ). x + w) a ∙ omega (arith, length-append (slot_strings way work i) (slot_string way work i)) ∙ ap (λ (k : ℕ). 5 + length (slot_strings way work k)) (sym (add-one i));
    }

pub measuring_all : (work : Bytes) (n r i : ℕ) → n ≤ i → Measuring work n r i → TraceLength work n r
unfolding slots_trace
measuring_all work n r i h t =
    let e : i ≡ n = omega (arith, t.few) in
    record {
      is = λ way.
          let a : r ≡ 5 + length (slot_strings way work n) = rw e at (t.is way) in
          let c = length (members work n) in
          omega (arith, a, length-append (encode 4 c) (slot_strings way work n), length-encode 4 c);
    }

-- ---- all records are the trace

-- the record of a version says its entity, its time and the edges that are given
named-alike : (letter : ℕ) (m n : VersionNode) (es : List InEdge) → m.entity ≡ n.entity → m.time ≡ n.time → record_string_by letter m es ≡ record_string_by letter n es
unfolding record_string_by one_edge_string
named-alike letter m n [] e t = ap₂ (λ (x y : ℕ). letter ∷ joined (encode 4 x ∷ encode 8 y ∷ [])) e t
named-alike letter m n (f ∷ []) e t = ap₂ (λ (x y : ℕ). one_edge_string (record { entity = x; time = y; in_edges = [] }) f) e t
named-alike letter m n (f ∷ g ∷ es) e t =
    ap₂ (λ (x y : ℕ). 0x56 ∷ joined (encode 4 x ∷ encode 8 y ∷ encode 1 g.kind ∷ encode 4 f.start ∷ encode 4 g.start ∷ [])) e t

module _ (work : Bytes) (n : ℕ) (t : Positioned work n) where
  ns : List VersionNode
  ns = nodes_in work n

  ms : List ℕ
  ms = members work n

  position_of_slot : (p : ℕ) → p < n → position_in p ms ≡ slot_position work p
  unfolding ms
  position_of_slot p h = position_members work p n (omega arith) ∙ sym (t.positions p h)

  -- an edge that starts inside
  moved_to_position : (p : ℕ) → (p < absent → p < n) → (f : ℕ → InEdge)
      → cond (is_inside work p) (f (position_in p ms) ∷ []) [] ≡ cond (is_inside work p) (f (slot_position work p) ∷ []) []
  unfolding is_inside
  moved_to_position p h f = go (is_inside work p) (λ e. position_of_slot p (h (ltb-true p absent (and_left (ltb p absent) (is_marked work p) e))))
    where
      go : (b : Bool) → (b ≡ true → position_in p ms ≡ slot_position work p) → cond b (f (position_in p ms) ∷ []) [] ≡ cond b (f (slot_position work p) ∷ []) []
      go true e = ap (λ (x : ℕ). f x ∷ []) (e refl)
      go false e = refl

  edges_by_position : (i : ℕ) → i < n → edges_inside ms (node_in work i).in_edges ≡ slot_edges work i
  unfolding slot_edges ms
  edges_by_position i h =
      let st = starts_at work n i h t.ready in
      let p = field 2 work (128 * i + 76) in
      let s = field 2 work (128 * i + 78) in
      let k = field 1 work (128 * i + 80) in
      edges_agree work i st ms (λ j l. members-elem work n j (omega arith))
      ∙ ap₂ (λ (x y : List InEdge). x ++ y) (moved_to_position p (λ l. let z = previous-before work i st p refl l in omega arith) temporal)
      (moved_to_position s (λ l. let z = source-before work i st s refl l in omega arith) (dependency k))

  record_same : (way : question.Way) (i : ℕ) → i < n → record_string way (node_inside ns ms i) ≡ record_with way work i (slot_edges work i)
  unfolding record_string node_inside record_with ns
  record_same way i h =
      let same : node_at (nodes_in work n) i ≡ node_in work i = node_at_nodes work n i h in
      named-alike (entry_letter way) (node_inside ns ms i) (node_in work i) (edges_inside ms (node_at (nodes_in work n) i).in_edges)
      (ap (λ (x : VersionNode). x.entity) same) (ap (λ (x : VersionNode). x.time) same)
      ∙ ap (record_string_by (entry_letter way) (node_in work i)) (ap (λ (x : VersionNode). edges_inside ms x.in_edges) same ∙ edges_by_position i h)

  abbrev strings : question.Way → List ℕ → Bytes
  strings way l = joined (map (record_string way) (map (node_inside ns ms) l))

  strings_snoc : (way : question.Way) (l : List ℕ) (i : ℕ) → strings way (l ++ (i ∷ [])) ≡ strings way l ++ record_string way (node_inside ns ms i)
  strings_snoc way l i =
      ap (λ (x : List VersionNode). joined (map (record_string way) x)) (map-append (node_inside ns ms) l (i ∷ []))
      ∙ ap joined (map-append (record_string way) (map (node_inside ns ms) l) (node_inside ns ms i ∷ []))
      ∙ joined-append (map (record_string way) (map (node_inside ns ms) l)) (record_string way (node_inside ns ms i) ∷ [])
      ∙ ap (λ (x : Bytes). strings way l ++ x) (append-nil (record_string way (node_inside ns ms i)))

  records_are : (way : question.Way) (i : ℕ) → i ≤ n → slot_strings way work i ≡ strings way (members work i)
  unfolding slot_strings slot_string members
  records_are way zero h = refl
  records_are way (suc i) h = ap (λ (x : Bytes). x ++ slot_string way work i) (records_are way i (omega arith)) ∙ go (is_marked work i)
    where
      go : (b : Bool) → strings way (members work i) ++ cond b (record_with way work i (slot_edges work i)) [] ≡ strings way (cond b (members work i ++ (i ∷ [])) (members work i))
      go true = ap (λ (x : Bytes). strings way (members work i) ++ x) (sym (record_same way i (omega arith))) ∙ sym (strings_snoc way (members work i) i)
      go false = append-nil (strings way (members work i))

  trace_by_slots : (way : question.Way) (v : ℕ) → members work n ≡ trace_versions way (nodes_in work n) v
      → slots_trace way work n ≡ trace_string way (trace way (nodes_in work n) v)
  unfolding slots_trace trace_string trace induced_subgraph record_strings ns ms
  trace_by_slots way v e =
      ap₂ (λ (x : ℕ) (y : Bytes). trace_letter way ∷ encode 4 x ++ y) (sym (map-length (node_inside ns ms) ms)) (records_are way n (omega arith))
      ∙ ap (λ (l : List ℕ). trace_string way (map (node_inside (nodes_in work n) l) l)) e

pub trace-is : (way : question.Way) (work : Bytes) (n v : ℕ) → Prepared way work n v → slots_trace way work n ≡ trace_string way (trace way (nodes_in work n) v)
trace-is way work n v p = trace_by_slots work n p.positioned way v p.versions

-- ---- a table that is prepared

module _ (way : question.Way) (work w1 w2 : Bytes) (n v : ℕ) (ready : Ready work n) (here : v < n) (m : MarksDone way work w1 n v) (r : PositionsDone w1 w2 n) where
  pub both-kept : Kept (columns 81 82 ∷ columns 124 128 ∷ []) work w2
  both-kept =
      kept_then (columns 81 82 ∷ columns 124 128 ∷ []) work w1 w2 (kept-first position_column (columns 81 82) work w1 m.kept)
      (kept_also position_column (columns 81 82) w1 w2 r.kept)

  same_graph : nodes_in w2 n ≡ nodes_in work n
  same_graph = nodes-kept (columns 81 82 ∷ columns 124 128 ∷ []) work w2 both-kept tt n

  pub is-prepared : Prepared way w2 n v
  is-prepared =
      record {
        positioned = record { ready = ready-kept (columns 81 82 ∷ columns 124 128 ∷ []) work w2 n tt both-kept ready; positions = r.positions };
        here = here;
        versions =
            members-same w1 w2 n (λ j. marked-kept position_column w1 w2 r.kept tt j) ∙ m.versions
            ∙ ap (λ (l : List VersionNode). trace_versions way l v) (sym same_graph);
      }

  pub prepared-length : (l : ℕ) → TraceLength w2 n l → l ≡ length (trace_string way (trace way (nodes_in work n) v))
  prepared-length l t =
      t.is way ∙ ap length (trace-is way w2 n v is-prepared) ∙ ap (λ (x : List VersionNode). length (trace_string way (trace way x v))) same_graph

  pub prepared-ready : Ready w2 n
  prepared-ready = is-prepared.positioned.ready
