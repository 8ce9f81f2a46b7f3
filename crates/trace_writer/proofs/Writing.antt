-- Records and the trace, written piece by piece. Assumes nothing.
use mathlib.Core.Path.{◌≡◌, refl, sym, ap, ap₂, ◌∙◌, subst}
use mathlib.Core.Logic.{◌⊎◌, inl, inr}
use mathlib.Core.Bool.{Bool, true, false}
use mathlib.Core.List.{List, [], ◌∷◌, ◌++◌, append_assoc, append-nil}
use Prim.Native.Nat.{ℕ, zero, suc, ◌+◌, ◌*◌, ◌≤◌, ◌<◌}
use native.Mathlib.Nat.{add-zero}
use native.Mathlib.Numerals.{add-one}
use native.Mathlib.Omega.{arith}
use lib.ListN.{length, set, length-append, length-set}
use Rattle.fields.specs.Fields.{encode, field, written}
use Rattle.fields.proofs.Numbers.{le_or_lt, length-encode}
use Rattle.fields.proofs.Places.{length-written, set-written, written_none, written_behind}
use Rattle.model.specs.Numbers.{Bytes}
use Rattle.model.specs.Graph.{InEdge, temporal, dependency}
use Rattle.model.specs.Question as question
use Rattle.model.specs.Trace.{trace_letter, entry_letter, one_edge_string, record_string_by, trace, trace_string}
use Rattle.graph.specs.Table.{node_in, nodes_in}
use Rattle.graph.specs.Links.{name_string, Starts}
use Rattle.graph.proofs.Slots.{Wrote, wrote, and_behind}
use Rattle.graph.proofs.Strings.{encode_byte, length-name}
use Rattle.marks.specs.Marks.{is_marked}
use Rattle.trace_writer.specs.Marks.{is_inside, slot_position, members, Prepared}
use Rattle.trace_writer.specs.Texts.{slot_edges, record_with, slot_string, slot_strings, slots_trace, RecordWritten, Put, Room, Fits}
use Rattle.marks.proofs.Edges.{previous_stands, source_stands}
use Rattle.trace_writer.proofs.Edges.{inside-there}
use Rattle.trace_writer.proofs.Searching.{starts_at}
use Rattle.trace_writer.proofs.Records.{width, some_edges, Tested, tested, edges_are, record_width-is, slot-marked, slot-unmarked, trace-is}

-- ---- a record by its parts

pub length_set_byte : (l : Bytes) (at x : ℕ) → length (set l at x) ≡ length l
length_set_byte l at x = simp length-set

pub name_put : (out o : Bytes) (at letter : ℕ) (work : Bytes) (i : ℕ) → at + 13 ≤ length out → o ≡ written (set out at letter) (at + 1) (name_string (node_in work i))
    → o ≡ written out at (letter ∷ name_string (node_in work i))
name_put out o at letter work i r e =
    let x = wrote out at (letter ∷ []) 1 (set out at letter) refl (omega arith) (set-written out at letter (omega arith)) in
    (and_behind out at (letter ∷ []) 1 (set out at letter) (name_string (node_in work i)) 12 (at + 1) o x refl (length-name (node_in work i)) (omega arith) e).done

pub name-size : (out o : Bytes) (at x : ℕ) (work : Bytes) (i : ℕ) → at + 13 ≤ length out → o ≡ written (set out at x) (at + 1) (name_string (node_in work i)) → length o ≡ length out
name-size out o at x work i r e =
    ap length (name_put out o at x work i r e) ∙ length-written out at (x ∷ name_string (node_in work i)) (omega (arith, length-name (node_in work i)))

pub kind_put : (out : Bytes) (at : ℕ) (work : Bytes) (i k : ℕ) → at + 1 ≤ length out → k < 256 → k ≡ field 1 work (128 * i + 80)
    → set out at k ≡ written out at (encode 1 (field 1 work (128 * i + 80)))
kind_put out at work i k r h e = set-written out at k (omega arith) ∙ ap (written out at) (sym (encode_byte k h) ∙ ap (encode 1) e)

pub position_put : (out o : Bytes) (at : ℕ) (work : Bytes) (p r : ℕ) → r ≡ slot_position work p → o ≡ written out at (encode 4 r) → o ≡ written out at (encode 4 (slot_position work p))
position_put out o at work p r e f = f ∙ ap (λ (x : ℕ). written out at (encode 4 x)) e

module _ (work : Bytes) (i : ℕ) (out o1 : Bytes) (at letter : ℕ) (named : o1 ≡ written out at (letter ∷ name_string (node_in work i))) where
  begins : at + 13 ≤ length out → Wrote out at (letter ∷ name_string (node_in work i)) 13 o1
  begins r = wrote out at _ 13 o1 (ap suc (length-name (node_in work i))) r named

  pub temporal_put : (o2 : Bytes) (p : ℕ) → letter ≡ 84 → at + 17 ≤ length out → o2 ≡ written o1 (at + 13) (encode 4 (slot_position work p))
      → RecordWritten work i (temporal (slot_position work p) ∷ []) out o2 at
  unfolding record_with record_string_by one_edge_string name_string
  temporal_put o2 p l r e =
      record {
        is = λ way.
            (and_behind out at _ 13 o1 _ 4 (at + 13) o2 (begins (omega arith)) refl (length-encode 4 (slot_position work p)) (omega arith) e).done
            ∙ ap (written out at) (rw l (simp (append_assoc, append-nil)));
      }

  module _ (o2 : Bytes) (kind : o2 ≡ written o1 (at + 13) (encode 1 (field 1 work (128 * i + 80)))) where
    with_kind : at + 14 ≤ length out → Wrote out at ((letter ∷ name_string (node_in work i)) ++ encode 1 (field 1 work (128 * i + 80))) 14 o2
    with_kind r = and_behind out at _ 13 o1 _ 1 (at + 13) o2 (begins (omega arith)) refl (length-encode 1 (field 1 work (128 * i + 80))) (omega arith) kind

    pub dependency_put : (o3 : Bytes) (s : ℕ) → letter ≡ 68 → at + 18 ≤ length out → o3 ≡ written o2 (at + 14) (encode 4 (slot_position work s))
        → RecordWritten work i (dependency (field 1 work (128 * i + 80)) (slot_position work s) ∷ []) out o3 at
    unfolding record_with record_string_by one_edge_string name_string
    dependency_put o3 s l r e =
        record {
          is = λ way.
              (and_behind out at _ 14 o2 _ 4 (at + 14) o3 (with_kind (omega arith)) refl (length-encode 4 (slot_position work s)) (omega arith) e).done
              ∙ ap (written out at) (rw l (simp (append_assoc, append-nil)));
        }

    pub both_put : (o3 o4 : Bytes) (p s : ℕ) → letter ≡ 86 → at + 22 ≤ length out → o3 ≡ written o2 (at + 14) (encode 4 (slot_position work p))
        → o4 ≡ written o3 (at + 18) (encode 4 (slot_position work s))
        → RecordWritten work i (temporal (slot_position work p) ∷ dependency (field 1 work (128 * i + 80)) (slot_position work s) ∷ []) out o4 at
    unfolding record_with record_string_by name_string
    both_put o3 o4 p s l r e f =
        let x = and_behind out at _ 14 o2 _ 4 (at + 14) o3 (with_kind (omega arith)) refl (length-encode 4 (slot_position work p)) (omega arith) e in
        record {
          is = λ way.
              (and_behind out at _ 18 o3 _ 4 (at + 18) o4 x refl (length-encode 4 (slot_position work s)) (omega arith) f).done
              ∙ ap (written out at) (rw l (simp (append_assoc, append-nil)));
        }

entry_put : (way : question.Way) (work : Bytes) (i : ℕ) (out o : Bytes) (at letter : ℕ) → letter ≡ entry_letter way
    → o ≡ written out at (letter ∷ name_string (node_in work i)) → o ≡ written out at (record_with way work i [])
unfolding record_with record_string_by name_string
entry_put way work i out o at letter l e = e ∙ ap (written out at) (rw l (simp append-nil))

-- ---- the record of a marked slot

module _ (way : question.Way) (work : Bytes) (i : ℕ) (out : Bytes) (at p s : ℕ) (b c : Bool) (st : Starts work i)
    (room : at + length (record_with way work i (slot_edges work i)) ≤ length out) (ep : p ≡ field 2 work (128 * i + 76)) (es : s ≡ field 2 work (128 * i + 78))
    (eb : b ≡ is_inside work p) (ec : c ≡ is_inside work s) where
  test : Tested work i p s b c
  test = tested work i p s b c ep es eb ec

  -- its bytes, by the two tests
  fits_by : (x y : Bool) → b ≡ x → c ≡ y → at + width x y ≤ length out
  fits_by x y hx hy =
      let w : length (record_with way work i (slot_edges work i)) ≡ width x y = record_width-is way work i p s b c test ∙ ap₂ width hx hy in omega arith

  from-previous : b ≡ true → 128 * p + 128 ≤ length work
  from-previous = inside-there work p b (previous_stands work i st p ep) eb

  from-source : c ≡ true → 128 * s + 128 ≤ length work
  from-source = inside-there work s c (source_stands work i st s es) ec

  put_by : (x y : Bool) (o : Bytes) → b ≡ x → c ≡ y → o ≡ written out at (record_with way work i (some_edges x y (slot_position work p) (field 1 work (128 * i + 80)) (slot_position work s)))
      → Put out o at (at + width x y) (record_with way work i (slot_edges work i))
  put_by x y o hx hy e =
      record {
        done =
            e
            ∙ ap (λ (l : List InEdge). written out at (record_with way work i l))
            (ap₂ (λ (u v : Bool). some_edges u v (slot_position work p) (field 1 work (128 * i + 80)) (slot_position work s)) (sym hx) (sym hy) ∙ edges_are work i p s b c test);
        behind = ap (λ (z : ℕ). at + z) (sym (record_width-is way work i p s b c test ∙ ap₂ width hx hy));
      }

  pub both_ask : b ≡ true → c ≡ true
      → (128 * i + 128 ≤ length work) × (128 * p + 128 ≤ length work) × (128 * s + 128 ≤ length work) × (at + 22 ≤ length out)
  both_ask hb hc = (st.room, from-previous hb, from-source hc, fits_by true true hb hc)

  pub both-done : (o : Bytes) → b ≡ true → c ≡ true
      → RecordWritten work i (temporal (slot_position work p) ∷ dependency (field 1 work (128 * i + 80)) (slot_position work s) ∷ []) out o at
      → Put out o at (at + 22) (record_with way work i (slot_edges work i))
  both-done o hb hc d = put_by true true o hb hc (d.is way)

  pub temporal_ask : b ≡ true → c ≡ false → (128 * i + 128 ≤ length work) × (128 * p + 128 ≤ length work) × (at + 17 ≤ length out)
  temporal_ask hb hc = (st.room, from-previous hb, fits_by true false hb hc)

  pub temporal-done : (o : Bytes) → b ≡ true → c ≡ false → RecordWritten work i (temporal (slot_position work p) ∷ []) out o at
      → Put out o at (at + 17) (record_with way work i (slot_edges work i))
  temporal-done o hb hc d = put_by true false o hb hc (d.is way)

  pub dependency_ask : b ≡ false → c ≡ true → (128 * i + 128 ≤ length work) × (128 * s + 128 ≤ length work) × (at + 18 ≤ length out)
  dependency_ask hb hc = (st.room, from-source hc, fits_by false true hb hc)

  pub dependency-done : (o : Bytes) → b ≡ false → c ≡ true → RecordWritten work i (dependency (field 1 work (128 * i + 80)) (slot_position work s) ∷ []) out o at
      → Put out o at (at + 18) (record_with way work i (slot_edges work i))
  dependency-done o hb hc d = put_by false true o hb hc (d.is way)

  pub entry_ask : b ≡ false → c ≡ false → (128 * i + 128 ≤ length work) × (at + 13 ≤ length out)
  entry_ask hb hc = (st.room, fits_by false false hb hc)

  pub entry_done : (o : Bytes) (letter : ℕ) → b ≡ false → c ≡ false → letter ≡ entry_letter way → o ≡ written out at (letter ∷ name_string (node_in work i))
      → Put out o at (at + 13) (record_with way work i (slot_edges work i))
  entry_done o letter hb hc l e = put_by false false o hb hc (entry_put way work i out o at letter l e)

module _ (way : question.Way) (work : Bytes) (i : ℕ) (out : Bytes) (at : ℕ) (m : Bool) (e : m ≡ is_marked work i) where
  pub slot-room : m ≡ true → at + length (slot_string way work i) ≤ length out → at + length (record_with way work i (slot_edges work i)) ≤ length out
  slot-room t r = omega (arith, ap length (slot-marked way work i m e t))

  pub slot_put : (o : Bytes) (r : ℕ) → m ≡ true → Put out o at r (record_with way work i (slot_edges work i)) → Put out o at r (slot_string way work i)
  slot_put o r t p = subst (Put out o at r) (slot-marked way work i m e t) p

  pub slot_empty : m ≡ false → Put out out at at (slot_string way work i)
  slot_empty f =
      subst (Put out out at at) (slot-unmarked way work i m e f) (record { done = sym (written_none out at); behind = sym (add-zero at) })

-- ---- the loop: the records of the first i slots are written

pub record Filling (way : question.Way) (work : Bytes) (n : ℕ) (out o : Bytes) (at i : ℕ) : Type 0 where
  pub few : i ≤ n
  pub done : Put out o 5 at (slot_strings way work i)

pub filling-none : (way : question.Way) (work : Bytes) (n : ℕ) (out : Bytes) → Filling way work n out out 5 0
unfolding slot_strings
filling-none way work n out = record { few = omega arith; done = record { done = sym (written_none out 5); behind = refl } }

strings-more : (way : question.Way) (work : Bytes) (i : ℕ) → length (slot_strings way work (suc i)) ≡ length (slot_strings way work i) + length (slot_string way work i)
unfolding slot_strings
strings-more way work i = length-append (slot_strings way work i) (slot_string way work i)

strings-grow : (way : question.Way) (work : Bytes) (i n : ℕ) → i ≤ n → length (slot_strings way work i) ≤ length (slot_strings way work n)
strings-grow way work i zero h = let e : i ≡ 0 = omega arith in rw e (omega arith)
strings-grow way work i (suc n) h = go (le_or_lt i n) (λ (k : i ≤ n). strings-grow way work i n k)
  where
    go : (i ≤ n) ⊎ (n < i) → (i ≤ n → length (slot_strings way work i) ≤ length (slot_strings way work n)) → length (slot_strings way work i) ≤ length (slot_strings way work (suc n))
    go (inl k) rec = let r = rec k in omega (arith, strings-more way work n)
    go (inr k) rec = let e : i ≡ suc n = omega arith in rw e (omega arith)

module _ (way : question.Way) (work : Bytes) (n : ℕ) (out o : Bytes) (at i : ℕ) (room : Room way work n (length out)) (t : Filling way work n out o at i) where
  filled : length (slot_strings way work i) ≤ length (slot_strings way work n)
  filled = strings-grow way work i n t.few

  pub filling-size : length o ≡ length out
  filling-size = ap length t.done.done ∙ length-written out 5 (slot_strings way work i) (omega (arith, room.enough, filled))

  module _ (h : i < n) where
    fits : 5 + length (slot_strings way work i) + length (slot_string way work i) ≤ length out
    fits = omega (arith, room.enough, strings-grow way work (suc i) n h, strings-more way work i)

    pub filling-fits : Starts work i × (at + length (slot_string way work i) ≤ length o)
    filling-fits = (starts_at work n i h room.ready, omega (arith, fits, filling-size, t.done.behind))

    pub filling-more : (o' : Bytes) (r : ℕ) → Put o o' at r (slot_string way work i) → Filling way work n out o' r (i + 1)
    unfolding slot_strings
    filling-more o' r p =
        record {
          few = omega arith;
          done =
              rw (add-one i)
              (record {
                done =
                    p.done ∙ ap (λ (x : Bytes). written x at (slot_string way work i)) t.done.done
                    ∙ written_behind out 5 (slot_strings way work i) (slot_string way work i) at (sym t.done.behind) (omega (arith, fits, t.done.behind));
                behind = omega (arith, p.behind, t.done.behind, strings-more way work i);
              });
        }

pub filling-all : (way : question.Way) (work : Bytes) (n : ℕ) (out o : Bytes) (at i : ℕ) → n ≤ i → Filling way work n out o at i → o ≡ written out 5 (slot_strings way work n)
filling-all way work n out o at i h t = let e : i ≡ n = omega (arith, t.few) in rw e at t.done.done

-- ---- the trace

module _ (way : question.Way) (work : Bytes) (n : ℕ) (out : Bytes) (fit : Fits way work n (length out)) where
  trace-room : length (slots_trace way work n) ≤ length out
  trace-room = omega (arith, ap length (trace-is way work n fit.v fit.prepared), fit.enough)

  pub records-room : 5 + length (slot_strings way work n) ≤ length out
  unfolding slots_trace
  records-room =
      let c = length (members work n) in
      omega (arith, trace-room, length-append (encode 4 c) (slot_strings way work n), length-encode 4 c)

  module _ (letter count : ℕ) (o1 : Bytes) (headed : o1 ≡ written (set out 0 letter) 1 (encode 4 count)) where
    header : Wrote out 0 ((letter ∷ []) ++ encode 4 count) 5 o1
    header =
        and_behind out 0 (letter ∷ []) 1 (set out 0 letter) (encode 4 count) 4 1 o1
        (wrote out 0 (letter ∷ []) 1 (set out 0 letter) refl (omega (arith, records-room)) (set-written out 0 letter (omega (arith, records-room)))) refl
        (length-encode 4 count) (omega (arith, records-room)) headed

    header-size : length o1 ≡ length out
    header-size = ap length headed ∙ length-written (set out 0 letter) 1 (encode 4 count) (omega (arith, length_set_byte out 0 letter, length-encode 4 count, records-room)) ∙ length_set_byte out 0 letter

    pub records_ask : Room way work n (length o1)
    records_ask = record { ready = fit.prepared.positioned.ready; enough = omega (arith, records-room, header-size) }

    pub trace-size : (o2 : Bytes) → o2 ≡ written o1 5 (slot_strings way work n) → length o2 ≡ length out
    trace-size o2 e = ap length e ∙ length-written o1 5 (slot_strings way work n) (omega (arith, records-room, header-size)) ∙ header-size

    pub trace_put : (o2 : Bytes) → letter ≡ trace_letter way → count ≡ length (members work n) → o2 ≡ written o1 5 (slot_strings way work n)
        → (v : ℕ) → Prepared way work n v → o2 ≡ written out 0 (trace_string way (trace way (nodes_in work n) v))
    unfolding slots_trace
    trace_put o2 l c e v p =
        (and_behind out 0 _ 5 o1 (slot_strings way work n) _ 5 o2 header refl refl (omega (arith, records-room)) e).done
        ∙ ap₂ (λ (x y : ℕ). written out 0 (x ∷ encode 4 y ++ slot_strings way work n)) l c ∙ ap (written out 0) (trace-is way work n v p)
