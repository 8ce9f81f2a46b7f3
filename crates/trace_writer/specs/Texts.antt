-- The bytes of a trace by what the slots say. Assumes nothing.
use Rattle.std.specs.Prelude.{◌≡◌, cond, List, [], ◌∷◌, ◌++◌, ℕ, zero, suc, ◌+◌, ◌≤◌, length}
use Rattle.fields.specs.Fields.{encode, written}
use Rattle.model.specs.Numbers.{Bytes, count_width}
use Rattle.model.specs.Graph.{InEdge, temporal, dependency}
use Rattle.model.specs.Question as question
use Rattle.model.specs.Trace.{trace_letter, entry_letter, record_string_by, trace, trace_string}
use Rattle.graph.specs.Table.{previous_in, source_in, kind_in, node_in, nodes_in, Ready}
use Rattle.marks.specs.Marks.{is_marked}
use Rattle.trace_writer.specs.Marks.{is_inside, members, slot_position, Prepared}

-- slot i's edges that start inside, by the positions of their starts
unfoldable pub slot_edges : Bytes → ℕ → List InEdge
slot_edges work i =
    let p = previous_in work i in
    let s = source_in work i in
    cond (is_inside work p) (temporal (slot_position work p) ∷ []) []
    ++ cond (is_inside work s) (dependency (kind_in work i) (slot_position work s) ∷ []) []

-- a record of slot i with the edges es
unfoldable pub record_with : question.Way → Bytes → ℕ → List InEdge → Bytes
record_with way work i es = record_string_by (entry_letter way) (node_in work i) es

-- the record of slot i, if it is marked
unfoldable pub slot_string : question.Way → Bytes → ℕ → Bytes
slot_string way work i = cond (is_marked work i) (record_with way work i (slot_edges work i)) []

-- the records of the first i slots
unfoldable pub slot_strings : question.Way → Bytes → ℕ → Bytes
slot_strings way work zero = []
slot_strings way work (suc i) = slot_strings way work i ++ slot_string way work i

-- the trace
unfoldable pub slots_trace : question.Way → Bytes → ℕ → Bytes
slots_trace way work n = trace_letter way ∷ encode count_width (length (members work n)) ++ slot_strings way work n

-- the bytes of slot i's record, whichever way the trace goes
pub record Width (work : Bytes) (i r : ℕ) : Type 0 where
  pub small : r ≤ 22
  pub is : (way : question.Way) → length (slot_string way work i) ≡ r

-- the bytes of the trace
pub record TraceLength (work : Bytes) (n r : ℕ) : Type 0 where
  pub is : (way : question.Way) → r ≡ length (slots_trace way work n)

-- the record of slot i with edges es, the same both ways, is written at a place
pub record RecordWritten (work : Bytes) (i : ℕ) (es : List InEdge) (out out' : Bytes) (at : ℕ) : Type 0 where
  pub is : (way : question.Way) → out' ≡ written out at (record_with way work i es)

-- a string is written at a place, and r is the place behind it
pub record Put (out out' : Bytes) (at r : ℕ) (s : Bytes) : Type 0 where
  pub done : out' ≡ written out at s
  pub behind : r ≡ at + length s

-- the records have room behind the header
pub record Room (way : question.Way) (work : Bytes) (n size : ℕ) : Type 0 where
  pub ready : Ready work n
  pub enough : 5 + length (slot_strings way work n) ≤ size

-- marks and positions stand for a trace that has room
pub record Fits (way : question.Way) (work : Bytes) (n size : ℕ) : Type 0 where
  pub v : ℕ
  pub prepared : Prepared way work n v
  pub enough : length (trace_string way (trace way (nodes_in work n) v)) ≤ size
