-- The records of a trace as document 01's definitions give them. Assumes nothing.
use Rattle.std.specs.Prelude.{◌≡◌, true, cond, List, [], map, ℕ, ◌+◌, ◌*◌, ◌≤◌, eqb, length, drop, get_or, MatchResult}
use Rattle.std.specs.Prelude as std
use Rattle.std.proofs.Math.Option.{Option, none, some}
use Rattle.fields.specs.Fields.{field}
use Rattle.model.specs.Numbers.{Bytes, above, counting}
use Rattle.model.specs.Result.{Result, ok, refuse, ◌>>=◌, need}
use Rattle.model.specs.Rows.{position_not_below, trace_time_not_above}
use Rattle.model.specs.Graph.{VersionNode}
use Rattle.model.specs.Trace.{letter_width}
use Rattle.model.specs.Question as question
use Rattle.model.specs.CheckRows.{shown_edges, shown_record, all_below, read_record, CheckedTrace, read_records, read_trace}
use Rattle.graph.specs.Table.{slot_width, absent, node_in, nodes_in}
use Rattle.outcome.specs.declared.Refusal.{Refusal}
use Rattle.outcome.specs.Outcomes.{number_of}
use Rattle.trace_reader.specs.declared.Step.{Step}
use Rattle.trace_reader.specs.declared.Trace.{Trace}

-- what a call answers: a value of which P holds, or the row that m meets and where
abbrev pub Answers : {A B : Type 0} → Result B → (A → Type 0) → std.Result A Refusal → Type 0
Answers m P r = MatchResult r P (λ e. m ≡ refuse (number_of e.row) e.position)

-- the time before the i-th record: there is none before the first
unfoldable pub before_of : ℕ → ℕ → Option ℕ
before_of i last = cond (eqb i 0) none (some last)

-- 20 and 21 of the i-th record, which stands at this position
unfoldable pub values_row : ℕ → ℕ → ℕ → VersionNode → Result (Unit {0})
values_row i last pos n = do
  _ ← need (all_below i n.in_edges) position_not_below pos
  need (above (before_of i last) n.time) trace_time_not_above pos

-- the i-th record, of this letter, stands at byte `at` and passes its rows
pub record Shown (way : question.Way) (i last : ℕ) (answer : Bytes) (at letter : ℕ) : Type 0 where
  pub is : read_record way i (before_of i last) at (drop at answer) ≡ ok (shown_record letter (drop at answer))
  pub letter_is : letter ≡ get_or (drop at answer) 0 0
  pub inside : at + letter_width letter ≤ length answer
  pub below : all_below i (shown_edges letter (drop at answer)) ≡ true

-- its letter, if it does
abbrev pub Reads : question.Way → ℕ → ℕ → Bytes → ℕ → std.Result ℕ Refusal → Type 0
Reads way i last answer at = Answers (read_record way i (before_of i last) at (drop at answer)) (Shown way i last answer at)

-- slot i holds a version and, at column 96, its record's place counted from the first byte of the trace; the other slots are as before
pub record RecordInSlot (work work' : Bytes) (i : ℕ) (n : VersionNode) (place : ℕ) : Type 0 where
  pub size : length work' ≡ length work
  pub node : node_in work' i ≡ n
  pub placed : field 4 work' (slot_width * i + 96) ≡ place
  pub nodes : (j : ℕ) → (j ≡ i → ⊥) → node_in work' j ≡ node_in work j
  pub places : (j : ℕ) → (j ≡ i → ⊥) → field 4 work' (slot_width * j + 96) ≡ field 4 work (slot_width * j + 96)

-- the i-th record, of some letter, is in its slot, and `step` has its width and its time
pub record Taken (way : question.Way) (i last : ℕ) (answer : Bytes) (at : ℕ) (work work' : Bytes) (place : ℕ) (step : Step) : Type 0 where
  pub letter : ℕ
  pub shown : Shown way i last answer at letter
  pub put : RecordInSlot work work' i (shown_record letter (drop at answer)) place
  pub width_is : step.width ≡ letter_width letter
  pub time_is : step.time.0 ≡ field 8 answer (at + 5)

abbrev pub Steps : question.Way → ℕ → ℕ → Bytes → ℕ → Bytes → Bytes → ℕ → std.Result Step Refusal → Type 0
Steps way i last answer at work work' place =
    Answers (read_record way i (before_of i last) at (drop at answer)) (Taken way i last answer at work work' place)

-- the place in the answer of the record in slot j, and those of the first n, of the trace that starts at byte `start`
unfoldable pub place_in : Bytes → ℕ → ℕ → ℕ
place_in work start j = start + field 4 work (slot_width * j + 96)

unfoldable pub places_in : Bytes → ℕ → ℕ → List ℕ
places_in work start n = map (place_in work start) (counting 0 n)

-- the records read are in the table, and the bytes left are those from byte `at` on
pub record InTable (m : Result CheckedTrace) (answer : Bytes) (start count : ℕ) (work : Bytes) (at : ℕ) : Type 0 where
  pub is : m ≡ ok (record { records = nodes_in work count; places = places_in work start count; pos = at; rest = drop at answer })
  pub inside : at ≤ length answer

-- the byte behind them, if they are
abbrev pub RecordsAre : Result CheckedTrace → Bytes → ℕ → ℕ → Bytes → std.Result ℕ Refusal → Type 0
RecordsAre m answer start count work = Answers m (InTable m answer start count work)

-- the header at byte `at` passes its rows, with a work area of `size` bytes: the trace is its records
pub record Counts (way : question.Way) (size : ℕ) (answer : Bytes) (at count : ℕ) : Type 0 where
  pub is : read_trace way size at (drop at answer) ≡ read_records way count [] [] (at + 5) (drop (at + 5) answer)
  pub inside : at + 5 ≤ length answer
  pub some_record : 1 ≤ count
  pub few : count ≤ absent
  pub room : slot_width * count ≤ size

-- its number of records, if it does
abbrev pub HeaderIs : question.Way → ℕ → Bytes → ℕ → std.Result ℕ Refusal → Type 0
HeaderIs way size answer at = Answers (read_trace way size at (drop at answer)) (Counts way size answer at)

-- the trace at byte `at` is in the table
pub record TraceRead (way : question.Way) (size : ℕ) (answer : Bytes) (at : ℕ) (work : Bytes) (trace : Trace) : Type 0 where
  pub header : Counts way size answer at trace.count
  pub records : InTable (read_trace way size at (drop at answer)) answer at trace.count work trace.end

abbrev pub TraceIs : question.Way → ℕ → Bytes → ℕ → Bytes → std.Result Trace Refusal → Type 0
TraceIs way size answer at work = Answers (read_trace way size at (drop at answer)) (TraceRead way size answer at work)
