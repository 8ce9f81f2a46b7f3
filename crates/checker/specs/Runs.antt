-- The check's answers as document 01's definitions give them. Assumes nothing.
use Rattle.std.specs.Prelude.{◌≡◌, ◌&&◌, List, [], map, ℕ, ◌+◌, ◌≤◌, eqb, length, get_or, take, drop, None, Some, Ok, Err}
use Rattle.std.specs.Prelude as std
use Rattle.std.specs.Result.{IfOk}
use Rattle.std.proofs.Math.Option.{Option, none, some}
use Rattle.fields.specs.Fields.{equal}
use Rattle.model.specs.Numbers.{Bytes}
use Rattle.model.specs.Result.{Result, ok, refuse, ◌>>=◌, need}
use Rattle.model.specs.Rows.{found_record_differs, path_digest_differs}
use Rattle.model.specs.Graph.{VersionNode, node_at}
use Rattle.model.specs.Accumulator.{L_width, Leaf}
use Rattle.model.specs.Question.{Way, backward, forward, SearchEnd, Verdict, list_string}
use Rattle.model.specs.CheckRows.{leaf_in, CheckedProof, stopped, CheckedTrace, read_trace, unreferenced, found_position, path_digests, leaf_digest, leaf_name, Accepted, end_here, room}
use Rattle.model.specs.Calls.{output_after, verdict_of}
use Rattle.graph.specs.Table.{nodes_in, Kept, Digests, Ready}
use Rattle.marks.specs.Marks.{mark_column}
use Rattle.proof_reader.specs.Walks.{stop_of}
use Rattle.trace_reader.specs.Records.{places_in}
use Rattle.outcome.specs.declared.Refusal.{Refusal}
use Rattle.outcome.specs.Outcomes.{told}
use Rattle.checker.specs.declared.Verdict as declared
use Rattle.checker.specs.declared.Verdict.TheVariants.{NotFound, Found, Listed}
use Rattle.checker.specs.declared.Bounds.{Bounds}
use Rattle.checker.specs.declared.Run.{Run}

-- ---- the verdict

-- document 01's number and values for each case
unfoldable pub declared_verdict : Verdict → declared.Verdict
declared_verdict (Verdict.not_found s) = NotFound (stop_of s)
declared_verdict (Verdict.found t n) = Found (record { 0 = t }) n
declared_verdict (Verdict.listed vs) = Listed (length vs)

unfoldable pub checking_of : Result Verdict → Result declared.Verdict
checking_of (ok v) = ok (declared_verdict v)
checking_of (refuse n p) = refuse n p

-- a part of the answer
abbrev pub bounds : ℕ → ℕ → Bounds
bounds start length = record { start = start; length = length }

-- where in the answer the checked records stand; 0 and 0 if there are none or the check refuses
unfoldable pub bounds_of : Result Accepted → Bounds
bounds_of (ok a) = bounds a.records_start a.records_length
bounds_of (refuse n p) = bounds 0 0

-- the part of the answer in which a run's records stand
abbrev pub Inside : Bytes → Bounds → Type 0
Inside answer b = b.start + b.length ≤ length answer

-- a run of the check: what an accepted answer says, and where the checked records stand; or the row that turns it away and where
unfoldable pub run_of : Result Accepted → Result Run
run_of (ok a) = ok (record { verdict = declared_verdict a.verdict; records = bounds a.records_start a.records_length })
run_of (refuse n p) = refuse n p

pub record RunIs (answer : Bytes) (m : Result Accepted) (r : std.Result Run Refusal) : Type 0 where
  pub is : told r ≡ run_of m
  pub inside : IfOk r (λ run. Inside answer run.records)

-- where its records stand, where it has any
abbrev pub bounds_told : std.Result Bounds Refusal → Bounds
bounds_told (Ok b) = b
bounds_told (Err e) = bounds 0 0

pub record BoundsAre (answer : Bytes) (m : Result Accepted) (r : std.Result Bounds Refusal) : Type 0 where
  pub are : bounds_told r ≡ bounds_of m
  pub within : Inside answer (bounds_told r)

-- a run without a trace, behind a proof that ended before the byte `at`
abbrev pub EndsHere : Bytes → ℕ → declared.Verdict → std.Result Run Refusal → Type 0
EndsHere answer at verdict r = (e : SearchEnd Leaf) (v : Verdict) → verdict ≡ declared_verdict v → RunIs answer (end_here v (stopped e at (drop at answer))) r

-- ---- the list

-- a verdict into so many bytes of output: 13
unfoldable pub fitted : ℕ → Result Verdict → Result Verdict
fitted out v = v >>= λ v. room v out >>= λ _. ok v

-- the outcome of a check with this verdict, and the output after it
pub record Checks (v : Result Verdict) (out out' : Bytes) (r : std.Result declared.Verdict Refusal) : Type 0 where
  pub result_is : told r ≡ checking_of (fitted (length out) v)
  pub output_is : out' ≡ output_after out (fitted (length out) v >>= λ v. ok (list_string v))

-- behind a proof that ended before the byte `at` with these leaves opened
unfoldable pub list_verdict : Bytes → ℕ → List Leaf → Result Verdict
list_verdict answer at ls = verdict_of (end_here (Verdict.listed (map leaf_name ls)) (stopped (SearchEnd.listed ls) at (drop at answer)))

-- ---- the leaf found

-- the leaf of the string L at a byte of the answer
unfoldable pub leaf_in_answer : Bytes → ℕ → Leaf
leaf_in_answer answer leaf = leaf_in (take L_width (drop leaf answer))

-- a proof that ended at it, and the bytes behind it
unfoldable pub found_proof : Bytes → ℕ → ℕ → CheckedProof
found_proof answer leaf at = stopped (SearchEnd.found (leaf_in_answer answer leaf)) at (drop at answer)

-- ---- the rows behind the trace's records

-- a place
abbrev pub place_of : Option ℕ → std.Option ℕ
place_of none = None
place_of (some i) = Some i

-- 22: the lowest record but the last to which none refers
pub record Lowest (way : Way) (work work' : Bytes) (n : ℕ) (r : std.Option ℕ) : Type 0 where
  pub kept : Kept mark_column work work'
  pub is : r ≡ place_of (unreferenced way (nodes_in work n))

-- where the path digests of a trace stand in a slot
unfoldable pub digest_column : Way → ℕ
digest_column backward = 0
digest_column forward = 32

-- 24: they are there
pub record PathDigests (way : Way) (work work' : Bytes) (n : ℕ) : Type 0 where
  pub size : length work' ≡ length work
  pub digests : Digests work' (digest_column way) n (path_digests way (nodes_in work n))

-- the trace that stands in the table, whose bytes begin at `start` and end before `end`
unfoldable pub trace_in : Bytes → Bytes → ℕ → ℕ → ℕ → CheckedTrace
trace_in answer work start n end = record { records = nodes_in work n; places = places_in work start n; pos = end; rest = drop end answer }

-- 23 and 24, of the records ns at the places ps
unfoldable pub found_rows : Way → Leaf → List VersionNode → List ℕ → Result (Unit {0})
found_rows way l ns ps =
    let i = found_position way ns in
    need (eqb (node_at ns i).entity l.entity && eqb (node_at ns i).time l.time) found_record_differs (get_or ps i 0) >>= λ _.
    need (equal (get_or (path_digests way ns) i []) (leaf_digest way l)) path_digest_differs (get_or ps i 0)

-- the trace of the answer is in the table
pub record TraceInTable (way : Way) (size : ℕ) (answer : Bytes) (start : ℕ) (work : Bytes) (n end : ℕ) : Type 0 where
  pub is : read_trace way size start (drop start answer) ≡ ok (trace_in answer work start n end)
  pub inside : end ≤ length answer
  pub header : start + 5 ≤ length answer
  pub some_record : 1 ≤ n
  pub ready : Ready work n
