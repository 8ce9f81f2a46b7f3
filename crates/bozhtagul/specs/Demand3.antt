-- Demand 3, as the contract of the exported check says it. Assumes nothing.
use Rattle.std.specs.Prelude.{◌≡◌, ◌⊎◌, List, ℕ, ◌*◌, ◌≤◌, length}
use Rattle.fields.specs.Fields.{written}
use Rattle.model.specs.Numbers.{Bytes}
use Rattle.model.specs.Result.{ok}
use Rattle.model.specs.Log.{Record}
use Rattle.model.specs.Graph.{VersionNode, graph}
use Rattle.model.specs.Question.{Question, question_part, question, Verdict, count, name_width, list_string}
use Rattle.model.specs.Answer.{log_header, log_commitment, log_answer}
use Rattle.model.specs.CheckRows.{work_width, Accepted, run_into}
use Rattle.model.specs.Exact.{TrueVerdict, true_verdict, Escape, Faithful, SoundLog}
use Rattle.bozhtagul.specs.declared.Checked.{Checked}
use Rattle.bozhtagul.specs.Results.{checked}

-- "Take any sound log, any question": the commitment given is the log's
pub record Asked (direction s t t2 : ℕ) (commitment : Bytes) : Type 0 where
  pub log : Bytes
  pub records : List Record
  pub sound : SoundLog log records
  pub q : Question
  pub known : question direction s t t2 ≡ ok q
  pub of_log : commitment ≡ log_commitment records

-- "the list and its number are the verdict": what the check leaves in the output out
abbrev pub Lists : Verdict → Bytes → Bytes → Type 0
Lists v out out' = out' ≡ written out 0 (list_string v)

-- the call accepted the bytes x: `run_of` is what it read from them, it returned that verdict and left its list in the output. "then either
-- they are byte for byte the answer that document 01 defines for that log and question, the verdict is the true one, and the trace, if
-- there is one, shows every version and edge on the paths and no other, or two different strings, one hashed in building that commitment
-- and one in that check, have the same SHA-256 value"
pub record Exact (direction s t t2 : ℕ) (commitment x : Bytes) (size : ℕ) (out out' : Bytes) (a : Asked direction s t t2 commitment) (r : Checked) : Type 0 where
  pub run_of : Accepted
  pub ran : run_into direction s t t2 commitment x size (length out) ≡ ok run_of
  pub returned : r ≡ checked (ok run_of.verdict)
  pub listed : Lists run_of.verdict out out'
  pub demand_3 : Faithful (log_header a.records) (graph a.records) a.q x run_of
      ⊎ Escape (log_header a.records) (graph a.records) (question_part a.q) run_of

-- first half: whatever the bytes handed in, the work area and the output, number 0 means that
abbrev pub Sound : (direction s t t2 : ℕ) (commitment x work out out' : Bytes) → Checked → Type 0
Sound direction s t t2 commitment x work out out' r =
    (a : Asked direction s t t2 commitment) → r.number ≡ 0 → Exact direction s t t2 commitment x (length work) out out' a r

-- accepted with the true verdict, which is said by paths, and as the function
pub record Accepts (ns : List VersionNode) (q : Question) (out out' : Bytes) (r : Checked) : Type 0 where
  pub verdict : Verdict
  pub by_paths : TrueVerdict ns q verdict
  pub by_function : verdict ≡ true_verdict ns q
  pub returned : r ≡ checked (ok verdict)
  pub listed : Lists verdict out out'

-- bytes of output that are enough: 12 for each version of a list, none without a list
abbrev pub list_width : Verdict → ℕ
list_width (Verdict.not_found s) = 0
list_width (Verdict.found t n) = 0
list_width (Verdict.listed vs) = name_width * length vs

-- second half: "the defined answer, checked against the log's commitment with enough work area, is accepted with the true verdict";
-- "enough output goes with enough work area"
abbrev pub Complete : (direction s t t2 : ℕ) (commitment x work out out' : Bytes) → Checked → Type 0
Complete direction s t t2 commitment x work out out' r =
    (a : Asked direction s t t2 commitment) → x ≡ log_answer a.records a.q
    → work_width * count (true_verdict (graph a.records) a.q) ≤ length work
    → list_width (true_verdict (graph a.records) a.q) ≤ length out
    → Accepts (graph a.records) a.q out out' r
