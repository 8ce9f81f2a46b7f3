-- What the exported calls of a running recorder are held to, request A4. `Holds m rs` says that the memory m is as a fresh start and the calls since left
-- it, which have taken the records rs; of other memory only what does not ask for it is promised. Assumes nothing.
use Rattle.std.specs.Prelude.{◌≡◌, List, [], ◌∷◌, ◌++◌, ℕ, ◌<◌, length}
use Rattle.model.specs.Numbers.{Bytes}
use Rattle.model.specs.Log.{Record}
use Rattle.model.specs.Calls.{output_after}
use Rattle.model.specs.Recorder.{start_rows, offer, taken, recorder_commitment}
use Rattle.recorder.specs.Holding.{Holds}
use Rattle.recorder_calls.specs.Calling.{started}
use Rattle.bozhtagul.specs.declared.Outcome.{Outcome}
use Rattle.bozhtagul.specs.Results.{outcome_of}

-- a fresh start of the memory m: it is m' then
pub record RecorderStarted (m m' : Bytes) (r : Outcome) : Type 0 where
  pub size : length m' ≡ length m
  pub result : r ≡ outcome_of (start_rows (length m))
  pub memory : m' ≡ started m
  pub kept : 0 < r.number → m' ≡ m
  pub holds : r.number ≡ 0 → Holds m' []

-- the record x is offered
pub record RecordOffered (x m m' : Bytes) (r : Outcome) : Type 0 where
  pub size : length m' ≡ length m
  pub kept : 0 < r.number → m' ≡ m
  pub result : (rs : List Record) → Holds m rs → r ≡ outcome_of (offer (length m) rs x)
  pub holds : (rs : List Record) → Holds m rs → Holds m' (taken (length m) rs x)

-- the commitment is asked for; the memory is lent to be read only
pub record CommitmentAsked (m out out' : Bytes) (r : Outcome) : Type 0 where
  pub size : length out' ≡ length out
  pub kept : 0 < r.number → out' ≡ out
  pub result : (rs : List Record) → Holds m rs → r ≡ outcome_of (recorder_commitment rs out)
  pub output : (rs : List Record) → Holds m rs → out' ≡ output_after out (recorder_commitment rs out)

-- a memory of n bytes after a fresh start and the records xs offered to it, in order, by what the calls are held to
pub data After (n : ℕ) : List Bytes → Bytes → Type 0 where
  fresh : (m m' : Bytes) (r : Outcome) → length m ≡ n → RecorderStarted m m' r → r.number ≡ 0 → After n [] m'
  next : (xs : List Bytes) (x m m' : Bytes) (r : Outcome) → After n xs m → RecordOffered x m m' r → After n (xs ++ (x ∷ [])) m'
