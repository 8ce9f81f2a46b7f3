-- The exported calls of a running recorder, and what follows of any of them on one memory: request A4's promises. Assumes nothing.
use mathlib.Core.Path.{◌≡◌, refl, sym, ap, ◌∙◌, subst}
use mathlib.Core.Logic.{◌⊎◌}
use mathlib.Core.Bool.{Bool, true, false, cond}
use mathlib.Core.List.{List, [], ◌∷◌, ◌++◌, map}
use Prim.Native.Nat.{ℕ, ◌+◌, ◌*◌, ◌≤◌, ◌<◌}
use native.Mathlib.Omega.{arith}
use native.Mathlib.Nat.{not-suc-le-zero}
use borrow.Author.Tests.{leb-true}
use lib.Dec.{leb, le→leb}
use lib.ListN.{length, replicate, length-replicate}
use Rattle.fields.specs.Fields.{Octets, part, written as written_at}
use Rattle.model.specs.Numbers.{Bytes}
use Rattle.model.specs.Result.{Result, ok, refuse, ◌>>=◌, need}
use Rattle.model.specs.Log.{Record}
use Rattle.model.specs.Graph.{graph, CausalPath}
use Rattle.model.specs.Calls.{output_after, commitment_bytes, commitment_call, writing}
use Rattle.model.specs.CheckRows.{enough}
use Rattle.model.specs.LogRows.{read_log}
use Rattle.model.specs.Recorder.{unit, places, start_rows, offer, taken_with, taken, taken_after, all_taken, log_taken, recorder_commitment}
use Rattle.model.specs.RecorderMemory.{capacity, slot_bytes, table_start, Places}
use Rattle.model.proofs.Outcomes.{bind_eq, pass}
use Rattle.model.proofs.RowNumbers.{number-above, offer_numbered}
use Rattle.model.proofs.Recording.{log_taken-reads}
use Rattle.model.proofs.LogK.{computed, record_bytes}
use Rattle.std.specs.Prelude as std
use Rattle.std.specs.Prelude.{Ok, Err}
use Rattle.outcome.specs.declared.Refusal.{Refusal}
use Rattle.outcome.specs.Outcomes.{told}
use Rattle.recorder.specs.Holding.{Holds}
use Rattle.recorder.proofs.Starting.{some_memory_holds}
use Rattle.recorder.proofs.Places.{holds-places}
use Rattle.recorder.proofs.Anchors.{two_births, TwoBirths, two_births_held}
use Rattle.recorder.proofs.Reach.{reach}
use Rattle.recorder_calls.specs.Calling.{answered, started, Offered, Committed}
use Rattle.recorder_calls.proofs.Starting.{started-size, started-holds}
use Rattle.bozhtagul.specs.declared.Outcome.{Outcome}
use Rattle.bozhtagul.specs.Results.{outcome, outcome_of}
use Rattle.bozhtagul.proofs.Plain.{alone_agree}
use Rattle.bozhtagul.specs.Recorders.{RecorderStarted, RecordOffered, CommitmentAsked, After, fresh, next}

-- ---- one call

by_answer : {A : Type 0} (o : Result A) → outcome_of (answered o) ≡ outcome_of o
unfolding answered outcome_of outcome ◌>>=◌
by_answer (ok a) = refl
by_answer (refuse n p) = refl

module _ (m m' : Bytes) (a : std.Result (Unit {0}) Refusal) (e : told a ≡ start_rows (length m)) (f : m' ≡ started m) where
  abbrev plain : Outcome
  plain = outcome_of (told a)

  result_is : plain ≡ outcome_of (start_rows (length m))
  result_is = ap outcome_of e

  -- by whether the memory has 512 bytes
  number_by : (b : Bool) → leb unit (length m) ≡ b → plain.number ≡ (outcome_of (need b 26 0)).number
  unfolding start_rows
  number_by b q = ap (λ (r : Outcome). r.number) (result_is ∙ ap (λ (z : Bool). outcome_of (need z 26 0)) q)

  memory_by : (b : Bool) → leb unit (length m) ≡ b → m' ≡ cond b (written_at m 0 (replicate unit 0)) m
  unfolding started
  memory_by b q = f ∙ ap (λ (z : Bool). cond z (written_at m 0 (replicate unit 0)) m) q

  size_by : (b : Bool) → leb unit (length m) ≡ b → length m' ≡ length m
  size_by true q = ap length f ∙ started-size m (leb-true unit (length m) q)
  size_by false q = ap length (memory_by false q)

  kept_by : (b : Bool) → leb unit (length m) ≡ b → 0 < plain.number → m' ≡ m
  unfolding outcome_of outcome need ◌>>=◌
  kept_by true q h = absurd (not-suc-le-zero (subst (λ (z : ℕ). 0 < z) (number_by true q) h))
  kept_by false q h = memory_by false q

  holds_by : (b : Bool) → leb unit (length m) ≡ b → plain.number ≡ 0 → Holds m' []
  unfolding outcome_of outcome need ◌>>=◌
  holds_by true q h = subst (λ (z : Bytes). Holds z []) (sym f) (started-holds m (leb-true unit (length m) q))
  holds_by false q h = absurd (let z : ⊥ = omega (arith, h, number_by false q) in z)

  pub start_plain : (r : Outcome) → r ≡ plain → RecorderStarted m m' r
  start_plain r q =
      let b = leb unit (length m) in
      subst (RecorderStarted m m') (sym q) (record { size = size_by b refl; result = result_is; memory = f; kept = kept_by b refl; holds = holds_by b refl })

-- a row leaves what was lent
row_kept : {A : Type 0} (x x' : Bytes) (a : std.Result A Refusal) → ((e : Refusal) → a ≡ Err e → x' ≡ x) → 0 < (outcome_of (told a)).number → x' ≡ x
unfolding outcome_of outcome ◌>>=◌
row_kept x x' (Ok v) k h = absurd (not-suc-le-zero h)
row_kept x x' (Err e) k h = k e refl

module _ {A : Type 0} (a : std.Result A Refusal) (r : Outcome) (q : r ≡ outcome_of (told a)) where
  -- where a row turned the call away
  turned : 0 < r.number → 0 < (outcome_of (told a)).number
  turned h = subst (λ (z : Outcome). 0 < z.number) q h

pub take-plain : (x m m' : Bytes) (a : std.Result (Unit {0}) Refusal) → Offered x m m' a → (r : Outcome) → r ≡ outcome_of (told a) → RecordOffered x m m' r
take-plain x m m' a o r q =
    record {
      size = o.size;
      kept = λ h. row_kept m m' a o.kept (turned a r q h);
      result = λ rs h. q ∙ ap outcome_of (o.result rs h) ∙ by_answer (offer (length m) rs x);
      holds = o.memory;
    }

pub commitment-plain : (m out out' : Bytes) (w : std.Result ℕ Refusal) → Committed m out out' w → (r : Outcome) → r ≡ outcome_of (told w) → CommitmentAsked m out out' r
commitment-plain m out out' w c r q =
    record {
      size = c.size;
      kept = λ h. row_kept out out' w c.kept (turned w r q h);
      result = λ rs h. alone_agree (recorder_commitment rs out) w (c.gives rs h).result r q;
      output = λ rs h. (c.gives rs h).output;
    }

-- ---- the records taken of a list of offers

taken_snoc : (n : ℕ) (rs : List Record) (xs : List Bytes) (x : Bytes) → taken_after n rs (xs ++ (x ∷ [])) ≡ taken n (taken_after n rs xs) x
unfolding taken_after
taken_snoc n rs [] x = refl
taken_snoc n rs (y ∷ xs) x = taken_snoc n (taken n rs y) xs x

all_taken_snoc : (n : ℕ) (xs : List Bytes) (x : Bytes) → all_taken n (xs ++ (x ∷ [])) ≡ taken n (all_taken n xs) x
unfolding all_taken
all_taken_snoc n xs x = taken_snoc n [] xs x

none-taken : (n : ℕ) → all_taken n [] ≡ []
unfolding all_taken taken_after
none-taken n = refl

one-taken : (n : ℕ) (rs : List Record) (x : Bytes) (new : Record) → offer n rs x ≡ ok new → taken n rs x ≡ rs ++ (new ∷ [])
unfolding taken taken_with
one-taken n rs x new e = ap (taken_with rs) e

-- what the call `commitment` gives of the log made of them
same-commitment : (n : ℕ) (xs : List Bytes) (out : Bytes) (work : ℕ) → 0 < length (all_taken n xs) → 128 * length (all_taken n xs) ≤ work
    → recorder_commitment (all_taken n xs) out ≡ commitment_bytes (log_taken n xs) out work
unfolding recorder_commitment commitment_bytes enough
same-commitment n xs out work some room =
    let rs = all_taken n xs in
    pass (leb 1 (length rs)) _ _ _ (le→leb 1 (length rs) some)
    ∙ sym (bind_eq (read_log (log_taken n xs)) _ rs (log_taken-reads n xs some) ∙ pass (leb (128 * length rs) work) _ _ _ (le→leb (128 * length rs) work room))

-- ---- any calls on one memory

-- (c) "For every list of records offered to a fresh recorder": its memory holds those taken, in order
pub held : {n : ℕ} {xs : List Bytes} {m : Bytes} → After n xs m → (length m ≡ n) × Holds m (all_taken n xs)
held {n} (fresh m m' r e s z) = (s.size ∙ e, subst (Holds m') (sym (none-taken n)) (s.holds z))
held {n} (next xs x m m' r a o) =
    let h = held {n = n} {xs = xs} {m = m} a in (
      o.size ∙ h.0,
      subst (Holds m') (ap (λ (k : ℕ). taken k (all_taken n xs) x) h.0 ∙ sym (all_taken_snoc n xs x)) (o.holds (all_taken n xs) h.1),
    )

module _ {n : ℕ} {xs : List Bytes} {m : Bytes} (a : After n xs m) where
  abbrev rs : List Record
  rs = all_taken n xs

  -- (a) "After each call that memory holds, at places that the builders fix, every version's two digests and the keys and digest of every perfect subtree"
  pub places-after : Octets m → Places m (graph (all_taken n xs))
  places-after o = holds-places m (all_taken n xs) o (held a).1

  -- the next record is answered as the rows say
  pub answer-after : (x m' : Bytes) (r : Outcome) → RecordOffered x m m' r → r ≡ outcome_of (offer n (all_taken n xs) x)
  answer-after x m' r o = o.result rs (held a).1 ∙ ap (λ (k : ℕ). outcome_of (offer k rs x)) (held a).0

  -- (e) "A refused record ... leaves the lent memory as found", by the rows
  pub refused-after : (x m' : Bytes) (r : Outcome) → RecordOffered x m m' r → (k p : ℕ) → offer n (all_taken n xs) x ≡ refuse k p → m' ≡ m
  unfolding outcome_of outcome ◌>>=◌
  refused-after x m' r o k p q =
      let e : r ≡ record { number = k; position = p } = answer-after x m' r o ∙ ap outcome_of q in
      o.kept (subst (λ (z : Outcome). 0 < z.number) (sym e) (number-above (offer n rs x) k p q (offer_numbered n rs x)))

  module _ (out out' : Bytes) (r : Outcome) (c : CommitmentAsked m out out' r) where
    -- (c) "the commitment after it is the one of the log made of those taken, in order (number 1 while none is)": by the records ...
    pub commitment-after : (r ≡ outcome_of (recorder_commitment (all_taken n xs) out)) × (out' ≡ output_after out (recorder_commitment (all_taken n xs) out))
    commitment-after = (c.result rs (held a).1, c.output rs (held a).1)

    -- ... and by the log, whatever work area the call on it is lent, if it is enough
    pub as_of_the_log : 0 < length (all_taken n xs) → (work : Bytes) → 128 * length (all_taken n xs) ≤ length work
        → (r ≡ outcome (commitment_call (log_taken n xs) out work).result) × (out' ≡ (commitment_call (log_taken n xs) out work).output)
    unfolding commitment_call writing outcome_of
    as_of_the_log some work room =
        let e = same-commitment n xs out (length work) some room in
        (commitment-after.0 ∙ ap outcome_of e, commitment-after.1 ∙ ap (output_after out) e)

  -- (d) "outgoing digests change only at versions that reach the new one"
  pub reach_after : (x m' : Bytes) (r : Outcome) → RecordOffered x m m' r → (new : Record) → offer n (all_taken n xs) x ≡ ok new → (j : ℕ) → j < length (graph (all_taken n xs))
      → (part m' (table_start 0 (capacity n) + slot_bytes * j + 32) 32 ≡ part m (table_start 0 (capacity n) + slot_bytes * j + 32) 32)
      ⊎ CausalPath (graph (all_taken n xs ++ (new ∷ []))) j (length (graph (all_taken n xs)))
  reach_after x m' r o new q j g =
      let long = (held a).0 in
      let takes : taken (length m) rs x ≡ rs ++ (new ∷ []) = one-taken (length m) rs x new (ap (λ (k : ℕ). offer k rs x) long ∙ q) in
      subst
      (λ (k : ℕ). (part m' (table_start 0 (capacity k) + slot_bytes * j + 32) 32 ≡ part m (table_start 0 (capacity k) + slot_bytes * j + 32) 32)
      ⊎ CausalPath (graph (rs ++ (new ∷ []))) j (length (graph rs)))
      long
      (reach m m' rs new o.size (held a).1 (subst (Holds m') takes (o.holds rs (held a).1)) j g)

-- ---- anchors

-- the least memory that can be started, all zero before, after a start
pub after_a_start : After 512 [] (started (replicate 512 0))
unfolding start_rows need outcome_of outcome ◌>>=◌
after_a_start =
    fresh (replicate 512 0) (started (replicate 512 0)) (record { number = 0; position = 0 }) (length-replicate {A = ℕ} 512 0)
    (start_plain (replicate 512 0) _ (Ok tt) refl refl _ refl) refl

-- a start below 512 bytes, which leaves what it found
pub short-start : (m m' : Bytes) (r : Outcome) → length m ≡ 511 → RecorderStarted m m' r → (r ≡ record { number = 26; position = 0 }) × (m' ≡ m)
unfolding start_rows need ◌>>=◌ outcome_of outcome
short-start m m' r n s =
    let e : r ≡ record { number = 26; position = 0 } = s.result ∙ ap (λ (k : ℕ). outcome_of (start_rows k)) n in
    (e, s.kept (subst (λ (z : Outcome). 0 < z.number) (sym e) (omega arith)))

-- a start with a byte more, which stays
pub long-start : (m' : Bytes) (r : Outcome) → RecorderStarted (replicate 513 7) m' r → (r ≡ record { number = 0; position = 0 }) × (m' ≡ replicate 512 0 ++ (7 ∷ []))
unfolding start_rows need ◌>>=◌ outcome_of outcome started written_at
long-start m' r s = (s.result, s.memory)

-- whatever the memory holds, the output keeps its length
pub output-length : (m out out' : Bytes) (r : Outcome) → length out ≡ 31 → CommitmentAsked m out out' r → length out' ≡ 31
output-length m out out' r n c = c.size ∙ n

-- a memory to which two births were offered after a fresh start has their digests and the nodes of their trees, in numbered bytes
pub two_births_after : (m : Bytes) → Octets m → After 1536 (map record_bytes two_births) m → TwoBirths m
unfolding computed places offer taken_with taken taken_after all_taken
two_births_after m o a = two_births_held m o (held a).0 (held a).1

-- an empty record, and then the commitment, of a memory that has taken none: each part of what the calls are held to is used
pub empty_offered : (m' : Bytes) (r : Outcome) → RecordOffered [] (replicate 512 0) m' r → (r ≡ record { number = 4; position = 0 }) × (m' ≡ replicate 512 0)
unfolding offer need ◌>>=◌ outcome_of outcome
empty_offered m' r o =
    let e : r ≡ record { number = 4; position = 0 } = o.result [] some_memory_holds in
    (e, o.kept (subst (λ (z : Outcome). 0 < z.number) (sym e) (omega arith)))

pub none_committed : (out out' : Bytes) (r : Outcome) → CommitmentAsked (replicate 512 0) out out' r → (r ≡ record { number = 1; position = 0 }) × (out' ≡ out)
unfolding recorder_commitment need ◌>>=◌ outcome_of outcome
none_committed out out' r c =
    let e : r ≡ record { number = 1; position = 0 } = c.result [] some_memory_holds in
    (e, c.kept (subst (λ (z : Outcome). 0 < z.number) (sym e) (omega arith)))
