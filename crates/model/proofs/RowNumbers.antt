-- The numbers that rows give: no row has 0, so an outcome with number 0 is a verdict; and 10, the number of a row that is gone, "is not used
-- again" (request A10). Assumes nothing.
use mathlib.Core.Path.{◌≡◌, subst}
use mathlib.Core.Bool.{Bool, true, false, not, cond, ◌&&◌}
use mathlib.Core.List.{List, [], ◌∷◌, ◌++◌}
use Prim.Native.Nat.{ℕ, zero, suc, ◌+◌, ◌<◌}
use lib.Dec.{T, eqb, ltb, ltb→lt}
use lib.ListN.{length, get_or, drop}
use Rattle.model.specs.FormerRows.{flow_not_later}
use Rattle.model.specs.Result.{Result, ok, refuse, ◌>>=◌, need}
use Rattle.model.specs.Numbers.{Bytes, EntityKey, TimeKey}
use Rattle.model.specs.Log.{Record, birth, flow, BIRTH, FLOW, record_limit}
use Rattle.model.specs.LogRows.{parse, ends_rows, next_record, records_by, log_by, log_within, read_log}
use Rattle.model.specs.Graph.{VersionNode}
use Rattle.model.specs.Accumulator.{Subtree, Layout, Leaf, branch_width}
use Rattle.model.specs.Question.{Way, Part, version_only, trace_of, Question, one, all, question_part, question, SearchEnd, Descent, within}
use Rattle.model.specs.CheckRows.{take_string, CheckedProof, opening, subtree_in, chosen, check_tree, check_versions, none_due, check_leaf, check_all, path_limit, check_span, check_sought, check_entities, check_proof, read_record, CheckedTrace, read_records, enough, read_trace, trace_rows, end_here, with_trace, check_end, run_under, run, room, run_into}
use Rattle.model.specs.Recorder.{start_rows, offer, recorder_commitment}
use Rattle.model.specs.Calls.{hash_call, log_call, listing_call, commitment_bytes, commitment_call, answer_bytes, answer_call, verdict_of, check_call, fitting, writing}
use Rattle.model.proofs.Outcomes.{and_T}

-- a row's number is above 0, and not that of the row that is gone
abbrev pub in_use : ℕ → Bool
in_use n = ltb 0 n && not (eqb n flow_not_later)

pub data Numbered {A : Type 0} : Result A → Type 0 where
  given : (a : A) → Numbered (ok a)
  turned : (n p : ℕ) → T (in_use n) → Numbered (refuse n p)

turned_in_use : {A : Type 0} (n p : ℕ) → Numbered {A = A} (refuse n p) → T (in_use n)
turned_in_use n p (turned _ _ h) = h

pub number-above : {A : Type 0} (r : Result A) (n p : ℕ) → r ≡ refuse n p → Numbered r → 0 < n
number-above {A} r n p e h = ltb→lt 0 n (and_T (ltb 0 n) (not (eqb n flow_not_later)) (turned_in_use {A = A} n p (subst (Numbered {A = A}) e h))).0

pub never_10 : {A : Type 0} (r : Result A) (p : ℕ) → Numbered r → r ≡ refuse flow_not_later p → ⊥
never_10 {A} r p h e = turned_in_use {A = A} flow_not_later p (subst (Numbered {A = A}) e h)

row : (t : Bool) (n p : ℕ) → T (in_use n) → Numbered (need t n p)
unfolding need
row true n p h = given tt
row false n p h = turned n p h

after : {A B : Type 0} (m : Result A) (f : A → Result B) → Numbered m → ((a : A) → Numbered (f a)) → Numbered (m >>= f)
unfolding ◌>>=◌
after (ok a) f h g = g a
after (refuse n p) f h g = turned n p (turned_in_use n p h)

either : {A : Type 0} (t : Bool) (x y : Result A) → Numbered x → Numbered y → Numbered (cond t x y)
either true x y h g = h
either false x y h g = g

-- ---- the log

pub parse_numbered : (x : Bytes) (pos : ℕ) → Numbered (parse x pos)
unfolding parse
parse_numbered x pos =
    either (eqb (get_or x 0 0) BIRTH) _ _ (after _ _ (row _ 4 pos tt) (λ _. given _))
    (either (eqb (get_or x 0 0) FLOW) _ _ (after _ _ (row _ 4 pos tt) (λ _. given _)) (turned 3 pos tt))

ends : (rs : List Record) (r : Record) (pos : ℕ) → Numbered (ends_rows rs r pos)
unfolding ends_rows
ends rs (birth e t) pos = row _ 6 pos tt
ends rs (flow s d k t) pos = after _ _ (row _ 7 pos tt) (λ _. after _ _ (row _ 8 pos tt) (λ _. row _ 9 pos tt))

one_record : (limit : ℕ) (rs : List Record) (pos : ℕ) (x : Bytes) → Numbered (next_record limit rs pos x)
unfolding next_record
one_record limit rs pos x =
    after _ _ (row _ 2 pos tt) (λ _. after _ _ (parse_numbered x pos) (λ r. after _ _ (row _ 5 pos tt) (λ _. after _ _ (ends rs r pos) (λ _. given r))))

each : (limit f : ℕ) (rs : List Record) (pos : ℕ) (x : Bytes) → Numbered (records_by (next_record limit) f rs pos x)
unfolding records_by
each limit zero rs pos x = given rs
each limit (suc f) rs pos [] = given rs
each limit (suc f) rs pos (c ∷ x) = after _ _ (one_record limit rs pos (c ∷ x)) (λ r. each limit f (rs ++ (r ∷ [])) _ _)

pub log_numbered : (limit : ℕ) (x : Bytes) → Numbered (log_within limit x)
unfolding log_within log_by
log_numbered limit x = after _ _ (row _ 1 0 tt) (λ _. each limit (length x) [] 0 x)

-- ---- the proof

string : (letter width : ℕ) (due : Bytes) (pos : ℕ) (x : Bytes) → Numbered (take_string letter width due pos x)
unfolding take_string
string letter width due pos x =
    after _ _ (row _ 15 pos tt) (λ _. after _ _ (row _ 16 pos tt) (λ _. after _ _ (row _ 15 pos tt) (λ _. after _ _ (row _ 17 pos tt) (λ _. given _))))

module _ {A : Type 0} (l : Layout A) (d : Descent) (inside : Bytes → ℕ → ℕ → Bytes → Result CheckedProof)
    (h : (s : Bytes) (f pos : ℕ) (x : Bytes) → Numbered (inside s f pos x)) where
  tree : (f : ℕ) (k : Subtree) (pos : ℕ) (x : Bytes) → Numbered (check_tree l d inside f k pos x)
  unfolding check_tree
  tree zero k pos x = either (d.stops k) _ _ (given _) (turned 15 pos tt)
  tree (suc f) k pos x =
      either (d.stops k) _ _ (given _)
      (either (eqb k.least k.greatest) _ _
      (after _ _ (string l.leaf_letter l.leaf_width k.digest pos x)
      (λ s. after _ (λ r. ok (opening s r)) (h s f (pos + l.leaf_width) (drop l.leaf_width x)) (λ r. given (opening s r))))
      (after _ _ (string l.inner_letter branch_width k.digest pos x)
      (λ s. after _ (λ r. ok (opening s r)) (tree f (chosen d s) (pos + branch_width) (drop branch_width x)) (λ r. given (opening s r)))))

none_numbered : (pos : ℕ) (x : Bytes) → Numbered (none_due pos x)
unfolding none_due
none_numbered pos x = after _ _ (row _ 15 pos tt) (λ _. turned 16 pos tt)

leaf_numbered : (k : Subtree) (pos : ℕ) (x : Bytes) → Numbered (check_leaf k pos x)
unfolding check_leaf
leaf_numbered k pos x = after _ _ (string 0x4c 77 k.digest pos x) (λ s. given _)

all_numbered : (opens : Subtree → Bool) (n : ℕ) (k : Subtree) (pos : ℕ) (x : Bytes) → Numbered (check_all opens n k pos x)
unfolding check_all
all_numbered opens zero k pos x = either (opens k) _ _ (either (eqb k.least k.greatest) _ _ (leaf_numbered k pos x) (none_numbered pos x)) (given _)
all_numbered opens (suc n) k pos x =
    either (opens k) _ _
    (either (eqb k.least k.greatest) _ _ (leaf_numbered k pos x)
    (after _ _ (string 0x4e 97 k.digest pos x)
    (λ s. after _ _ (all_numbered opens n (subtree_in s 1) (pos + 97) (drop 97 x)) (λ a. after _ _ (all_numbered opens n (subtree_in s 49) a.pos a.rest) (λ b. given _)))))
    (given _)

sought_numbered : (q : Question) (f : ℕ) (k : Subtree) (pos : ℕ) (x : Bytes) → Numbered (check_sought q f k pos x)
unfolding check_sought check_versions check_span
sought_numbered (one q) f k pos x = tree _ _ _ (λ s f pos x. given _) f k pos x
sought_numbered (all p) f k pos x = after _ _ (all_numbered (within p) path_limit k pos x) (λ a. given _)

proof : (letter : ℕ) (q : Question) (due : Bytes) (pos : ℕ) (x : Bytes) → Numbered (check_proof letter q due pos x)
unfolding check_proof check_entities
proof letter q due pos x =
    after _ _ (string letter 65 due pos x)
    (λ s. after _ _ (tree _ _ _ (λ s f pos x. sought_numbered q f _ pos x) (length x) _ _ _) (λ r. given _))

-- ---- the trace

record_rows : (way : Way) (i : ℕ) (before : _) (pos : ℕ) (x : Bytes) → Numbered (read_record way i before pos x)
unfolding read_record
record_rows way i before pos x =
    after _ _ (row _ 15 pos tt) (λ _. after _ _ (row _ 16 pos tt) (λ _. after _ _ (row _ 15 pos tt) (λ _. after _ _ (row _ 20 pos tt) (λ _. after _ _ (row _ 21 pos tt) (λ _. given _)))))

records : (way : Way) (n : ℕ) (ns : List VersionNode) (ps : List ℕ) (pos : ℕ) (x : Bytes) → Numbered (read_records way n ns ps pos x)
unfolding read_records
records way zero ns ps pos x = given _
records way (suc n) ns ps pos x = after _ _ (record_rows way _ _ pos x) (λ r. records way n _ _ _ _)

trace : (way : Way) (work pos : ℕ) (x : Bytes) → Numbered (read_trace way work pos x)
unfolding read_trace enough
trace way work pos x =
    after _ _ (row _ 15 pos tt) (λ _. after _ _ (row _ 16 pos tt) (λ _. after _ _ (row _ 15 pos tt) (λ _. after _ _ (row _ 19 pos tt) (λ _. after _ _ (row _ 12 0 tt) (λ _. records way _ _ _ _ _)))))

rows : (way : Way) (l : Leaf) (t : CheckedTrace) → Numbered (trace_rows way l t)
unfolding trace_rows
rows way l t =
    after _ _ (row _ 18 _ tt) (λ _. after _ _ (row _ 22 _ tt) (λ _. after _ _ (row _ 23 _ tt) (λ _. row _ 24 _ tt)))

-- ---- the run

here : (v : _) (p : CheckedProof) → Numbered (end_here v p)
unfolding end_here
here v p = after _ _ (row _ 18 _ tt) (λ _. given _)

end : (p : Part) (work : ℕ) (r : CheckedProof) (e : SearchEnd Leaf) → Numbered (check_end p work r e)
unfolding check_end with_trace
end p work r (SearchEnd.not_found s) = here _ r
end p work r (SearchEnd.listed ls) = here _ r
end version_only work r (SearchEnd.found l) = here _ r
end (trace_of way) work r (SearchEnd.found l) = after _ _ (trace way work _ _) (λ t. after _ _ (rows way l t) (λ _. given _))

ask : (direction : ℕ) (s : EntityKey) (t t2 : TimeKey) → Numbered (question direction s t t2)
unfolding question
ask zero s t t2 = given _
ask (suc zero) s t t2 = given _
ask (suc (suc zero)) s t t2 = given _
ask (suc (suc (suc zero))) s t t2 = given _
ask (suc (suc (suc (suc zero)))) s t t2 = given _
ask (suc (suc (suc (suc (suc zero))))) s t t2 = given _
ask (suc (suc (suc (suc (suc (suc zero)))))) s t t2 = after _ _ (row _ 25 0 tt) (λ _. given _)
ask (suc (suc (suc (suc (suc (suc (suc d))))))) s t t2 = turned 11 0 tt

pub run_numbered : (direction : ℕ) (s : EntityKey) (t t2 : TimeKey) (c x : Bytes) (work : ℕ) → Numbered (run direction s t t2 c x work)
unfolding run run_under
run_numbered direction s t t2 c x work =
    after _ _ (ask direction s t t2) (λ q. after _ _ (row _ 14 0 tt) (λ _. after _ _ (proof _ q c 0 x) (λ p. end (question_part q) work p p.end)))

pub run_into_numbered : (direction : ℕ) (s : EntityKey) (t t2 : TimeKey) (c x : Bytes) (work out : ℕ) → Numbered (run_into direction s t t2 c x work out)
unfolding run_into room
run_into_numbered direction s t t2 c x work out = after _ _ (run_numbered direction s t t2 c x work) (λ a. after _ _ (row _ 13 0 tt) (λ _. given _))

-- ---- the calls that give a number

pub hash_numbered : (message out : Bytes) → Numbered (hash_call message out).result
unfolding hash_call writing fitting
hash_numbered message out = after _ _ (after _ _ (row _ 13 0 tt) (λ _. given _)) (λ _. given tt)

pub log_call_numbered : (log : Bytes) → Numbered (log_call log)
unfolding log_call read_log
log_call_numbered log = after _ _ (log_numbered record_limit log) (λ rs. given (length rs))

pub listing_numbered : (input out : Bytes) → Numbered (listing_call input out).result
unfolding listing_call writing fitting
listing_numbered input out = after _ _ (after _ _ (row _ 13 0 tt) (λ _. given _)) (λ y. given (length y))

pub commitment_numbered : (log out work : Bytes) → Numbered (commitment_call log out work).result
unfolding commitment_call writing commitment_bytes fitting enough read_log
commitment_numbered log out work =
    after _ _ (after _ _ (log_numbered record_limit log) (λ rs. after _ _ (row _ 12 0 tt) (λ _. after _ _ (row _ 13 0 tt) (λ _. given _)))) (λ _. given tt)

pub answer_numbered : (direction : ℕ) (s : EntityKey) (t t2 : TimeKey) (log out work : Bytes) → Numbered (answer_call direction s t t2 log out work).result
unfolding answer_call writing answer_bytes fitting enough read_log
answer_numbered direction s t t2 log out work =
    after _ _
    (after _ _ (ask direction s t t2) (λ q. after _ _ (log_numbered record_limit log) (λ rs. after _ _ (row _ 12 0 tt) (λ _. after _ _ (row _ 13 0 tt) (λ _. given _)))))
    (λ y. given (length y))

pub check_numbered : (direction : ℕ) (s : EntityKey) (t t2 : TimeKey) (c x out work : Bytes) → Numbered (check_call direction s t t2 c x out work).result
unfolding check_call verdict_of
check_numbered direction s t t2 c x out work = after _ _ (run_into_numbered direction s t t2 c x (length work) (length out)) (λ a. given a.verdict)

-- ---- the recorder

pub start_numbered : (n : ℕ) → Numbered (start_rows n)
unfolding start_rows
start_numbered n = row _ 26 0 tt

pub offer_numbered : (n : ℕ) (rs : List Record) (x : Bytes) → Numbered (offer n rs x)
unfolding offer
offer_numbered n rs x =
    after _ _ (row _ 4 0 tt)
    (λ _. after _ _ (one_record record_limit rs 0 x) (λ r. after _ _ (row _ 18 _ tt) (λ _. after _ _ (row _ 26 0 tt) (λ _. given r))))

pub recorder_commitment_numbered : (rs : List Record) (out : Bytes) → Numbered (recorder_commitment rs out)
unfolding recorder_commitment fitting
recorder_commitment_numbered rs out = after _ _ (row _ 1 0 tt) (λ _. after _ _ (row _ 13 0 tt) (λ _. given _))
