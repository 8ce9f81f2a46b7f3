-- All strings of an entity's tree that two times open, read in preorder, and the list of the versions that they name. A known subtree is kept
-- as the place of its 48 bytes in the answer. Assumes nothing.
use Rattle.std.specs.Prelude.{◌≡◌, Bool, true, false, ◌||◌, List, [], ◌∷◌, map, ℕ, ◌+◌, ◌*◌, ◌≤◌, eqb, leb, length, get_or, take, drop, Ok, Err}
use Rattle.std.specs.Prelude as std
use Rattle.model.specs.Numbers.{Bytes}
use Rattle.model.specs.Result.{Result, ok}
use Rattle.model.specs.Accumulator.{letter_L, letter_N, L_width, branch_width, Subtree, Leaf}
use Rattle.model.specs.Question.{SpanQuestion, no_entity, SearchEnd, within, VersionName, name_width}
use Rattle.model.specs.CheckRows.{CheckedProof, subtree_in, leaf_in, CheckedAll, none_due, check_all, leaf_name}
use Rattle.outcome.specs.declared.Refusal.{Refusal}
use Rattle.proof_reader.specs.declared.Opening.{Opening}
use Rattle.proof_reader.specs.declared.Span.{Span}
use Rattle.proof_reader.specs.declared.ListProof.{ListProof}
use Rattle.proof_reader.specs.declared.ListProof.TheVariants.{NoEntity, Listed as ToList}
use Rattle.proof_reader.specs.Walks.{RefusedBy, Opens, Gives}

-- ---- one string

-- a letter is due for the string of the known subtree k: L if its keys are equal, else N if n more may stand on its path
unfoldable pub letter_due : ℕ → Subtree → Bool
letter_due n k = leb 1 n || eqb k.least k.greatest

-- its string, or the row that it meets
pub data DueOpens (n : ℕ) (answer : Bytes) (at : ℕ) (k : Subtree) : std.Result Opening Refusal → Type 0 where
  due : (r : std.Result Opening Refusal) → letter_due n k ≡ true → Opens letter_L L_width letter_N answer at k r → DueOpens n answer at k r
  not_due : (e : Refusal) → letter_due n k ≡ false → RefusedBy (none_due at (drop at answer)) e → DueOpens n answer at k (Err e)

-- ---- all strings

-- from byte `at` on, of the subtree at byte `known`, with n more N on its path
unfoldable pub all_at : SpanQuestion → ℕ → Bytes → ℕ → ℕ → Result CheckedAll
all_at p n answer at known = check_all (within p) n (subtree_in answer known) at (drop at answer)

-- they were read: so many leaves, and the bytes left are those from byte `at` on
pub record Reads (answer : Bytes) (m : Result CheckedAll) (at count : ℕ) : Type 0 where
  pub walk : CheckedAll
  pub is : m ≡ ok walk
  pub pos_is : walk.pos ≡ at
  pub rest_is : walk.rest ≡ drop at answer
  pub count_is : length walk.leaves ≡ count
  pub inside : at ≤ length answer

-- they were, or the row met and where
pub data SpanIs (answer : Bytes) (m : Result CheckedAll) : std.Result Span Refusal → Type 0 where
  read : (r : Span) → Reads answer m r.at r.count → SpanIs answer m (Ok r)
  refused : (e : Refusal) → RefusedBy m e → SpanIs answer m (Err e)

-- ---- the proof of a list

-- L and N strings one after the other, told apart by their letters alone: the versions that the L strings name in turn, and the bytes left
pub data Named : Bytes → List VersionName → Bytes → Type 0 where
  at_end : (x : Bytes) → Named x [] x
  an_L : (x rest : Bytes) (vs : List VersionName) → get_or x 0 0 ≡ letter_L → L_width ≤ length x → Named (drop L_width x) vs rest
      → Named x (leaf_name (leaf_in (take L_width x)) ∷ vs) rest
  an_N : (x rest : Bytes) (vs : List VersionName) → get_or x 0 0 ≡ letter_N → branch_width ≤ length x → Named (drop branch_width x) vs rest → Named x vs rest

-- the strings from byte `start` to byte `end`, which name the versions of these leaves in turn
pub record ListStrings (answer : Bytes) (start end count : ℕ) : Type 0 where
  pub leaves : List Leaf
  pub named : Named (drop start answer) (map leaf_name leaves) (drop end answer)
  pub inside : end ≤ length answer
  pub count_is : length leaves ≡ count
  pub few : count ≤ 65536

-- how it ends, or the row that it meets and where
pub data ListIs (answer : Bytes) (m : Result CheckedProof) : std.Result ListProof Refusal → Type 0 where
  without : (at : ℕ) → Gives answer m (SearchEnd.not_found no_entity) at → ListIs answer m (Ok (NoEntity at))
  lists : (start end count : ℕ) (l : ListStrings answer start end count) → Gives answer m (SearchEnd.listed l.leaves) end → ListIs answer m (Ok (ToList start end count))
  unlisted : (e : Refusal) → RefusedBy m e → ListIs answer m (Err e)

-- ---- the list

-- the versions that the strings from byte `start` to byte `end` name, and room for their names
pub record Listed (answer : Bytes) (start end room : ℕ) : Type 0 where
  pub names : List VersionName
  pub named : Named (drop start answer) names (drop end answer)
  pub inside : end ≤ length answer
  pub fits : name_width * length names ≤ room
