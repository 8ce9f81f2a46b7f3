-- The reader's answers as document 01's definitions give them. A known subtree is kept as the place of its 48 bytes in the answer.
-- Assumes nothing.
use Rattle.std.specs.Prelude.{◌≡◌, true, false, cond, ℕ, ◌+◌, ◌≤◌, eqb, length, take, drop, Ok, Err}
use Rattle.std.specs.Prelude as std
use Rattle.model.specs.Numbers.{Bytes, TimeKey}
use Rattle.model.specs.Result.{Result, ok, refuse}
use Rattle.model.specs.Accumulator.{G_width, L_width, branch_width, Subtree, Leaf}
use Rattle.model.specs.Question as model
use Rattle.model.specs.Question.{Relation, Question, entity_of, SearchEnd, Descent}
use Rattle.model.specs.CheckRows.{take_string, CheckedProof, subtree_in, leaf_in, check_versions, check_sought, check_entities}
use Rattle.outcome.specs.declared.Refusal.{Refusal}
use Rattle.outcome.specs.Outcomes.{number_of}
use Rattle.proof_reader.specs.declared.Opening.{Opening}
use Rattle.proof_reader.specs.declared.Opening.TheVariants.{Leaf as LeafTaken, Inner as InnerTaken}
use Rattle.proof_reader.specs.declared.Stop.{Stop}
use Rattle.proof_reader.specs.declared.Stop.TheVariants.{NoEntity, NotYet, NoneSoLate}
use Rattle.proof_reader.specs.declared.EntitySearch.{EntitySearch}
use Rattle.proof_reader.specs.declared.EntitySearch.TheVariants.{NoEntity as ToNothing, Group as ToGroup}
use Rattle.proof_reader.specs.declared.Proof.{Proof}
use Rattle.proof_reader.specs.declared.Proof.TheVariants.{Stopped, Found}

-- m is turned away, and so by e
abbrev pub RefusedBy : {A : Type 0} → Result A → Refusal → Type 0
RefusedBy m e = m ≡ refuse (number_of e.row) e.position

-- ---- strings

-- the string at byte `at` passes rows 15 to 17
pub record Passes (answer : Bytes) (at letter width : ℕ) (due : Bytes) : Type 0 where
  pub inside : at + width ≤ length answer
  pub is : take_string letter width due at (drop at answer) ≡ ok (take width (drop at answer))

-- it does, or the row that it meets
pub data Takes (answer : Bytes) (at letter width : ℕ) (due : Bytes) : std.Result (Unit {0}) Refusal → Type 0 where
  taken : Passes answer at letter width due → Takes answer at letter width due (Ok tt)
  cut : (e : Refusal) → RefusedBy (take_string letter width due at (drop at answer)) e → Takes answer at letter width due (Err e)

-- the string of the known subtree k, a leaf's if its keys are equal
unfoldable pub string_due : ℕ → ℕ → ℕ → Subtree → ℕ → Bytes → Result Bytes
string_due leaf width inner k pos x =
    cond (eqb k.least k.greatest) (take_string leaf width k.digest pos x) (take_string inner branch_width k.digest pos x)

pub data Opens (leaf width inner : ℕ) (answer : Bytes) (at : ℕ) (k : Subtree) : std.Result Opening Refusal → Type 0 where
  at_leaf : eqb k.least k.greatest ≡ true → Passes answer at leaf width k.digest → Opens leaf width inner answer at k (Ok LeafTaken)
  at_inner : eqb k.least k.greatest ≡ false → Passes answer at inner branch_width k.digest → Opens leaf width inner answer at k (Ok InnerTaken)
  unopened : (e : Refusal) → RefusedBy (string_due leaf width inner k at (drop at answer)) e → Opens leaf width inner answer at k (Err e)

-- ---- the rules of the walks

-- where the subtree stands in which a descent goes on behind the string of two subtrees at byte `at`
unfoldable pub side_of : Descent → Bytes → ℕ → ℕ
side_of d answer at = cond (d.goes_left (subtree_in answer (at + 1)) (subtree_in answer (at + 49))) (at + 1) (at + 49)

-- where a walk stopped
unfoldable pub stop_of : model.Stop → Stop
stop_of model.no_entity = NoEntity
stop_of (model.not_yet first) = NotYet (record { 0 = first })
stop_of (model.none_so_late last) = NoneSoLate (record { 0 = last })

-- ---- the walk

-- the walks from byte `at` on, in the subtree at byte `known`
unfoldable pub versions_at : Relation → TimeKey → Bytes → ℕ → ℕ → Result CheckedProof
versions_at r t answer at known = check_versions r t (length (drop at answer)) (subtree_in answer known) at (drop at answer)

-- for one version, or for all between two times
unfoldable pub sought_at : Question → Bytes → ℕ → ℕ → Result CheckedProof
sought_at q answer at known = check_sought q (length (drop at answer)) (subtree_in answer known) at (drop at answer)

unfoldable pub entities_at : Question → Bytes → ℕ → ℕ → Result CheckedProof
entities_at q answer at known = check_entities q (length (drop at answer)) (subtree_in answer known) at (drop at answer)

-- a proof read: how it ends, and that the bytes left are those from byte `at` on
pub record Gives (answer : Bytes) (m : Result CheckedProof) (e : SearchEnd Leaf) (at : ℕ) : Type 0 where
  pub proof : CheckedProof
  pub is : m ≡ ok proof
  pub end_is : proof.end ≡ e
  pub pos_is : proof.pos ≡ at
  pub rest_is : proof.rest ≡ drop at answer
  pub inside : at ≤ length answer

-- m goes on as n: it ends as n does
pub record GoesOn (answer : Bytes) (m n : Result CheckedProof) : Type 0 where
  pub ends : (e : SearchEnd Leaf) (at : ℕ) → Gives answer n e at → Gives answer m e at
  pub refuses : (number position : ℕ) → n ≡ refuse number position → m ≡ refuse number position

-- the walk to the entity s, for every question of it: it ends there, or goes on behind a string G, or meets a row
pub data SearchIs (answer : Bytes) (s : ℕ) (check : Question → Result CheckedProof) : std.Result EntitySearch Refusal → Type 0 where
  to_nothing : (at : ℕ) → ((q : Question) → entity_of q ≡ s → Gives answer (check q) (SearchEnd.not_found model.no_entity) at) → SearchIs answer s check (Ok (ToNothing at))
  to_group : (at : ℕ) → at + G_width ≤ length answer → ((q : Question) → entity_of q ≡ s → GoesOn answer (check q) (sought_at q answer (at + G_width) (at + 9)))
      → SearchIs answer s check (Ok (ToGroup at))
  unsought : (e : Refusal) → ((q : Question) → entity_of q ≡ s → RefusedBy (check q) e) → SearchIs answer s check (Err e)

-- how it ends, or the row that it meets and where
pub data ProofIs (answer : Bytes) (m : Result CheckedProof) : std.Result Proof Refusal → Type 0 where
  stopped : (s : Stop) (e : model.Stop) (at : ℕ) → s ≡ stop_of e → Gives answer m (SearchEnd.not_found e) at → ProofIs answer m (Ok (Stopped s at))
  found : (leaf at : ℕ) → at ≡ leaf + L_width → Gives answer m (SearchEnd.found (leaf_in (take L_width (drop leaf answer)))) at → ProofIs answer m (Ok (Found leaf at))
  refused : (e : Refusal) → RefusedBy m e → ProofIs answer m (Err e)
