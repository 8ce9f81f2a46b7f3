-- The versions of a trace in the node table: their slots have a mark. Column 124 is a slot's position, 4 bytes: which record of the trace its
-- version's is (document 01's "position"). Assumes nothing.
use Rattle.std.specs.Prelude.{◌≡◌, Bool, cond, ◌&&◌, ◌||◌, List, [], ◌∷◌, ◌++◌, ℕ, zero, suc, ◌+◌, ◌*◌, ◌<◌, eqb, ltb, length}
use Rattle.fields.specs.Fields.{field}
use Rattle.model.specs.Numbers.{Bytes}
use Rattle.model.specs.Question as question
use Rattle.model.specs.Trace.{refers, trace_versions}
use Rattle.marks.specs.Marks.{mark_column, is_marked}
use Rattle.graph.specs.Table.{slot_width, absent, previous_in, source_in, node_in, nodes_in, Ready, Columns, columns, Kept}

abbrev pub position_column : List Columns
position_column = columns 124 128 ∷ []

-- all that preparing a trace writes to
abbrev pub trace_columns : List Columns
trace_columns = columns 81 82 ∷ columns 124 128 ∷ []

-- what slot j says
unfoldable pub slot_position : Bytes → ℕ → ℕ
slot_position work j = field 4 work (slot_width * j + 124)

-- the marked ones of the first i slots
unfoldable pub members : Bytes → ℕ → List ℕ
members work zero = []
members work (suc i) = cond (is_marked work i) (members work i ++ (i ∷ [])) (members work i)

-- there is such an edge, and it starts at a marked slot
unfoldable pub is_inside : Bytes → ℕ → Bool
is_inside work p = ltb p absent && is_marked work p

-- one of slot i's edges does
unfoldable pub starts_inside : Bytes → ℕ → Bool
starts_inside work i = is_inside work (previous_in work i) || is_inside work (source_in work i)

-- ---- what a routine leaves

-- of the first n slots, just v is marked
pub record OnlyMarked (work work' : Bytes) (n v : ℕ) : Type 0 where
  pub kept : Kept mark_column work work'
  pub only : (j : ℕ) → j < n → is_marked work' j ≡ eqb j v

-- they are, if slot i is marked
pub record Spread (work work' : Bytes) (i : ℕ) : Type 0 where
  pub kept : Kept mark_column work work'
  pub is : (j : ℕ) → is_marked work' j ≡ (is_marked work j || (is_marked work i && refers j (node_in work i).in_edges))

-- just the versions of the trace from v are marked
pub record MarksDone (way : question.Way) (work work' : Bytes) (n v : ℕ) : Type 0 where
  pub kept : Kept mark_column work work'
  pub versions : members work' n ≡ trace_versions way (nodes_in work n) v

-- every slot has its position: the number of marked slots before it
pub record PositionsDone (work work' : Bytes) (n : ℕ) : Type 0 where
  pub kept : Kept position_column work work'
  pub positions : (j : ℕ) → j < n → slot_position work' j ≡ length (members work' j)

-- so it is in a table that is ready
pub record Positioned (work : Bytes) (n : ℕ) : Type 0 where
  pub ready : Ready work n
  pub positions : (j : ℕ) → j < n → slot_position work j ≡ length (members work j)

-- marks and positions stand for the trace from the version at v
pub record Prepared (way : question.Way) (work : Bytes) (n v : ℕ) : Type 0 where
  pub positioned : Positioned work n
  pub here : v < n
  pub versions : members work n ≡ trace_versions way (nodes_in work n) v
