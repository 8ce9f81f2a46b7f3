-- The marks of the node table's slots: 1 at column 81 where there is one. Assumes nothing.
use Rattle.std.specs.Prelude.{◌≡◌, Bool, false, ◌&&◌, ◌||◌, List, [], ◌∷◌, ℕ, ◌+◌, ◌*◌, ◌<◌, eqb, ltb}
use Rattle.fields.specs.Fields.{field}
use Rattle.model.specs.Numbers.{Bytes}
use Rattle.model.specs.Trace.{refers}
use Rattle.graph.specs.Table.{slot_width, Slot, absent, node_in, Columns, columns, Kept}

abbrev pub mark_column : List Columns
mark_column = columns 81 82 ∷ []

unfoldable pub is_marked : Bytes → ℕ → Bool
is_marked work j = eqb (field 1 work (slot_width * j + 81)) 1

-- an edge's start stands in the table, if there is such an edge
pub record Stands (work : Bytes) (p : ℕ) : Type 0 where
  pub room : p < absent → Slot work p

-- ---- what a routine leaves

pub record MarkSet (work work' : Bytes) (i : ℕ) (b : Bool) : Type 0 where
  pub kept : Kept mark_column work work'
  pub here : is_marked work' i ≡ b
  pub others : (j : ℕ) → (j ≡ i → ⊥) → is_marked work' j ≡ is_marked work j

-- the first n slots are not marked
pub record Unmarked (work work' : Bytes) (n : ℕ) : Type 0 where
  pub kept : Kept mark_column work work'
  pub none : (j : ℕ) → j < n → is_marked work' j ≡ false

-- the start p of an edge is marked too, if there is such an edge
pub record StartMarked (work work' : Bytes) (p : ℕ) : Type 0 where
  pub kept : Kept mark_column work work'
  pub is : (j : ℕ) → is_marked work' j ≡ (is_marked work j || (ltb p absent && eqb p j))

-- the starts of slot i's edges are marked too
pub record StartsMarked (work work' : Bytes) (i : ℕ) : Type 0 where
  pub kept : Kept mark_column work work'
  pub is : (j : ℕ) → is_marked work' j ≡ (is_marked work j || refers j (node_in work i).in_edges)
