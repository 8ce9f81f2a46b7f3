-- The leaves of the versions in a node table, and digests kept in its column 84, of 32 bytes. Assumes nothing.
use Rattle.std.specs.Prelude.{◌≡◌, ◌⊎◌, List, [], ◌∷◌, ℕ, ◌+◌, ◌*◌, ◌≤◌, ◌<◌, length, get_or}
use Rattle.fields.specs.Fields.{part}
use Rattle.model.specs.Numbers.{Bytes}
use Rattle.model.specs.Accumulator.{Leaf, leaf_string, Subtree as Known}
use Rattle.graph.specs.Table.{slot_width, Slot, entity_in, time_in, columns, Kept}
use Rattle.accumulator.specs.Trees.{version_leaf}

-- the leaf of the version in slot i
unfoldable pub slot_leaf : Bytes → ℕ → Leaf
slot_leaf work i =
    record {
      entity = entity_in work i;
      time = time_in work i;
      incoming = part work (slot_width * i) 32;
      outgoing = part work (slot_width * i + 32) 32;
    }

-- its digest
abbrev pub leaf_digest : Bytes → ℕ → Bytes
leaf_digest work i = (version_leaf (slot_leaf work i)).digest

-- ---- some slots

-- the first k of them lie within the table
pub record Slots (work : Bytes) (slots : List ℕ) (k : ℕ) : Type 0 where
  pub inside : (l : ℕ) → l < k → Slot work (get_or slots l 0)

-- b holds the strings L of the first k of them, 77 bytes each
pub record Strings (work : Bytes) (slots : List ℕ) (k : ℕ) (b : Bytes) : Type 0 where
  pub size : length b ≡ 616
  pub strings : (l : ℕ) → l < k → part b (77 * l) 77 ≡ leaf_string (slot_leaf work (get_or slots l 0))

-- ---- kept digests

-- the digest kept in slot i
abbrev pub digest_in : Bytes → ℕ → Bytes
digest_in work i = part work (slot_width * i + 84) 32

-- what is known of a leaf whose digest is kept in its version's slot
unfoldable pub kept_leaf : Bytes → ℕ → Known
kept_leaf work i = record { least = time_in work i; greatest = time_in work i; digest = digest_in work i }

-- the first k of some digests are kept in the slots from `from` on, and all else is as before
pub record Filling (work : Bytes) (from : ℕ) (digests : Bytes) (k : ℕ) (work' : Bytes) : Type 0 where
  pub kept : Kept (columns 84 116 ∷ []) work work'
  pub here : (l : ℕ) → l < k → digest_in work' (from + l) ≡ part digests (32 * l) 32
  pub others : (j : ℕ) → (j < from) ⊎ (from + k ≤ j) → digest_in work' j ≡ digest_in work j

-- the digests of the leaves in the first k of some slots are
pub record LeavesKept (work : Bytes) (slots : List ℕ) (k from : ℕ) (work' : Bytes) : Type 0 where
  pub kept : Kept (columns 84 116 ∷ []) work work'
  pub here : (l : ℕ) → l < k → digest_in work' (from + l) ≡ leaf_digest work (get_or slots l 0)
  pub others : (j : ℕ) → (j < from) ⊎ (from + k ≤ j) → digest_in work' j ≡ digest_in work j
