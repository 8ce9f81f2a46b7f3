-- Versions ranked by entity and then by time, in columns of the node table. Column 116, 2 bytes: in slot i, the slot of the version of rank
-- i. Column 120, 2 bytes: in slot g, the rank of the first version of the g-th entity, in the order of births. Assumes nothing.
use Rattle.std.specs.Prelude.{◌≡◌, cond, List, [], ◌∷◌, map, ℕ, zero, suc, ◌+◌, ◌-◌, ◌*◌, ◌≤◌, ◌<◌, T, ltb, length, get_or}
use Rattle.fields.specs.Fields.{field}
use Rattle.model.specs.Numbers.{Bytes}
use Rattle.model.specs.Graph.{VersionNode, node_at}
use Rattle.model.specs.Accumulator.{is_entry, entities}
use Rattle.graph.specs.Table.{slot_width, Slot, entity_in, node_in, columns, Kept}
use Rattle.trees.specs.Tables.{HasGraph, versions, version_at}
use Rattle.ranks.specs.declared.Ranks.{Ranks}

-- the slot of the version of a rank
unfoldable pub slot_at : Bytes → ℕ → ℕ
slot_at work i = field 2 work (slot_width * i + 116)

-- the rank of the first version of the g-th entity; behind the last entity, the number of versions
unfoldable pub first_in : Bytes → Ranks → ℕ → ℕ
first_in work r g = cond (ltb g r.entities) (field 2 work (slot_width * g + 120)) r.versions

-- how many versions it has
unfoldable pub count_in : Bytes → Ranks → ℕ → ℕ
count_in work r g = first_in work r (g + 1) - first_in work r g

-- its number
unfoldable pub entity_at : Bytes → Ranks → ℕ → ℕ
entity_at work r g = entity_in work (slot_at work (first_in work r g))

-- ---- what a reader may assume

pub record Ranked (work : Bytes) (r : Ranks) : Type 0 where
  pub some_entity : 0 < r.entities
  pub fewer : r.entities ≤ r.versions
  pub few : r.versions ≤ 65535
  pub room : slot_width * r.versions ≤ length work
  pub slots : (i : ℕ) → i < r.versions → Slot work (slot_at work i)
  pub rise : (g h : ℕ) → g < h → h ≤ r.entities → first_in work r g < first_in work r h

-- ---- the ranks of a graph's versions

-- the slots of n versions, from rank i on
unfoldable pub slots_in : Bytes → ℕ → ℕ → List ℕ
slots_in work i zero = []
slots_in work i (suc n) = slot_at work i ∷ slots_in work (suc i) n

-- the versions of ns are ranked
pub record RankedAs (work : Bytes) (ns : List VersionNode) (r : Ranks) : Type 0 where
  pub ranked : Ranked work r
  pub number : r.entities ≡ length (entities ns)
  pub inside : (i : ℕ) → i < r.versions → slot_at work i < length ns
  pub names : (g : ℕ) → g < r.entities → entity_at work r g ≡ get_or (entities ns) g 0
  pub versions_are : (g : ℕ) → g < r.entities → map (version_at ns) (slots_in work (first_in work r g) (count_in work r g)) ≡ versions ns (get_or (entities ns) g 0)

-- the version in slot `entry` enters an entity, and so few versions are ranked that there is room for those of this one
pub record Unranked (work : Bytes) (n entry from : ℕ) : Type 0 where
  pub has_graph : HasGraph work n
  pub inside : entry < n
  pub enters : T (is_entry (node_in work entry))
  pub room : let ns = has_graph.ns in from + length (versions ns (node_at ns entry).entity) ≤ length ns

-- the versions of entity x are ranked from `from` on, up to `to`, and all else is as before
pub record VersionsRanked (work work' : Bytes) (ns : List VersionNode) (x from to : ℕ) : Type 0 where
  pub kept : Kept (columns 116 118 ∷ []) work work'
  pub earlier : (i : ℕ) → i < from → slot_at work' i ≡ slot_at work i
  pub number : to ≡ from + length (versions ns x)
  pub inside : (i : ℕ) → from ≤ i → i < to → slot_at work' i < length ns
  pub are : map (version_at ns) (slots_in work' from (length (versions ns x))) ≡ versions ns x
