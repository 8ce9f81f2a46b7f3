-- Groups of slots whose I strings are hashed side by side. Assumes nothing.
use Rattle.std.specs.Prelude.{◌≡◌, ◌⊎◌, ℕ, ◌+◌, ◌*◌, ◌≤◌, ◌<◌, length, get_or}
use mathlib.Core.List.{List, [], ◌∷◌, Memᴰ}
use Rattle.fields.specs.Fields.{part}
use Rattle.model.specs.Numbers.{Bytes, H}
use Rattle.model.specs.Graph.{InEdge}
use Rattle.model.specs.Digest.{incoming_string, incoming_digests}
use Rattle.graph.specs.Table.{slot_width, node_in, nodes_in, Ready, columns, Kept}
use Rattle.graph.specs.Links.{Starts}
use Rattle.incoming.specs.Links.{in_links}

-- how many edges lead into slot j
unfoldable pub in_count : Bytes → ℕ → ℕ
in_count work j = length (node_in work j).in_edges

-- ---- slots without in-edges

-- the incoming digest of every one of them
unfoldable pub no_in_edges : Bytes
no_in_edges = H (incoming_string [])

-- those among the first i slots hold it
pub record Entries (work : Bytes) (i : ℕ) : Type 0 where
  pub each : (j : ℕ) → j < i → in_count work j ≡ 0 → part work (slot_width * j) 32 ≡ no_in_edges

-- so they do, and all but the incoming digests is as before
pub record EntriesDone (work work' : Bytes) (i : ℕ) : Type 0 where
  pub kept : Kept (columns 0 32 ∷ []) work work'
  pub entries : Entries work' i

-- of n slots, those from a place up to r have no in-edges
pub record Skipped (work : Bytes) (n from r : ℕ) : Type 0 where
  pub on : from ≤ r
  pub within : r ≤ n
  pub none : (j : ℕ) → from ≤ j → j < r → in_count work j ≡ 0

-- ---- slot by slot

-- slot j of n holds its incoming digest
unfoldable pub Right : Bytes → ℕ → ℕ → Type 0
Right work n j = part work (slot_width * j) 32 ≡ get_or (incoming_digests (nodes_in work n)) j []

-- slot j stands before slot `first`, or has no in-edges
abbrev pub Settled : Bytes → ℕ → ℕ → Type 0
Settled work first j = (j < first) ⊎ (in_count work j ≡ 0)

-- every settled slot holds its incoming digest
pub record Turn (work : Bytes) (n first : ℕ) : Type 0 where
  pub ready : Ready work n
  pub few : first ≤ n
  pub right : (j : ℕ) → j < n → Settled work first j → Right work n j

-- so it is in a table of which nothing but incoming digests was changed
pub record InTurn (work work' : Bytes) (n first : ℕ) : Type 0 where
  pub kept : Kept (columns 0 32 ∷ []) work work'
  pub turn : Turn work' n first

-- ---- a group

-- slot j has as many in-edges as the others of the group, and they start at settled slots
pub record Joins (work : Bytes) (n first edges j : ℕ) : Type 0 where
  pub here : j < n
  pub alike : in_count work j ≡ edges
  pub starts : (e : InEdge) → Memᴰ e (node_in work j).in_edges → Settled work first e.start

-- slot j has no in-edges, or joins the group
pub data Fits (work : Bytes) (n first edges j : ℕ) : Type 0 where
  entry : j < n → in_count work j ≡ 0 → Fits work n first edges j
  member : Joins work n first edges j → Fits work n first edges j

-- slot j is one of the first `count` of some slots
pub record Taken (slots : List ℕ) (count j : ℕ) : Type 0 where
  pub lane : ℕ
  pub below : lane < count
  pub here : get_or slots lane 0 ≡ j

-- the first `count` of some slots are a group; from slot `first` up to slot `end` no others have in-edges
pub record Gathered (work : Bytes) (n first : ℕ) (slots : List ℕ) (count edges end : ℕ) : Type 0 where
  pub size : length slots ≡ 8
  pub few : count ≤ 8
  pub narrow : edges ≤ 2
  pub on : first < end
  pub within : end ≤ n
  pub each : (l : ℕ) → l < count → Joins work n first edges (get_or slots l 0)
  pub all : (j : ℕ) → first ≤ j → j < end → (in_count work j ≡ 0) ⊎ Taken slots count j

-- a group up to slot i, which fits, has become one up to the slot after it
pub record Grown (work : Bytes) (i : ℕ) (slots : List ℕ) (count : ℕ) (slots' : List ℕ) (count' : ℕ) : Type 0 where
  pub group : (n first edges : ℕ) → Gathered work n first slots count edges i → Fits work n first edges i → Gathered work n first slots' count' edges (i + 1)

-- ---- its strings and its digests

-- the first `count` slots are there, and their edges start at earlier ones
pub record Members (work : Bytes) (slots : List ℕ) (count : ℕ) : Type 0 where
  pub few : count ≤ 8
  pub each : (l : ℕ) → l < count → Starts work (get_or slots l 0)

-- the I strings of the first `count` slots; string l stands at 118 * l
pub record StringsPut (work : Bytes) (slots : List ℕ) (count : ℕ) (b : Bytes) : Type 0 where
  pub size : length b ≡ 944
  pub each : (l : ℕ) → l < count → part b (118 * l) (2 + 58 * in_count work (get_or slots l 0)) ≡ incoming_string (in_links work (get_or slots l 0))

-- the first `count` slots hold the digests ds: whatever digest f says of each slot, a slot that held it or is one of them holds it
pub record DigestsPut (work work' : Bytes) (slots : List ℕ) (count : ℕ) (ds : Bytes) : Type 0 where
  pub kept : Kept (columns 0 32 ∷ []) work work'
  pub right : (f : ℕ → Bytes) → ((l : ℕ) → l < count → part ds (32 * l) 32 ≡ f (get_or slots l 0))
      → (j : ℕ) → (part work (slot_width * j) 32 ≡ f j) ⊎ Taken slots count j → part work' (slot_width * j) 32 ≡ f j
