-- What a plan of an answer's proof says, and what writing it asks for. Assumes nothing.
use Rattle.std.specs.Prelude.{◌≡◌, List, [], ◌∷◌, ◌++◌, ℕ, ◌+◌, ◌*◌, ◌≤◌, ◌<◌, length, get_or}
use Rattle.model.specs.Numbers.{Bytes, joined}
use Rattle.model.specs.Graph.{VersionNode}
use Rattle.model.specs.Accumulator.{letter_N, letter_P, tree, VersionLeaf, versions_layout, no_leaf, entities_layout, entities, group, version_leaves, entity_tree, leaf_string, Header, root}
use Rattle.model.specs.Question.{SpanQuestion, Question, entity_of, Stop, no_entity, SearchEnd, after, open_all, within, open_sought, open_entities}
use Rattle.question.specs.Directions.{span_of}
use Rattle.accumulator.specs.Halves.{own, path_to}
use Rattle.trees.specs.Tables.{Graphed, HasGraph, groups, versions, version_at}
use Rattle.ranks.specs.declared.Ranks.{Ranks}
use Rattle.ranks.specs.Ranked.{RankedAs}
use Rattle.kept_trees.specs.Kept.{TreesKept}
use Rattle.proof_writer.specs.declared.Way.{Way}
use Rattle.proof_writer.specs.declared.EntityPath.{EntityPath}
use Rattle.proof_writer.specs.declared.Planned.{Planned}
use Rattle.proof_writer.specs.declared.Planned.TheVariants.{NoEntity, Unmet, Found, Listed}
use Rattle.proof_writer.specs.Walks.{onto}

-- ---- strings

-- the strings P on the way, the entity's string G, the strings N on the way
unfoldable pub entity_path : List VersionNode → EntityPath → List Bytes
entity_path ns p = path_to letter_P (own entities_layout (groups ns)) p.target p.depth

unfoldable pub entity_string : List VersionNode → ℕ → Bytes
entity_string ns x = entities_layout.string (group (version_leaves ns) x)

unfoldable pub version_path : List VersionNode → ℕ → Way → List Bytes
version_path ns x w = path_to letter_N (own versions_layout (versions ns x)) w.target w.depth

-- the strings that a span of times opens of an entity's tree
unfoldable pub listed_strings : List VersionNode → ℕ → SpanQuestion → List Bytes
listed_strings ns x p = (open_all versions_layout (within p) (tree no_leaf (versions ns x))).opened

-- the entity that a path leads to
abbrev pub reached_entity : List VersionNode → EntityPath → ℕ
reached_entity ns p = get_or (entities ns) p.target 0

-- the strings behind R, of a proof about entity x
unfoldable pub strings_of : List VersionNode → ℕ → Planned → List Bytes
strings_of ns x (NoEntity size p) = entity_path ns p
strings_of ns x (Unmet size p w) = entity_path ns p ++ (entity_string ns x ∷ version_path ns x w)
strings_of ns x (Listed size p s) = entity_path ns p ++ (entity_string ns x ∷ listed_strings ns x (span_of s))
strings_of ns x (Found size p w slot) = entity_path ns p ++ (entity_string ns x ∷ (version_path ns x w ++ (leaf_string (version_at ns slot).leaf ∷ [])))

-- ---- a plan

unfoldable pub path_of : Planned → EntityPath
path_of (NoEntity size p) = p
path_of (Unmet size p w) = p
path_of (Found size p w slot) = p
path_of (Listed size p s) = p

-- the length of the proof
unfoldable pub length_of : Planned → ℕ
length_of (NoEntity size p) = size
length_of (Unmet size p w) = size
length_of (Found size p w slot) = size
length_of (Listed size p s) = size

-- how the proof ends
unfoldable pub EndIs : List VersionNode → Planned → SearchEnd VersionLeaf → Type 0
EndIs ns (NoEntity size p) e = e ≡ SearchEnd.not_found no_entity
EndIs ns (Unmet size p w) e = (s : Stop) × (e ≡ SearchEnd.not_found s)
EndIs ns (Found size p w slot) e = e ≡ SearchEnd.found (version_at ns slot)
EndIs ns (Listed size p s) e = (vs : List VersionLeaf) × (e ≡ SearchEnd.listed vs)

-- the trees of the graph are kept, and the way leads to one of the entities
pub record PathIs (work : Bytes) (ns : List VersionNode) (p : EntityPath) : Type 0 where
  pub ranked : RankedAs work ns p.ranks
  pub kept : TreesKept work p.ranks
  pub inside : p.target < p.ranks.entities
  pub shallow : p.depth ≤ 65535
  pub long : length (joined (entity_path ns p)) ≡ 97 * p.depth

-- to entity x, and on to one of its versions
pub record WayIs (ns : List VersionNode) (x : ℕ) (p : EntityPath) (w : Way) : Type 0 where
  pub name : get_or (entities ns) p.target 0 ≡ x
  pub inside : w.target < length (versions ns x)
  pub shallow : w.depth ≤ 65535
  pub long : length (joined (version_path ns x w)) ≡ 97 * w.depth

unfoldable pub RestIs : List VersionNode → ℕ → Planned → Type 0
RestIs ns x (NoEntity size p) = size ≡ 65 + 97 * p.depth
RestIs ns x (Unmet size p w) = WayIs ns x p w × (size ≡ 122 + 97 * p.depth + 97 * w.depth)
RestIs ns x (Found size p w slot) = WayIs ns x p w × (slot < length ns) × (size ≡ 122 + 97 * p.depth + (97 * w.depth + 77))
RestIs ns x (Listed size p s) = (reached_entity ns p ≡ x) × (size ≡ 122 + 97 * p.depth + length (joined (listed_strings ns x (span_of s))))

pub record PlanIs (work : Bytes) (ns : List VersionNode) (q : Question) (r : Planned) : Type 0 where
  pub path : PathIs work ns (path_of r)
  pub rest : RestIs ns (entity_of q) r
  pub end : SearchEnd VersionLeaf
  pub ends : EndIs ns r end
  pub is : open_entities q (entity_tree ns) ≡ record { end = end; opened = strings_of ns (entity_of q) r }

-- a plan of the proof for a question, over a table of n versions
pub record Plan (work : Bytes) (n : ℕ) (q : Question) (r : Planned) : Type 0 where
  pub of : (ns : List VersionNode) → Graphed work n ns → PlanIs work ns q r

-- ---- planning

-- ranks and kept trees of the table's graph
pub record HasTrees (work : Bytes) (n : ℕ) (r : Ranks) : Type 0 where
  pub graph : HasGraph work n
  pub ranked : RankedAs work graph.ns r
  pub kept : TreesKept work r

-- and a way that leads to one of the entities
pub record HasPath (work : Bytes) (n : ℕ) (p : EntityPath) : Type 0 where
  pub graph : HasGraph work n
  pub path : PathIs work graph.ns p

-- the walk goes on in the entity's tree
pub record Reaches (work : Bytes) (ns : List VersionNode) (q : Question) (p : EntityPath) : Type 0 where
  pub path : PathIs work ns p
  pub name : reached_entity ns p ≡ entity_of q
  pub is : open_entities q (entity_tree ns)
      ≡ onto (entity_path ns p) (after (entity_string ns (entity_of q)) (open_sought q (group (version_leaves ns) (entity_of q)).versions))

-- ---- writing

-- a plan for some question
pub record HasPlan (work : Bytes) (n : ℕ) (r : Planned) : Type 0 where
  pub graph : HasGraph work n
  pub q : Question
  pub plan : Plan work n q r

-- a way that leads to an entity and on to one of its versions
pub record HasWay (work : Bytes) (n : ℕ) (p : EntityPath) (w : Way) : Type 0 where
  pub graph : HasGraph work n
  pub path : PathIs work graph.ns p
  pub way : WayIs graph.ns (reached_entity graph.ns p) p w

-- R and the strings P; G too; and the strings N
unfoldable pub front_bytes : Header → List VersionNode → EntityPath → Bytes
front_bytes h ns p = joined (root h ns ∷ entity_path ns p)

unfoldable pub entity_bytes : Header → List VersionNode → EntityPath → Bytes
entity_bytes h ns p = front_bytes h ns p ++ entity_string ns (reached_entity ns p)

unfoldable pub walk_bytes : Header → List VersionNode → EntityPath → Way → Bytes
walk_bytes h ns p w = entity_bytes h ns p ++ joined (version_path ns (reached_entity ns p) w)

-- a way that leads to an entity, and room for the list of its versions in a span
pub record HasList (work : Bytes) (n : ℕ) (p : EntityPath) (s : SpanQuestion) (room : ℕ) : Type 0 where
  pub graph : HasGraph work n
  pub path : PathIs work graph.ns p
  pub space : 122 + 97 * p.depth + length (joined (listed_strings graph.ns (reached_entity graph.ns p) s)) ≤ room

-- R, the strings P, G and the strings that the span opens
unfoldable pub list_bytes : Header → List VersionNode → EntityPath → SpanQuestion → Bytes
list_bytes h ns p s = entity_bytes h ns p ++ joined (listed_strings ns (reached_entity ns p) s)
