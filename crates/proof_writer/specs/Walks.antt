-- The walk through one of the two trees, by the keys of its leaves: where it goes on, and where it ends. Assumes nothing.
use Rattle.std.specs.Prelude.{◌≡◌, Bool, false, cond, List, ◌++◌, ℕ, ◌+◌, ◌-◌, ◌*◌, ◌≤◌, ◌<◌, length, get_or}
use Rattle.model.specs.Numbers.{Bytes, joined}
use Rattle.model.specs.Accumulator.{Subtree as Known, tip, Layout, subtree, tree, largest_power_below, VersionLeaf, versions_layout, no_leaf, Group, entities_layout, no_group}
use Rattle.model.specs.Question as model
use Rattle.model.specs.Question.{SearchEnd, by_entity, by_time, Opened, stop, after, open_tree}
use Rattle.question.specs.Directions.{relation_of}
use Rattle.accumulator.specs.Halves.{own, path_to}
use Rattle.kept_trees.specs.declared.Row.{Row}
use Rattle.kept_trees.specs.declared.Row.TheVariants.{Versions, Entities}
use Rattle.ranks.specs.declared.Ranks.{Ranks}
use Rattle.kept_trees.specs.Leaves.{size_of}
use Rattle.proof_writer.specs.declared.Stretch.{Stretch}
use Rattle.proof_writer.specs.declared.Descent.{Descent}
use Rattle.proof_writer.specs.declared.Descent.TheVariants.{ByEntity, ByTime}
use Rattle.proof_writer.specs.declared.Sought.{Sought}
use Rattle.proof_writer.specs.declared.Sought.TheVariants.{Stopped, Reached}

-- ---- descents

unfoldable pub descent_of : Descent → model.Descent
descent_of (ByEntity e) = by_entity e.0
descent_of (ByTime r t) = by_time (relation_of r) t.0

-- the row of leaves that it goes by
abbrev pub row_of : Descent → Row
row_of (ByEntity e) = Entities
row_of (ByTime r t) = Versions

-- ---- the leaves of a row, in the definitions

abbrev pub LeafOf : Row → Type 0
LeafOf Versions = VersionLeaf
LeafOf Entities = Group

abbrev pub layout_of : (row : Row) → Layout (LeafOf row)
layout_of Versions = versions_layout
layout_of Entities = entities_layout

abbrev pub none_of : (row : Row) → LeafOf row
none_of Versions = no_leaf
none_of Entities = no_group

-- ---- halves

-- some leaves of a row, one at least
pub record Among (row : Row) (r : Ranks) (s : Stretch) : Type 0 where
  pub some : 0 < s.n
  pub inside : s.from + s.n ≤ size_of row r

-- the left half or the right
unfoldable pub half_of : Stretch → Bool → Stretch
half_of s left =
    let k = largest_power_below s.n in
    cond left (record { from = s.from; n = k }) (record { from = s.from + k; n = s.n - k })

-- ---- a walk

unfoldable pub onto : List Bytes → Opened → Opened
onto ss w = record { end = w.end; opened = ss ++ w.opened }

-- a walk in the tree of xs opens `depth` strings on the way to leaf `target`, and then w
pub record Walked {A : Type 0} (l : Layout A) (d : model.Descent) (inside : A → Opened) (a : A) (xs : List A) (target depth : ℕ) (w : Opened) : Type 0 where
  pub is : open_tree l d inside (tree a xs) ≡ onto (path_to l.inner_letter (own l xs) target depth) w
  pub long : length (joined (path_to l.inner_letter (own l xs) target depth)) ≡ 97 * depth

-- it stops at a tree on that way, or opens the leaf
pub record StoppedAt {A : Type 0} (l : Layout A) (d : model.Descent) (inside : A → Opened) (a : A) (xs : List A) (target depth : ℕ) : Type 0 where
  pub known : Known
  pub walked : Walked l d inside a xs target depth (stop (SearchEnd.not_found (d.stop_at known)))

pub record ReachedAt {A : Type 0} (l : Layout A) (d : model.Descent) (inside : A → Opened) (a : A) (xs : List A) (target depth : ℕ) : Type 0 where
  pub met : d.stops (subtree l (tip (get_or xs target a))) ≡ false
  pub walked : Walked l d inside a xs target depth (after (l.string (get_or xs target a)) (inside (get_or xs target a)))

unfoldable pub SoughtIs : {A : Type 0} → Layout A → model.Descent → (A → Opened) → A → List A → Sought → Type 0
SoughtIs l d inside a xs (Stopped target depth) = StoppedAt l d inside a xs target depth
SoughtIs l d inside a xs (Reached target depth) = ReachedAt l d inside a xs target depth

-- it leads to one of n leaves
unfoldable pub target_of : Sought → ℕ
target_of (Stopped target depth) = target
target_of (Reached target depth) = target

unfoldable pub depth_of : Sought → ℕ
depth_of (Stopped target depth) = depth
depth_of (Reached target depth) = depth

pub record Leads (n : ℕ) (r : Sought) : Type 0 where
  pub inside : target_of r < n
  pub shallow : depth_of r ≤ n
