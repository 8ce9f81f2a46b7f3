-- The two rows of a table with ranks: what is read of them, what stays when digests are kept, and that the trees do not disturb each other.
-- Assumes nothing.
use mathlib.Core.Path.{◌≡◌, refl, sym, ap, ap₂, ◌∙◌, subst}
use mathlib.Core.Bool.{cond}
use mathlib.Core.Logic.{◌⊎◌, inl, inr, ⊎_elim}
use mathlib.Core.List.{List, [], ◌∷◌, map}
use Prim.Native.Nat.{ℕ, zero, suc, ◌+◌, ◌-◌, ◌*◌, ◌≤◌, ◌<◌}
use native.Mathlib.Omega.{arith}
use lib.Dec.{T, ltb, lit≤}
use lib.ListN.{length}
use Rattle.fields.specs.Fields.{decode, part, field, written}
use Rattle.fields.proofs.Numbers.{le_or_lt}
use Rattle.model.specs.Numbers.{Bytes}
use Rattle.model.specs.Accumulator.{Subtree as Known, branch_string, largest_power_below}
use Rattle.model.proofs.Strings.{H-length}
use Rattle.model.specs.Graph.{VersionNode}
use Rattle.graph.specs.Table.{Columns, columns, outside, Kept, time_in}
use Rattle.graph.proofs.Slots.{kept_then, field-within}
use Rattle.accumulator.specs.declared.Subtree.{Subtree}
use Rattle.accumulator.specs.Trees.{known, parent_of, version_leaf, group_leaf}
use Rattle.accumulator.proofs.Splitting.{split_bounds}
use Rattle.leaves.specs.Leaves.{slot_leaf, digest_in}
use Rattle.leaves.proofs.Keeping.{slot_leaf-kept}
use Rattle.trees.specs.Tables.{version_at}
use Rattle.ranks.specs.declared.Ranks.{Ranks}
use Rattle.ranks.specs.Ranked.{slot_at, first_in, count_in, entity_at, Ranked, slots_in, RankedAs}
use Rattle.ranks.proofs.Reading.{first-inside, some-versions, count-inside}
use Rattle.kept_trees.specs.declared.Row.{Row}
use Rattle.kept_trees.specs.declared.Row.TheVariants.{Versions, Entities}
use Rattle.kept_trees.specs.Leaves.{Leaves, tree_of, version_known, versions_row, entity_known, entities_row, row_leaves, letter_of, size_of, Within}
use Rattle.kept_trees.specs.Kept.{LeafDigests, KeptTree, node_kept, Stored, Keeping, VersionsKept, TreesKept, Ready}
use Rattle.kept_trees.proofs.Stretches.{tree-leaf}
use Rattle.kept_trees.proofs.Building.{kept_same, node-is, leaves-left, leaves-right, Rises, keeping_two}

-- ---- leaves

pub row_letter : (row : Row) (m : Bytes) (r : Ranks) → letter_of row ≡ (row_leaves row m r).letter
unfolding versions_row entities_row
row_letter Versions m r = refl
row_letter Entities m r = refl

pub branch-letter : (row : Row) (m : Bytes) (r : Ranks) (letter at : ℕ) (a b : Known) (out out1 : Bytes) → letter ≡ letter_of row → out1 ≡ written out at (branch_string letter a b)
    → out1 ≡ written out at (branch_string (row_leaves row m r).letter a b)
branch-letter row m r letter at a b out out1 e f = f ∙ ap (λ (x : ℕ). written out at (branch_string x a b)) (e ∙ row_letter row m r)

pub row_32 : (row : Row) (m : Bytes) (r : Ranks) (i : ℕ) → length ((row_leaves row m r).leaf i).digest ≡ 32
unfolding versions_row entities_row version_known version_leaf entity_known group_leaf
row_32 Versions m r i = H-length _
row_32 Entities m r i = H-length _

-- a leaf has one key
pub row_greatest : (row : Row) (m : Bytes) (r : Ranks) (i : ℕ) → ((row_leaves row m r).leaf i).greatest ≡ ((row_leaves row m r).leaf i).least
unfolding versions_row entities_row version_known version_leaf entity_known group_leaf
row_greatest Versions m r i = refl
row_greatest Entities m r i = refl

-- by which row it is
pub version-inside : (row : Row) (r : Ranks) (i : ℕ) → row ≡ Versions → i < size_of row r → i < r.versions
version-inside row r i e h = subst (λ (x : Row). i < size_of x r) e h

pub entity-inside : (row : Row) (r : Ranks) (g : ℕ) → row ≡ Entities → g < size_of row r → g < r.entities
entity-inside row r g e h = subst (λ (x : Row). g < size_of x r) e h

pub version-key : (row : Row) (m : Bytes) (r : Ranks) (i t : ℕ) → row ≡ Versions → t ≡ time_in m (slot_at m i) → t ≡ ((row_leaves row m r).leaf i).least
unfolding versions_row version_known version_leaf slot_leaf
version-key row m r i t e p = p ∙ ap (λ (x : Row). ((row_leaves x m r).leaf i).least) (sym e)

pub entity-key : (row : Row) (m : Bytes) (r : Ranks) (g x : ℕ) → row ≡ Entities → x ≡ entity_at m r g → x ≡ ((row_leaves row m r).leaf g).least
unfolding entities_row entity_known group_leaf
entity-key row m r g x e p = p ∙ ap (λ (x : Row). ((row_leaves x m r).leaf g).least) (sym e)

pub version-slot : (m : Bytes) (i : ℕ) → i ≡ (versions_row m).slot i
unfolding versions_row
version-slot m i = refl

pub version-keeps : (row : Row) (m : Bytes) (r : Ranks) (i : ℕ) → row ≡ Versions → i ≡ (row_leaves row m r).slot i
version-keeps row m r i e = version-slot m i ∙ ap (λ (x : Row). (row_leaves x m r).slot i) (sym e)

pub entity-keeps : (row : Row) (m : Bytes) (r : Ranks) (g f : ℕ) → row ≡ Entities → f ≡ first_in m r g → f ≡ (row_leaves row m r).slot g
unfolding entities_row
entity-keeps row m r g f e p = p ∙ ap (λ (x : Row). (row_leaves x m r).slot g) (sym e)

pub size_small : (row : Row) (m : Bytes) (r : Ranks) → Ranked m r → size_of row r ≤ 65535
size_small Versions m r R = R.few
size_small Entities m r R = omega (arith, R.fewer, R.few)

-- the slot that keeps a digest is there
pub slot-there : (row : Row) (m : Bytes) (r : Ranks) (i s : ℕ) → Ranked m r → i < size_of row r → s ≡ (row_leaves row m r).slot i → 128 * s + 128 ≤ length m
unfolding versions_row entities_row
slot-there Versions m r i s R h e = omega (arith, R.room)
slot-there Entities m r i s R h e = let f = first-inside m r R i h in omega (arith, R.room)

pub node-read : (row : Row) (m : Bytes) (r : Ranks) (i n k a b s : ℕ) (d : Bytes) → a ≡ ((row_leaves row m r).leaf i).least → b ≡ ((row_leaves row m r).leaf (i + (n - 1))).least
    → s ≡ (row_leaves row m r).slot (i + k) → d ≡ digest_in m s → known (record { least = a; greatest = b; digest = d }) ≡ node_kept (row_leaves row m r) m i n k
unfolding known node_kept
node-read row m r i n k a b s d p q t u =
    let v = u ∙ ap (digest_in m) t in
    let w = q ∙ sym (row_greatest row m r (i + (n - 1))) in
    λ z. record { least = p z; greatest = w z; digest = v z }

pub version-read : (m : Bytes) (i s : ℕ) (k : Subtree) → s ≡ slot_at m i → known k ≡ version_leaf (slot_leaf m s) → known k ≡ version_known m i
unfolding version_known
version-read m i s k e f = f ∙ ap (λ (x : ℕ). version_leaf (slot_leaf m x)) e

version_leaf-read : (m : Bytes) (i : ℕ) (k : Known) → k ≡ version_known m i → k ≡ (versions_row m).leaf i
unfolding versions_row
version_leaf-read m i k e = e

pub leaf-version : (row : Row) (m : Bytes) (r : Ranks) (i : ℕ) (k : Known) → row ≡ Versions → k ≡ version_known m i → k ≡ (row_leaves row m r).leaf i
leaf-version row m r i k e p = version_leaf-read m i k p ∙ ap (λ (x : Row). (row_leaves x m r).leaf i) (sym e)

pub leaf-entity : (row : Row) (m : Bytes) (r : Ranks) (g x : ℕ) (v k : Known) → row ≡ Entities → x ≡ entity_at m r g
    → (VersionsKept m r → v ≡ tree_of (versions_row m) (first_in m r g) (count_in m r g)) → k ≡ group_leaf x v → Ready row m r → k ≡ (row_leaves row m r).leaf g
unfolding entities_row entity_known
leaf-entity row m r g x v k e p q f VK = f ∙ ap₂ group_leaf p (q (subst (λ (x : Row). Ready x m r) e VK)) ∙ ap (λ (x : Row). (row_leaves x m r).leaf g) (sym e)

-- an entity's leaves stand together
pub versions-within : (m : Bytes) (r : Ranks) (R : Ranked m r) (g f n : ℕ) → g < r.entities → f ≡ first_in m r g → n ≡ count_in m r g → Within Versions r f n
versions-within m r R g f n h p q =
    let a = some-versions m r R g h in
    let b = count-inside m r R g h in
    record { some = omega arith; inside = omega arith }

-- what the table says of an entity's tree
pub versions-one : (m : Bytes) (r : Ranks) (g f n : ℕ) (k : Known) → f ≡ first_in m r g → n ≡ count_in m r g → 0 < n → n ≤ 1 → k ≡ version_known m f
    → k ≡ tree_of (versions_row m) (first_in m r g) (count_in m r g)
versions-one m r g f n k p q some h e =
    version_leaf-read m f k e
    ∙ sym (tree-leaf (versions_row m) f n some h)
    ∙ ap₂ (tree_of (versions_row m)) p q

pub versions_two : (m : Bytes) (r : Ranks) (g f n j : ℕ) (k : Known) → g < r.entities → f ≡ first_in m r g → n ≡ count_in m r g → 1 < n → j ≡ largest_power_below n
    → k ≡ node_kept (versions_row m) m f n j → VersionsKept m r → k ≡ tree_of (versions_row m) (first_in m r g) (count_in m r g)
versions_two m r g f n j k h p q more split e VK =
    let T : KeptTree (versions_row m) m f n = subst (λ (x : ℕ). KeptTree (versions_row m) m x n) (sym p) (subst (KeptTree (versions_row m) m (first_in m r g)) (sym q) (VK.kept g h)) in
    node-is (versions_row m) m f n j more split k e T
    ∙ ap₂ (tree_of (versions_row m)) p q

-- ---- what stays when other columns change

-- columns of which no row's leaves or slots are read
pub record Beside (cs : List Columns) : Type 0 where
  pub digests : T (outside cs 0 64)
  pub versions : T (outside cs 64 12)
  pub ranked : T (outside cs 116 2)
  pub firsts : T (outside cs 120 2)

-- the digests kept are such
abbrev pub digests_beside : Beside (columns 84 116 ∷ [])
digests_beside = record { digests = tt; versions = tt; ranked = tt; firsts = tt }

module _ (cs : List Columns) (w w' : Bytes) (K : Kept cs w w') (O : Beside cs) where
  pub slot_same : (i : ℕ) → slot_at w' i ≡ slot_at w i
  unfolding slot_at field
  slot_same i = ap decode (K.same i 116 2 O.ranked)

  slots_same : (i n : ℕ) → slots_in w' i n ≡ slots_in w i n
  unfolding slots_in
  slots_same i zero = refl
  slots_same i (suc n) = ap₂ {C = List ℕ} (λ (k : ℕ) (ks : List ℕ). k ∷ ks) (slot_same i) (slots_same (suc i) n)

  pub version-same : (i : ℕ) → version_known w' i ≡ version_known w i
  unfolding version_known
  version-same i = ap version_leaf (slot_leaf-kept cs w w' (slot_at w' i) K O.digests O.versions ∙ ap (slot_leaf w) (slot_same i))

  pub versions_row-same : versions_row w' ≡ versions_row w
  unfolding versions_row
  versions_row-same = λ z. record { letter = 0x4e; leaf = λ i. version-same i z; slot = λ i. i }

  module _ (r : Ranks) where
    pub first-same : (g : ℕ) → first_in w' r g ≡ first_in w r g
    unfolding first_in field
    first-same g = ap (λ (x : Bytes). cond (ltb g r.entities) (decode x) r.versions) (K.same g 120 2 O.firsts)

    pub count_same : (g : ℕ) → count_in w' r g ≡ count_in w r g
    unfolding count_in
    count_same g = ap₂ ◌-◌ (first-same (g + 1)) (first-same g)

    pub entity-same : (g : ℕ) → entity_at w' r g ≡ entity_at w r g
    unfolding entity_at field
    entity-same g =
        field-within cs w w' (slot_at w' (first_in w' r g)) 64 12 72 4 K O.versions (lit≤ tt) (lit≤ tt)
        ∙ ap (λ (s : ℕ). decode (part w (128 * s + 72) 4)) (slot_same (first_in w' r g) ∙ ap (slot_at w) (first-same g))

    pub known_same : (g : ℕ) → entity_known w' r g ≡ entity_known w r g
    unfolding entity_known
    known_same g =
        ap₂ group_leaf (entity-same g)
        (ap (λ (R : Leaves). tree_of R (first_in w' r g) (count_in w' r g)) versions_row-same ∙ ap₂ (tree_of (versions_row w)) (first-same g) (count_same g))

    entities_row-same : entities_row w' r ≡ entities_row w r
    unfolding entities_row
    entities_row-same = λ z. record { letter = 0x50; leaf = λ g. known_same g z; slot = λ g. first-same g z }

    pub row_same : (row : Row) → row_leaves row w' r ≡ row_leaves row w r
    row_same Versions = versions_row-same
    row_same Entities = entities_row-same

    pub ranked-same : Ranked w r → Ranked w' r
    ranked-same R =
        record {
          some_entity = R.some_entity;
          fewer = R.fewer;
          few = R.few;
          room = omega (arith, R.room, K.size);
          slots = λ i h. omega (arith, R.slots i h, slot_same i, K.size);
          rise = λ g h p q. omega (arith, R.rise g h p q, first-same g, first-same h);
        }

    pub ranked_as_same : (ns : List VersionNode) → RankedAs w ns r → RankedAs w' ns r
    ranked_as_same ns R =
        record {
          ranked = ranked-same R.ranked;
          number = R.number;
          inside = λ i h. subst (λ (k : ℕ). k < length ns) (sym (slot_same i)) (R.inside i h);
          names = λ g h. entity-same g ∙ R.names g h;
          versions_are = λ g h.
              ap (map (version_at ns)) (slots_same (first_in w' r g) (count_in w' r g) ∙ ap₂ (slots_in w) (first-same g) (count_same g)) ∙ R.versions_are g h;
        }

    -- a tree that is kept by what was known before is kept
    pub entity_moves : (g : ℕ) → KeptTree (versions_row w) w' (first_in w r g) (count_in w r g) → KeptTree (versions_row w') w' (first_in w' r g) (count_in w' r g)
    entity_moves g T =
        subst (λ (R : Leaves). KeptTree R w' (first_in w' r g) (count_in w' r g)) (sym versions_row-same)
        (subst (λ (x : ℕ). KeptTree (versions_row w) w' x (count_in w' r g)) (sym (first-same g)) (subst (KeptTree (versions_row w) w' (first_in w r g)) (sym (count_same g)) T))

    -- an entity's tree whose digests stay is kept as it was
    pub entity_stays : (g : ℕ) → 0 < count_in w r g → ((j : ℕ) → first_in w r g < j → j < first_in w r g + count_in w r g → digest_in w' j ≡ digest_in w j)
        → KeptTree (versions_row w) w (first_in w r g) (count_in w r g) → KeptTree (versions_row w') w' (first_in w' r g) (count_in w' r g)
    entity_stays g some h T = entity_moves g (kept_same (versions_row w) w w' (first_in w r g) (count_in w r g) some (slots-stay h) T)
      where
        slots-stay : ((j : ℕ) → first_in w r g < j → j < first_in w r g + count_in w r g → digest_in w' j ≡ digest_in w j)
            → (j : ℕ) → first_in w r g < j → j < first_in w r g + count_in w r g → digest_in w' ((versions_row w).slot j) ≡ digest_in w ((versions_row w).slot j)
        slots-stay f j a b = ap (digest_in w') (sym (version-slot w j)) ∙ f j a b ∙ ap (digest_in w) (version-slot w j)

-- ---- the tree of a row

pub row_rises : (row : Row) (w : Bytes) (r : Ranks) (i n : ℕ) → Ranked w r → Within row r i n → Rises (row_leaves row w r) i n
unfolding versions_row entities_row
row_rises Versions w r i n R I = record { rise = λ x y p q s. q }
row_rises Entities w r i n R I = record { rise = λ x y p q s. R.rise x y q (omega (arith, I.inside)) }

pub left-within : (row : Row) (r : Ranks) (i n k : ℕ) → 1 < n → k ≡ largest_power_below n → Within row r i n → Within row r i k
left-within row r i n k h e I = let b = split_bounds n h in let b0 = b.0 in let b1 = b.1 in record { some = omega arith; inside = omega (arith, I.inside) }

pub right-within : (row : Row) (r : Ranks) (i n k : ℕ) → 1 < n → k ≡ largest_power_below n → Within row r i n → Within row r (i + k) (n - k)
right-within row r i n k h e I = let b = split_bounds n h in let b0 = b.0 in let b1 = b.1 in record { some = omega arith; inside = omega (arith, I.inside) }

pub middle_inside : (row : Row) (r : Ranks) (i n k : ℕ) → 1 < n → k ≡ largest_power_below n → Within row r i n → i + k < size_of row r
middle_inside row r i n k h e I = let b = (split_bounds n h).1 in omega (arith, I.inside)

pub lt_or_le : (a b : ℕ) → (a < b) ⊎ (b ≤ a)
lt_or_le a b = ⊎_elim (λ (h : b ≤ a). inr h) (λ (h : a < b). inl h) (le_or_lt b a)

-- no first rank lies behind an entity's first rank and before the next entity's
pub between : (w : Bytes) (r : Ranks) → Ranked w r → (g j x : ℕ) → g < r.entities → x ≤ r.entities → first_in w r g < j → j < first_in w r (g + 1) → j ≡ first_in w r x → ⊥
between w r R g j x p o a b q =
    ⊎_elim
    (λ (y : x ≤ g). ⊎_elim (λ (u : g ≤ x). let t = ap (first_in w r) (let z : x ≡ g = omega arith in z) in omega arith) (λ (u : x < g). let t = R.rise x g u (omega arith) in omega arith) (le_or_lt g x))
    (λ (y : g < x). ⊎_elim (λ (u : x ≤ g + 1). let t = ap (first_in w r) (let z : x ≡ g + 1 = omega arith in z) in omega arith) (λ (u : g + 1 < x). let t = R.rise (g + 1) x u o in omega arith) (le_or_lt x (g + 1)))
    (le_or_lt x g)

pub ends_with : (w : Bytes) (r : Ranks) → Ranked w r → (g : ℕ) → g < r.entities → first_in w r g + count_in w r g ≡ first_in w r (g + 1)
unfolding count_in
ends_with w r R g h = let a = R.rise g (g + 1) (omega arith) (omega arith) in omega arith

-- the tree of entities keeps its digests where no entity's tree does
pub versions-stay : (w w' : Bytes) (r : Ranks) (i n : ℕ) (k : Known) → Kept (columns 84 116 ∷ []) w w' → Ranked w r → i + n ≤ r.entities → Keeping (entities_row w r) w w' i n k
    → VersionsKept w r → VersionsKept w' r
unfolding entities_row
versions-stay w w' r i n k K R h A VK =
    record {
      kept = λ g p.
          entity_stays (columns 84 116 ∷ []) w w' K digests_beside r g (some-versions w r R g p)
          (λ j a b. let c = ends_with w r R g p in A.others j (λ x s t u. between w r R g j x p (omega arith) a (omega arith) u))
          (VK.kept g p);
    }

pub kept-all : (w w1 w2 w3 : Bytes) (s : ℕ) (d : Bytes) → Kept (columns 84 116 ∷ []) w w1 → Kept (columns 84 116 ∷ []) w1 w2 → Stored w2 w3 s d → Kept (columns 84 116 ∷ []) w w3
kept-all w w1 w2 w3 s d a b S = kept_then (columns 84 116 ∷ []) w w1 w3 a (kept_then (columns 84 116 ∷ []) w1 w2 w3 b S.kept)

pub left-leaves : (row : Row) (w : Bytes) (r : Ranks) (i n k : ℕ) → 1 < n → k ≡ largest_power_below n → LeafDigests (row_leaves row w r) w i n → LeafDigests (row_leaves row w r) w i k
left-leaves row w r i n k h e L = let b = (split_bounds n h).1 in leaves-left (row_leaves row w r) w i n k (omega arith) L

pub right-leaves : (row : Row) (w w1 : Bytes) (r : Ranks) (i n k : ℕ) (a : Known) → Ranked w r → Within row r i n → 1 < n → k ≡ largest_power_below n
    → Kept (columns 84 116 ∷ []) w w1 → Keeping (row_leaves row w r) w w1 i k a → LeafDigests (row_leaves row w r) w i n → LeafDigests (row_leaves row w1 r) w1 (i + k) (n - k)
right-leaves row w w1 r i n k a R I h e K A L =
    let b = split_bounds n h in
    let b0 = b.0 in
    let b1 = b.1 in
    subst (λ (X : Leaves). LeafDigests X w1 (i + k) (n - k)) (sym (row_same (columns 84 116 ∷ []) w w1 K digests_beside r row))
    (leaves-right (row_leaves row w r) w w1 i n k a (row_rises row w r i n R I) (omega arith) (omega arith) A L)

pub keep_two : (row : Row) (w w1 w2 w3 : Bytes) (r : Ranks) (i n k s letter : ℕ) (a b t : Subtree) → Ranked w r → Within row r i n → 1 < n → k ≡ largest_power_below n
    → Kept (columns 84 116 ∷ []) w w1 → Keeping (row_leaves row w r) w w1 i k (known a)
    → Kept (columns 84 116 ∷ []) w1 w2 → Keeping (row_leaves row w1 r) w1 w2 (i + k) (n - k) (known b)
    → letter ≡ letter_of row → t ≡ parent_of letter a b → s ≡ (row_leaves row w2 r).slot (i + k) → Stored w2 w3 s t.digest
    → Keeping (row_leaves row w r) w w3 i n (known t)
keep_two row w w1 w2 w3 r i n k s letter a b t R I more split K1 A K2 B el et es S =
    let B' = subst (λ (X : Leaves). Keeping X w1 w2 (i + k) (n - k) (known b)) (row_same (columns 84 116 ∷ []) w w1 K1 digests_beside r row) B in
    let f : s ≡ (row_leaves row w r).slot (i + k) = es ∙ ap (λ (X : Leaves). X.slot (i + k)) (row_same (columns 84 116 ∷ []) w w2 (kept_then (columns 84 116 ∷ []) w w1 w2 K1 K2) digests_beside r row) in
    keeping_two (row_leaves row w r) w w1 w2 w3 i n k a b t (row_rises row w r i n R I) more split A B'
    (et ∙ ap (λ (x : ℕ). parent_of x a b) (el ∙ row_letter row w r)) (subst (λ (x : ℕ). Stored w2 w3 x t.digest) f S)

pub all-within : (r : Ranks) (w : Bytes) → Ranked w r → Within Entities r 0 r.entities
all-within r w R = record { some = R.some_entity; inside = omega arith }

-- ---- when neither leaves nor digests change

pub trees-stay : (cs : List Columns) (w w' : Bytes) (r : Ranks) → Kept cs w w' → Beside cs → T (outside cs 84 32) → Ranked w r → TreesKept w r → TreesKept w' r
trees-stay cs w w' r K O d R T =
    record {
      versions = record { kept = λ g h. entity_stays cs w w' K O r g (some-versions w r R g h) (λ j a b. K.same j 84 32 d) (T.versions.kept g h) };
      entities =
          subst (λ (X : Leaves). KeptTree X w' 0 r.entities) (sym (row_same cs w w' K O r Entities))
          (kept_same (entities_row w r) w w' 0 r.entities R.some_entity (λ j a b. K.same ((entities_row w r).slot j) 84 32 d) T.entities);
    }
