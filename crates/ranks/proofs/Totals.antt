-- How many versions entities have together: at most as many as there are, because no entity is entered twice. Assumes nothing.
use mathlib.Core.Path.{◌≡◌, refl, sym, ap, ◌∙◌}
use mathlib.Core.Bool.{Bool, true, false, cond}
use mathlib.Core.List.{List, [], ◌∷◌, ◌++◌}
use Prim.Native.Nat.{ℕ, zero, suc, ◌+◌, ◌≤◌, ◌<◌}
use native.Mathlib.Numerals.{add-one}
use native.Mathlib.Omega.{arith}
use borrow.Author.Tests.{ne_eqb, eqb-true}
use lib.Dec.{eqb}
use lib.ListN.{length, get_or, take, drop, take-append-drop}
use lib.Seq.{take-suc}
use Rattle.model.specs.Numbers.{counting}
use Rattle.model.specs.Graph.{VersionNode, node_at}
use Rattle.model.specs.Accumulator.{VersionLeaf, of_entity, version_leaves, is_entry, entities}
use Rattle.model.proofs.Lists.{counting-length}
use Rattle.graph.proofs.Nodes.{map-length}
use Rattle.trees.specs.Tables.{Entered, version_at}
use Rattle.trees.proofs.EntityList.{eq_T, entities-one}

module _ (vs : List VersionLeaf) where
  -- of the entities xs together
  abbrev pub total : List ℕ → ℕ
  total [] = 0
  total (x ∷ xs) = length (of_entity x vs) + total xs

  pub total_append : (xs ys : List ℕ) → total (xs ++ ys) ≡ total xs + total ys
  total_append [] ys = omega arith
  total_append (x ∷ xs) ys = omega (arith, total_append xs ys)

  -- of the first entities, and of one more
  pub total_next : (xs : List ℕ) (g : ℕ) → g < length xs → total (take (g + 1) xs) ≡ total (take g xs) + length (of_entity (get_or xs g 0) vs)
  total_next xs g h =
      let a = ap (λ (k : ℕ). total (take k xs)) (add-one g) ∙ ap total (take-suc xs g 0 h) ∙ total_append (take g xs) (get_or xs g 0 ∷ []) in
      omega arith

  pub total_inside : (xs : List ℕ) (g : ℕ) → g < length xs → total (take g xs) + length (of_entity (get_or xs g 0) vs) ≤ total xs
  total_inside xs g h =
      let a = ap total (take-append-drop (g + 1) xs) in
      omega (arith, total_next xs g h, total_append (take (g + 1) xs) (drop (g + 1) xs))

  -- each entity has a version
  abbrev pub Some : List ℕ → Type 0
  Some xs = (g : ℕ) → g < length xs → 0 < length (of_entity (get_or xs g 0) vs)

  pub total_many : (xs : List ℕ) → Some xs → length xs ≤ total xs
  total_many [] s = omega arith
  total_many (x ∷ xs) s = omega (arith, s 0 (omega arith), total_many xs (λ g h. s (suc g) (omega arith)))

  pub total_rise : (xs : List ℕ) → Some xs → (g h : ℕ) → g < h → h ≤ length xs → total (take g xs) < total (take h xs)
  total_rise xs s g zero l m = absurd (let z : ⊥ = omega arith in z)
  total_rise [] s g (suc h) l m = absurd (let z : ⊥ = omega arith in z)
  total_rise (x ∷ xs) s zero (suc h) l m = omega (arith, s 0 (omega arith))
  total_rise (x ∷ xs) s (suc g) (suc h) l m = omega (arith, total_rise xs (λ j k. s (suc j) (omega arith)) g h (omega arith) (omega arith))

-- ---- each version is of one entity

-- how often x is among xs
abbrev hits : ℕ → List ℕ → ℕ
hits x [] = 0
hits x (y ∷ ys) = cond (eqb y x) 1 0 + hits x ys

hits_append : (x : ℕ) (ys zs : List ℕ) → hits x (ys ++ zs) ≡ hits x ys + hits x zs
hits_append x [] zs = omega arith
hits_append x (y ∷ ys) zs = omega (arith, hits_append x ys zs)

total_none : (xs : List ℕ) → total [] xs ≡ 0
unfolding of_entity
total_none [] = refl
total_none (x ∷ xs) = omega (arith, total_none xs)

total_one : (v : VersionLeaf) (vs : List VersionLeaf) (xs : List ℕ) → total (v ∷ vs) xs ≡ hits v.leaf.entity xs + total vs xs
unfolding of_entity
total_one v vs [] = refl
total_one v vs (x ∷ xs) = go (eqb x v.leaf.entity) (total_one v vs xs)
  where
    go : (b : Bool) → total (v ∷ vs) xs ≡ hits v.leaf.entity xs + total vs xs
        → length (cond b (v ∷ of_entity x vs) (of_entity x vs)) + total (v ∷ vs) xs ≡ cond b 1 0 + hits v.leaf.entity xs + (length (of_entity x vs) + total vs xs)
    go true h = omega arith
    go false h = omega arith

total_few : (xs : List ℕ) → ((x : ℕ) → hits x xs ≤ 1) → (vs : List VersionLeaf) → total vs xs ≤ length vs
total_few xs h [] = omega (arith, total_none xs)
total_few xs h (v ∷ vs) = omega (arith, total_one v vs xs, h v.leaf.entity, total_few xs h vs)

-- ---- no entity is entered twice

module _ (ns : List VersionNode) where
  hits_more : (x i : ℕ) → i < length ns
      → hits x (entities (take (suc i) ns)) ≡ hits x (entities (take i ns)) + cond (is_entry (node_at ns i)) (cond (eqb (node_at ns i).entity x) 1 0) 0
  hits_more x i h =
      ap (λ (m : ℕ). hits x (entities (take m ns))) (sym (add-one i))
      ∙ ap (hits x) (entities-one ns i h)
      ∙ hits_append x (entities (take i ns)) (cond (is_entry (node_at ns i)) ((node_at ns i).entity ∷ []) [])
      ∙ ap (λ (k : ℕ). hits x (entities (take i ns)) + k) (one (is_entry (node_at ns i)))
    where
      one : (b : Bool) → hits x (cond b ((node_at ns i).entity ∷ []) []) ≡ cond b (cond (eqb (node_at ns i).entity x) 1 0) 0
      one true = omega arith
      one false = refl

  hits_none : (x i : ℕ) → i ≤ length ns → ((k : ℕ) → k < i → (node_at ns k).entity ≡ x → ⊥) → hits x (entities (take i ns)) ≡ 0
  unfolding entities
  hits_none x zero h f = refl
  hits_none x (suc i) h f = omega (arith, hits_more x i h, hits_none x i (omega arith) (λ k l. f k (omega arith)), go (is_entry (node_at ns i)))
    where
      go : (b : Bool) → ◌≡◌ {A = ℕ} (cond b (cond (eqb (node_at ns i).entity x) 1 0) 0) 0
      go true = ap {B = ℕ} (λ (c : Bool). cond c 1 0) (ne_eqb (node_at ns i).entity x (f i (omega arith)))
      go false = refl

  hits_once : Entered ns → (x i : ℕ) → i ≤ length ns → hits x (entities (take i ns)) ≤ 1
  unfolding entities
  hits_once E x zero h = omega arith
  hits_once E x (suc i) h =
      omega (arith, hits_more x i h, go (is_entry (node_at ns i)) refl (eqb (node_at ns i).entity x) refl (hits_once E x i (omega arith)))
    where
      go : (b : Bool) → is_entry (node_at ns i) ≡ b → (c : Bool) → eqb (node_at ns i).entity x ≡ c → hits x (entities (take i ns)) ≤ 1
          → hits x (entities (take i ns)) + cond b (cond c 1 0) 0 ≤ 1
      go true p true q r =
          let e = eqb-true (node_at ns i).entity x q in
          omega (arith, hits_none x i (omega arith) (λ k l z. E.first i h (eq_T p) k l (z ∙ sym e)))
      go true p false q r = omega arith
      go false p c q r = omega arith

  pub total_entities : Entered ns → (i : ℕ) → i ≤ length ns → total (version_leaves ns) (entities (take i ns)) ≤ length ns
  unfolding version_leaves
  total_entities E i h =
      omega (arith, total_few (entities (take i ns)) (λ x. hits_once E x i h) (version_leaves ns), map-length (version_at ns) (counting 0 (length ns)), counting-length 0 (length ns))
