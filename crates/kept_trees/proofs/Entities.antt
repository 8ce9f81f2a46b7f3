-- All trees come to be kept: the digests of the versions' leaves first, then the entities some at a time, then the tree of entities.
-- Assumes nothing.
use mathlib.Core.Path.{◌≡◌, refl, sym, ap, ap₂, ◌∙◌, subst}
use mathlib.Core.Logic.{◌⊎◌, inl, inr, ⊎_elim}
use mathlib.Core.List.{List, [], ◌∷◌}
use Prim.Native.Nat.{ℕ, ◌+◌, ◌-◌, ◌*◌, ◌≤◌, ◌<◌}
use native.Mathlib.Omega.{arith}
use borrow.Author.Count.{below_more}
use lib.Dec.{lit≤}
use lib.ListN.{length, get_or, set, take, length-set}
use lib.Seq.{get_or-set_same, get_or-set_other}
use Rattle.fields.specs.Fields.{part, written}
use Rattle.fields.proofs.Numbers.{le_or_lt}
use Rattle.fields.proofs.Places.{length_part, length-written}
use Rattle.sha256.specs.Sha256.{sha256}
use Rattle.lanes.specs.Lanes.{digests_of}
use Rattle.lanes.proofs.Messages.{digest_at, strings-step}
use Rattle.question.specs.declared.EntityKey.{EntityKey}
use Rattle.model.specs.Numbers.{Bytes, H}
use Rattle.model.specs.Accumulator.{Subtree as Known, group_string}
use Rattle.model.proofs.Open.{group-length}
use Rattle.graph.specs.Table.{columns, Kept}
use Rattle.graph.proofs.Slots.{kept-none, kept_then, kept-written, slot-here, slot_apart}
use Rattle.accumulator.specs.declared.Subtree.{Subtree}
use Rattle.accumulator.specs.Trees.{known, version_leaf, group_leaf}
use Rattle.leaves.specs.Leaves.{slot_leaf, digest_in, Slots, LeavesKept}
use Rattle.ranks.specs.declared.Ranks.{Ranks}
use Rattle.ranks.specs.Ranked.{slot_at, first_in, count_in, entity_at, Ranked}
use Rattle.ranks.proofs.Reading.{first-inside, some-versions, count-inside}
use Rattle.kept_trees.specs.declared.Row.TheVariants.{Versions, Entities}
use Rattle.kept_trees.specs.Leaves.{Leaves, tree_of, version_known, versions_row, entity_known, entities_row}
use Rattle.kept_trees.specs.Kept.{LeafDigests, KeptTree, Keeping, TreesKept}
use Rattle.kept_trees.specs.Entities.{SlotsAt, EntityLeaves, entity_tree, EntityKept, KeptTo, EntityStrings, EntitiesFilled}
use Rattle.kept_trees.proofs.Stretches.{tree_32}
use Rattle.kept_trees.proofs.Rows.{row_32, version-slot, digests_beside, version-same, versions_row-same, first-same, count_same, entity-same, known_same, row_same, ranked-same, entity_moves, entity_stays, ends_with, between, versions-stay}

-- ---- the digests of the versions' leaves

pub slots-none : (work : Bytes) (from : ℕ) (slots : List ℕ) → length slots ≡ 8 → SlotsAt work from 0 slots
slots-none work from slots e = record { size = e; same = λ l h. absurd (let z : ⊥ = omega arith in z) }

pub slots-more : (work : Bytes) (from : ℕ) (slots : List ℕ) (l x : ℕ) → l < 8 → x ≡ slot_at work (from + l) → SlotsAt work from l slots → SlotsAt work from (l + 1) (set slots l x)
slots-more work from slots l x h e s =
    record {
      size = length-set slots l x ∙ s.size;
      same =
          below_more (λ (k : ℕ). get_or (set slots l x) k 0 ≡ slot_at work (from + k)) l
          (λ (k : ℕ) (j : k < l). get_or-set_other slots l k x 0 (λ (e : k ≡ l). let z : ⊥ = omega arith in z) ∙ s.same k j)
          (get_or-set_same slots l x 0 (omega (arith, s.size)) ∙ e);
    }

pub slots-all : (work : Bytes) (from k l : ℕ) (slots : List ℕ) → k ≤ l → l ≤ k → SlotsAt work from l slots → SlotsAt work from k slots
slots-all work from k l slots h g s = let e : l ≡ k = omega arith in rw e at s

pub slots-there : (work : Bytes) (r : Ranks) (from k : ℕ) (slots : List ℕ) → Ranked work r → from + k ≤ r.versions → SlotsAt work from k slots → Slots work slots k
slots-there work r from k slots R h s = record { inside = λ l j. omega (arith, s.same l j, R.slots (from + l) (omega arith)) }

-- those of the first i ranks are kept
pub record LeavesTo (w w' : Bytes) (r : Ranks) (i : ℕ) : Type 0 where
  pub few : i ≤ r.versions
  pub kept : Kept (columns 84 116 ∷ []) w w'
  pub ranked : Ranked w' r
  pub here : (x : ℕ) → x < i → digest_in w' x ≡ (version_known w' x).digest

pub leaves_none : (w : Bytes) (r : Ranks) → Ranked w r → LeavesTo w w r 0
leaves_none w r R =
    record { few = omega arith; kept = kept-none (columns 84 116 ∷ []) w; ranked = R; here = λ x h. absurd (let z : ⊥ = omega arith in z) }

pub leaves-more : (w w1 w2 : Bytes) (r : Ranks) (i k : ℕ) (slots : List ℕ) → i + k ≤ r.versions → SlotsAt w1 i k slots → LeavesKept w1 slots k i w2
    → LeavesTo w w1 r i → LeavesTo w w2 r (i + k)
unfolding version_known
leaves-more w w1 w2 r i k slots h S L T =
    let stays : (x : ℕ) → version_known w2 x ≡ version_known w1 x = version-same (columns 84 116 ∷ []) w1 w2 L.kept digests_beside in
    record {
      few = h;
      kept = kept_then (columns 84 116 ∷ []) w w1 w2 T.kept L.kept;
      ranked = ranked-same (columns 84 116 ∷ []) w1 w2 L.kept digests_beside r T.ranked;
      here = λ x q.
          ⊎_elim
          (λ (y : i ≤ x).
          let z : i + (x - i) ≡ x = omega arith in
          ap (digest_in w2) (sym z) ∙ L.here (x - i) (omega arith)
          ∙ ap (λ (s : ℕ). (version_leaf (slot_leaf w1 s)).digest) (S.same (x - i) (omega arith) ∙ ap (slot_at w1) z)
          ∙ sym (ap (λ (k : Known). k.digest) (stays x)))
          (λ (y : x < i). L.others x (inl y) ∙ T.here x y ∙ sym (ap (λ (k : Known). k.digest) (stays x))) (le_or_lt i x);
    }

pub leaves_all : (w w' : Bytes) (r : Ranks) (i : ℕ) → r.versions ≤ i → LeavesTo w w' r i → LeafDigests (versions_row w') w' 0 r.versions
unfolding versions_row
leaves_all w w' r i h T = record { here = λ x a b. T.here x (omega arith) }

-- ---- one entity

pub entity_leaves : (w : Bytes) (r : Ranks) (g t x : ℕ) → KeptTo w r g t → t ≡ x → x < r.entities → EntityLeaves w r x
unfolding versions_row
entity_leaves w r g t x T e h =
    record { here = λ i a b. T.leaves i (omega (arith, ap (first_in w r) e)) (omega (arith, count-inside w r T.ranked x h)) }

pub leaves_at : (w : Bytes) (r : Ranks) (g f n : ℕ) → f ≡ first_in w r g → n ≡ count_in w r g → EntityLeaves w r g → LeafDigests (versions_row w) w f n
leaves_at w r g f n p q L =
    subst (λ (x : ℕ). LeafDigests (versions_row w) w x n) (sym p) (subst (LeafDigests (versions_row w) w (first_in w r g)) (sym q) L)

pub entity-kept : (w w' : Bytes) (r : Ranks) (g f n : ℕ) (k : Known) → Ranked w r → g < r.entities → f ≡ first_in w r g → n ≡ count_in w r g
    → Keeping (versions_row w) w w' f n k → EntityKept w w' r g k
entity-kept w w' r g f n k R h p q A =
    record {
      root = A.root ∙ ap₂ (tree_of (versions_row w)) p q;
      others = λ j d. A.others j (λ x a b e. let l = ends_with w r R g h in let z = e ∙ sym (version-slot w x) in d (omega arith) (omega arith));
      here = subst (KeptTree (versions_row w) w' (first_in w r g)) q (subst (λ (x : ℕ). KeptTree (versions_row w) w' x n) p A.tree_kept);
    }

-- ---- the trees of some entities

module _ (w w' : Bytes) (r : Ranks) (g t : ℕ) (T : KeptTo w r g t) (h : t < r.entities) (K : Kept (columns 84 116 ∷ []) w w') (k : Known) (E : EntityKept w w' r t k) where
  first≤ : (x y : ℕ) → x ≤ y → y ≤ r.entities → first_in w r x ≤ first_in w r y
  first≤ x y a b = ⊎_elim (λ (z : y ≤ x). let e = ap (first_in w r) (let q : x ≡ y = omega arith in q) in omega arith) (λ (z : x < y). let q = T.ranked.rise x y z b in omega arith) (le_or_lt y x)

  stays : (j : ℕ) → (j ≤ first_in w r t) ⊎ (first_in w r (t + 1) ≤ j) → digest_in w' j ≡ digest_in w j
  stays j d = E.others j (λ a b. ⊎_elim (λ (y : j ≤ first_in w r t). omega arith) (λ (y : first_in w r (t + 1) ≤ j). omega arith) d)

  pub to-more : KeptTo w' r g (t + 1)
  to-more =
      record {
        ranked = ranked-same (columns 84 116 ∷ []) w w' K digests_beside r T.ranked;
        inside = omega arith;
        behind = omega (arith, T.behind);
        trees = below_more (λ (x : ℕ). KeptTree (versions_row w') w' (first_in w' r x) (count_in w' r x)) t
            (λ (x : ℕ) (a : x < t).
            entity_stays (columns 84 116 ∷ []) w w' K digests_beside r x (some-versions w r T.ranked x (omega arith))
            (λ j c d. stays j (inl (let l = ends_with w r T.ranked x (omega arith) in let q = first≤ (x + 1) t (omega arith) (omega arith) in omega arith))) (T.trees x a))
            (entity_moves (columns 84 116 ∷ []) w w' K digests_beside r t E.here);
        groups = λ x a.
            ap (digest_in w') (first-same (columns 84 116 ∷ []) w w' K digests_beside r x)
            ∙ E.others (first_in w r x) (λ b c. between w r T.ranked t (first_in w r x) x h (omega (arith, T.behind)) b c refl)
            ∙ T.groups x a
            ∙ sym (ap (λ (k : Known). k.digest) (known_same (columns 84 116 ∷ []) w w' K digests_beside r x));
        leaves = λ i a b.
            stays i (inr (omega (arith, first-same (columns 84 116 ∷ []) w w' K digests_beside r (t + 1))))
            ∙ T.leaves i (omega (arith, first-same (columns 84 116 ∷ []) w w' K digests_beside r (t + 1), T.ranked.rise t (t + 1) (omega arith) (omega arith))) b
            ∙ sym (ap (λ (k : Known). k.digest) (version-same (columns 84 116 ∷ []) w w' K digests_beside i));
      }

pub to_none : (w : Bytes) (r : Ranks) → Ranked w r → LeafDigests (versions_row w) w 0 r.versions → KeptTo w r 0 0
unfolding versions_row
to_none w r R L =
    record {
      ranked = R;
      inside = omega arith;
      behind = omega arith;
      trees = λ x h. absurd (let z : ⊥ = omega arith in z);
      groups = λ x h. absurd (let z : ⊥ = omega arith in z);
      leaves = λ i a b. L.here i (omega arith) (omega arith);
    }

-- ---- their strings

entity_width : (w : Bytes) (r : Ranks) (x : ℕ) → Ranked w r → x < r.entities → length (group_string (entity_at w r x) (entity_tree w r x)) ≡ 57
entity_width w r x R h =
    group-length (entity_at w r x) (entity_tree w r x)
    (tree_32 (versions_row w) (λ i. row_32 Versions w r i) (first_in w r x) (count_in w r x) (some-versions w r R x h))

strings-same : (w w' : Bytes) (r : Ranks) (x : ℕ) → Kept (columns 84 116 ∷ []) w w' → group_string (entity_at w' r x) (entity_tree w' r x) ≡ group_string (entity_at w r x) (entity_tree w r x)
strings-same w w' r x K =
    ap₂ group_string (entity-same (columns 84 116 ∷ []) w w' K digests_beside r x)
    (ap (λ (R : Leaves). tree_of R (first_in w' r x) (count_in w' r x)) (versions_row-same (columns 84 116 ∷ []) w w' K digests_beside)
    ∙ ap₂ (tree_of (versions_row w)) (first-same (columns 84 116 ∷ []) w w' K digests_beside r x) (count_same (columns 84 116 ∷ []) w w' K digests_beside r x))

pub entity_strings_none : (w : Bytes) (r : Ranks) (g : ℕ) (b : Bytes) → length b ≡ 456 → EntityStrings w r g 0 b
entity_strings_none w r g b e = record { size = e; strings = λ l h. absurd (let z : ⊥ = omega arith in z) }

pub entity_strings_more : (w w' : Bytes) (r : Ranks) (g l : ℕ) (b b' : Bytes) (e : EntityKey) (v : Subtree) → Ranked w r → l < 8 → g + l < r.entities → Kept (columns 84 116 ∷ []) w w'
    → EntityKept w w' r (g + l) (known v) → e.0 ≡ entity_at w' r (g + l) → b' ≡ written b (57 * l) (group_string e.0 (known v)) → EntityStrings w r g l b
    → EntityStrings w' r g (l + 1) b'
entity_strings_more w w' r g l b b' e v R h i K E p f S =
    let x = group_string (entity_at w r (g + l)) (entity_tree w r (g + l)) in
    let n : length x ≡ 57 = entity_width w r (g + l) R i in
    let q : b' ≡ written b (57 * l) x =
    f ∙ ap₂ (λ (y : ℕ) (k : Known). written b (57 * l) (group_string y k)) (p ∙ entity-same (columns 84 116 ∷ []) w w' K digests_beside r (g + l)) E.root in
    record {
      size = ap length q ∙ length-written b (57 * l) x (omega (arith, S.size)) ∙ S.size;
      strings = λ k j.
          strings-step 57 (λ (k : ℕ). 57) (λ (k : ℕ). group_string (entity_at w r (g + k)) (entity_tree w r (g + k))) l b b' (λ k j. omega arith) n (omega (arith, S.size)) q S.strings k j
          ∙ sym (strings-same w w' r (g + k) K);
    }

-- l of c entities from the g-th on are done
pub record BatchTo (w w' : Bytes) (r : Ranks) (g c l : ℕ) (b : Bytes) : Type 0 where
  pub few : l ≤ c
  pub kept : Kept (columns 84 116 ∷ []) w w'
  pub trees : KeptTo w' r g (g + l)
  pub strings : EntityStrings w' r g l b

pub batch_none : (w : Bytes) (r : Ranks) (g c : ℕ) (b : Bytes) → KeptTo w r g g → length b ≡ 456 → BatchTo w w r g c 0 b
batch_none w r g c b T e =
    record {
      few = omega arith;
      kept = kept-none (columns 84 116 ∷ []) w;
      trees = subst (KeptTo w r g) (let z : g ≡ g + 0 = omega arith in z) T;
      strings = entity_strings_none w r g b e;
    }

pub batch_more : (w w1 w2 : Bytes) (r : Ranks) (g c l : ℕ) (b b' : Bytes) (e : EntityKey) (v : Subtree) → c ≤ 8 → l < c → g + c ≤ r.entities → Kept (columns 84 116 ∷ []) w1 w2
    → EntityKept w1 w2 r (g + l) (known v) → e.0 ≡ entity_at w2 r (g + l) → b' ≡ written b (57 * l) (group_string e.0 (known v)) → BatchTo w w1 r g c l b
    → BatchTo w w2 r g c (l + 1) b'
batch_more w w1 w2 r g c l b b' e v h i j K E p f B =
    record {
      few = omega arith;
      kept = kept_then (columns 84 116 ∷ []) w w1 w2 B.kept K;
      trees = subst (KeptTo w2 r g) (let z : g + l + 1 ≡ g + (l + 1) = omega arith in z) (to-more w1 w2 r g (g + l) B.trees (omega arith) K (known v) E);
      strings = entity_strings_more w1 w2 r g l b b' e v B.trees.ranked (omega arith) (omega arith) K E p f B.strings;
    }

pub batch_all : (w w' : Bytes) (r : Ranks) (g c l : ℕ) (b : Bytes) → c ≤ l → BatchTo w w' r g c l b → BatchTo w w' r g c c b
batch_all w w' r g c l b h B = let e : l ≡ c = omega (arith, B.few) in rw e at B

-- ---- the digests of their leaves

pub entities-none : (w : Bytes) (r : Ranks) (g : ℕ) (d : Bytes) → EntitiesFilled w r g d 0 w
entities-none w r g d =
    record { kept = kept-none (columns 84 116 ∷ []) w; here = λ l h. absurd (let z : ⊥ = omega arith in z); others = λ j h. refl }

pub entities-more : (w w1 w2 : Bytes) (r : Ranks) (g l s : ℕ) (d : Bytes) → Ranked w r → length d ≡ 256 → l < 8 → g + l < r.entities → s ≡ first_in w1 r (g + l)
    → w2 ≡ written w1 (128 * s + 84) (part d (32 * l) 32) → EntitiesFilled w r g d l w1 → EntitiesFilled w r g d (l + 1) w2
entities-more w w1 w2 r g l s d R size h i e f F =
    let x = part d (32 * l) 32 in
    let n : length x ≡ 32 = length_part d (32 * l) 32 (omega arith) in
    let q : s ≡ first_in w r (g + l) = e ∙ first-same (columns 84 116 ∷ []) w w1 F.kept digests_beside r (g + l) in
    let room : 128 * s + 128 ≤ length w1 = omega (arith, first-inside w r R (g + l) i, R.room, F.kept.size) in
    let apart : (j : ℕ) → (j ≡ s → ⊥) → digest_in w2 j ≡ digest_in w1 j =
    λ j c. ap (λ (y : Bytes). digest_in y j) f ∙ slot_apart w1 s 84 x 32 n room (lit≤ tt) j 84 32 c (lit≤ tt) in
    record {
      kept = kept_then (columns 84 116 ∷ []) w w1 w2 F.kept (rw f (kept-written w1 s 84 x 32 n room (lit≤ tt) 84 116 (lit≤ tt) (lit≤ tt)));
      here =
          below_more (λ (k : ℕ). digest_in w2 (first_in w r (g + k)) ≡ part d (32 * k) 32) l
          (λ (k : ℕ) (j : k < l). apart (first_in w r (g + k)) (λ (z : first_in w r (g + k) ≡ s). let y = R.rise (g + k) (g + l) (omega arith) (omega arith) in omega arith) ∙ F.here k j)
          (ap (digest_in w2) (sym q) ∙ ap (λ (y : Bytes). digest_in y s) f ∙ slot-here w1 s 84 x 32 n room (lit≤ tt));
      others = λ j c.
          apart j (λ (z : j ≡ s). c l (omega arith) (z ∙ q))
          ∙ F.others j (λ k a b. c k (omega arith) b);
    }

pub entities-all : (w w' : Bytes) (r : Ranks) (g k l : ℕ) (d : Bytes) → k ≤ l → l ≤ k → EntitiesFilled w r g d l w' → EntitiesFilled w r g d k w'
entities-all w w' r g k l d h i F = let e : l ≡ k = omega arith in rw e at F

module _ (w w' : Bytes) (r : Ranks) (g k : ℕ) (b d : Bytes) (T : KeptTo w r g (g + k)) (S : EntityStrings w r g k b) (e : take (32 * k) d ≡ digests_of k b 57 57)
    (F : EntitiesFilled w r g d k w') where
  abbrev K : Kept (columns 84 116 ∷ []) w w'
  K = F.kept

  abbrev R : Ranked w r
  R = T.ranked

  digest-is : (l : ℕ) → l < k → part d (32 * l) 32 ≡ (entity_known w r (g + l)).digest
  unfolding entity_known group_leaf H
  digest-is l h = digest_at b 57 57 k d e l h ∙ ap sha256 (S.strings l h)

  known_stays : (x : ℕ) → (entity_known w r x).digest ≡ (entity_known w' r x).digest
  known_stays x = sym (ap (λ (k : Known). k.digest) (known_same (columns 84 116 ∷ []) w w' K digests_beside r x))

  pub groups-more : KeptTo w' r (g + k) (g + k)
  groups-more =
      record {
        ranked = ranked-same (columns 84 116 ∷ []) w w' K digests_beside r R;
        inside = T.inside;
        behind = omega arith;
        trees = λ x a.
            entity_stays (columns 84 116 ∷ []) w w' K digests_beside r x (some-versions w r R x (omega (arith, T.inside)))
            (λ j c f. let l = ends_with w r R x (omega (arith, T.inside)) in F.others j (λ y p q. between w r R x j (g + y) (omega (arith, T.inside)) (omega (arith, T.inside)) c (omega arith) q))
            (T.trees x a);
        groups = λ x a.
            ap (digest_in w') (first-same (columns 84 116 ∷ []) w w' K digests_beside r x)
            ∙ ⊎_elim
            (λ (y : g ≤ x). let z : g + (x - g) ≡ x = omega arith in ap (λ (i : ℕ). digest_in w' (first_in w r i)) (sym z) ∙ F.here (x - g) (omega arith) ∙ digest-is (x - g) (omega arith) ∙ ap (λ (i : ℕ). (entity_known w r i).digest) z)
            (λ (y : x < g). F.others (first_in w r x) (λ l p q. let z = R.rise x (g + l) (omega arith) (omega (arith, T.inside)) in let u : ⊥ = omega arith in u) ∙ T.groups x y) (le_or_lt g x)
            ∙ known_stays x;
        leaves = λ i a c.
            F.others i (λ l p q. let z = R.rise (g + l) (g + k) (omega arith) T.inside in let u : ⊥ = omega (arith, first-same (columns 84 116 ∷ []) w w' K digests_beside r (g + k)) in u)
            ∙ T.leaves i (omega (arith, first-same (columns 84 116 ∷ []) w w' K digests_beside r (g + k))) c
            ∙ sym (ap (λ (k : Known). k.digest) (version-same (columns 84 116 ∷ []) w w' K digests_beside i));
      }

-- g entities are done
pub record EntitiesTo (w w' : Bytes) (r : Ranks) (g : ℕ) (b : Bytes) : Type 0 where
  pub kept : Kept (columns 84 116 ∷ []) w w'
  pub trees : KeptTo w' r g g
  pub size : length b ≡ 456

pub entities_to_all : (w w' : Bytes) (r : Ranks) (g : ℕ) (b : Bytes) → r.entities ≤ g → EntitiesTo w w' r g b → KeptTo w' r r.entities r.entities
entities_to_all w w' r g b h T = let e : g ≡ r.entities = omega (arith, T.trees.inside) in rw e at T.trees

-- ---- the tree of entities over them

pub group-digests : (w : Bytes) (r : Ranks) → KeptTo w r r.entities r.entities → LeafDigests (entities_row w r) w 0 r.entities
unfolding entities_row
group-digests w r T = record { here = λ x a b. T.groups x (omega arith) }

pub trees-kept : (w w' : Bytes) (r : Ranks) (k : Known) → KeptTo w r r.entities r.entities → Kept (columns 84 116 ∷ []) w w'
    → Keeping (entities_row w r) w w' 0 r.entities k → TreesKept w' r
trees-kept w w' r k T K B =
    record {
      versions = versions-stay w w' r 0 r.entities k K T.ranked (omega arith) B (record { kept = λ g h. T.trees g h });
      entities = subst (λ (X : Leaves). KeptTree X w' 0 r.entities) (sym (row_same (columns 84 116 ∷ []) w w' K digests_beside r Entities)) B.tree_kept;
    }
