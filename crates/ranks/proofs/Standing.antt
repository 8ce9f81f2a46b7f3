-- Entities that stand one after the other, each with its versions ranked. Assumes nothing.
use mathlib.Core.Path.{◌≡◌, refl, sym, ap, ◌∙◌, subst}
use mathlib.Core.Logic.{◌⊎◌, inl, inr}
use mathlib.Core.Bool.{Bool, true, false, cond}
use mathlib.Core.List.{List, [], ◌∷◌, ◌++◌, map}
use Prim.Native.Nat.{ℕ, zero, suc, ◌+◌, ◌*◌, ◌≤◌, ◌<◌}
use native.Mathlib.Omega.{arith}
use borrow.Author.Tests.{eqb-true}
use lib.Dec.{eqb}
use lib.ListN.{length, get_or, take, length-append}
use lib.Seq.{take_all, take-append-le, take-append_seam}
use Rattle.fields.specs.Fields.{encode, decode, field, written}
use Rattle.fields.proofs.Numbers.{le_or_lt}
use Rattle.model.specs.Numbers.{Bytes}
use Rattle.model.specs.Graph.{VersionNode}
use Rattle.model.specs.Accumulator.{VersionLeaf, no_leaf, of_entity, leaf_at, version_leaves, entities}
use Rattle.model.proofs.Lists.{at_snoc}
use Rattle.graph.specs.Table.{version, node_in}
use Rattle.trees.specs.Tables.{Graphed, versions, version_at}
use Rattle.trees.proofs.EntityWalk.{slot-node}
use Rattle.ranks.specs.declared.Ranks.{Ranks}
use Rattle.ranks.specs.Ranked.{slot_at, first_in, count_in, entity_at, slots_in, RankedAs, VersionsRanked}
use Rattle.ranks.proofs.Reading.{first_below, first-end}
use Rattle.ranks.proofs.Slots.{put_kept, put_here, put_others, slots_same}
use Rattle.ranks.proofs.Totals.{total, total_append, total_next, total_inside, Some, total_many, total_rise, total_entities}

module _ (work : Bytes) (ns : List VersionNode) where
  -- entity x is the g-th, and its versions are ranked from `from` on
  pub record Stands (g from x : ℕ) : Type 0 where
    pub some : 0 < length (versions ns x)
    pub first : field 2 work (128 * g + 120) ≡ from
    pub are : map (version_at ns) (slots_in work from (length (versions ns x))) ≡ versions ns x

  -- the entities xs stand one after the other, e of them with v versions
  pub record Standing (xs : List ℕ) (e v : ℕ) : Type 0 where
    pub number : e ≡ length xs
    pub together : v ≡ total (version_leaves ns) xs
    pub inside : (i : ℕ) → i < v → slot_at work i < length ns
    pub stands : (g : ℕ) → g < length xs → Stands g (total (version_leaves ns) (take g xs)) (get_or xs g 0)

  pub standing_none : Standing [] 0 0
  standing_none =
      record {
        number = refl;
        together = refl;
        inside = λ i h. absurd (let z : ⊥ = omega arith in z);
        stands = λ g h. absurd (let z : ⊥ = omega arith in z);
      }

-- ---- one entity more

module _ (work work₁ work₂ : Bytes) (ns : List VersionNode) (xs : List ℕ) (e v x v' : ℕ) (S : Standing work ns xs e v) (some : 0 < length (versions ns x))
    (room : 128 * e + 128 ≤ length work) (few : v ≤ 65535) (put : work₁ ≡ written work (128 * e + 120) (encode 2 v)) (ranked : VersionsRanked work₁ work₂ ns x v v') where
  slot_was : (i : ℕ) → i < v → slot_at work₂ i ≡ slot_at work i
  unfolding slot_at field
  slot_was i h = ranked.earlier i h ∙ ap decode ((put_kept work 120 e v room (omega arith) few work₁ put 120 122 (omega arith) (omega arith)).same i 116 2 tt)

  first-kept : (g : ℕ) → field 2 work₂ (128 * g + 120) ≡ field 2 work₁ (128 * g + 120)
  unfolding field
  first-kept g = ap decode (ranked.kept.same g 120 2 tt)

  still : (g : ℕ) → g < length xs → Stands work₂ ns g (total (version_leaves ns) (take g xs)) (get_or xs g 0)
  unfolding versions
  still g h =
      let s = S.stands g h in
      record {
        some = s.some;
        first = first-kept g ∙ put_others work 120 e v room (omega arith) few work₁ put g (λ q. omega (arith, S.number)) ∙ s.first;
        are = ap (map (version_at ns)) (slots_same work work₂ _ _ (λ i p q. slot_was i (omega (arith, total_inside (version_leaves ns) xs g h, S.together)))) ∙ s.are;
      }

  newly : Stands work₂ ns e v x
  newly = record { some = some; first = first-kept e ∙ put_here work 120 e v room (omega arith) few work₁ put; are = ranked.are }

  pub standing_more : Standing work₂ ns (xs ++ (x ∷ [])) (e + 1) v'
  unfolding versions
  standing_more =
      let vs = version_leaves ns in
      record {
        number = omega (arith, S.number, length-append xs (x ∷ []));
        together = omega (arith, ranked.number, S.together, total_append vs xs (x ∷ []));
        inside = λ i h. by_cases i h (le_or_lt v i);
        stands = at_snoc 0 xs x (λ (g y : ℕ). Stands work₂ ns g (total vs (take g (xs ++ (x ∷ [])))) y)
            (λ g h. subst (λ (ys : List ℕ). Stands work₂ ns g (total vs ys) (get_or xs g 0)) (sym (take-append-le g xs (x ∷ []) (omega arith))) (still g h))
            (subst (λ (ys : List ℕ). Stands work₂ ns (length xs) (total vs ys) x) (sym (take-append_seam xs (x ∷ [])))
            (subst (λ (g : ℕ). Stands work₂ ns g (total vs xs) x) S.number (subst (λ (from : ℕ). Stands work₂ ns e from x) S.together newly)));
      }
    where
      by_cases : (i : ℕ) → i < v' → (v ≤ i) ⊎ (i < v) → slot_at work₂ i < length ns
      by_cases i h (inl l) = ranked.inside i l h
      by_cases i h (inr l) = subst (λ (k : ℕ). k < length ns) (sym (slot_was i l)) (S.inside i l)

-- ---- all entities

-- the first of an entity's versions has its number
own : (x : ℕ) (vs : List VersionLeaf) → 0 < length (of_entity x vs) → (get_or (of_entity x vs) 0 no_leaf).leaf.entity ≡ x
unfolding of_entity
own x [] h = absurd (let z : ⊥ = omega arith in z)
own x (v ∷ vs) h = go (eqb x v.leaf.entity) refl h (own x vs)
  where
    go : (b : Bool) → eqb x v.leaf.entity ≡ b → 0 < length (cond b (v ∷ of_entity x vs) (of_entity x vs)) → (0 < length (of_entity x vs) → (get_or (of_entity x vs) 0 no_leaf).leaf.entity ≡ x)
        → (get_or (cond b (v ∷ of_entity x vs) (of_entity x vs)) 0 no_leaf).leaf.entity ≡ x
    go true q h rec = sym (eqb-true x v.leaf.entity q)
    go false q h rec = rec h

first_slot : (work : Bytes) (ns : List VersionNode) (from n : ℕ) → 0 < n → get_or (map (version_at ns) (slots_in work from n)) 0 no_leaf ≡ version_at ns (slot_at work from)
unfolding slots_in
first_slot work ns from zero h = absurd (let z : ⊥ = omega arith in z)
first_slot work ns from (suc n) h = refl

module _ (work : Bytes) (n : ℕ) (ns : List VersionNode) (r : Ranks) (G : Graphed work n ns) (S : Standing work ns (entities ns) r.entities r.versions) where
  some_of_each : Some (version_leaves ns) (entities ns)
  unfolding versions
  some_of_each g h = (S.stands g h).some

  few_in_all : r.versions ≤ length ns
  few_in_all =
      let a = ap (λ (ms : List VersionNode). total (version_leaves ns) (entities ms)) (take_all (length ns) ns (omega arith)) in
      omega (arith, S.together, total_entities ns G.entered (length ns) (omega arith))

  first-is : (g : ℕ) → g ≤ r.entities → first_in work r g ≡ total (version_leaves ns) (take g (entities ns))
  first-is g h = by_cases (le_or_lt r.entities g)
    where
      by_cases : (r.entities ≤ g) ⊎ (g < r.entities) → first_in work r g ≡ total (version_leaves ns) (take g (entities ns))
      by_cases (inl l) = sym (first-end work r g l) ∙ S.together ∙ ap (total (version_leaves ns)) (sym (take_all g (entities ns) (omega (arith, S.number))))
      by_cases (inr l) =
          let s = S.stands g (omega (arith, S.number)) in
          sym (first_below work r g (total (version_leaves ns) (take g (entities ns))) l (sym s.first))

  count_is : (g : ℕ) → g < r.entities → count_in work r g ≡ length (versions ns (get_or (entities ns) g 0))
  unfolding count_in versions
  count_is g h =
      omega (arith, first-is g (omega arith), first-is (g + 1) (omega arith), total_next (version_leaves ns) (entities ns) g (omega (arith, S.number)))

  rises : (g h : ℕ) → g < h → h ≤ r.entities → first_in work r g < first_in work r h
  rises g h l m =
      omega (arith, first-is g (omega arith), first-is h m, total_rise (version_leaves ns) (entities ns) some_of_each g h l (omega (arith, S.number)))

  are-there : (g : ℕ) → g < r.entities → map (version_at ns) (slots_in work (first_in work r g) (count_in work r g)) ≡ versions ns (get_or (entities ns) g 0)
  are-there g h =
      ap (λ (k : ℕ). map (version_at ns) (slots_in work k (count_in work r g))) (first-is g (omega arith))
      ∙ ap (λ (k : ℕ). map (version_at ns) (slots_in work (total (version_leaves ns) (take g (entities ns))) k)) (count_is g h)
      ∙ (S.stands g (omega (arith, S.number))).are

  named : (g : ℕ) → g < r.entities → entity_at work r g ≡ get_or (entities ns) g 0
  unfolding entity_at node_in version leaf_at versions
  named g h =
      let s = slot_at work (first_in work r g) in
      let e = get_or (entities ns) g 0 in
      let m = (S.stands g (omega (arith, S.number))).some in
      let i = S.inside (first_in work r g) (omega (arith, rises g r.entities h (omega arith), first-end work r r.entities (omega arith))) in
      let k : 0 < count_in work r g = omega (arith, count_is g h) in
      ap (λ (node : VersionNode). node.entity) (slot-node work ns s G.digested i)
      ∙ ap (λ (u : VersionLeaf). u.leaf.entity)
      (sym (first_slot work ns (first_in work r g) (count_in work r g) k) ∙ ap (λ (us : List VersionLeaf). get_or us 0 no_leaf) (are-there g h))
      ∙ own e (version_leaves ns) m

  pub standing_all : RankedAs work ns r
  standing_all =
      record {
        ranked =
            record {
              some_entity = omega (arith, S.number, G.entered.some_entity);
              fewer = omega (arith, S.number, S.together, total_many (version_leaves ns) (entities ns) some_of_each);
              few = omega (arith, few_in_all, G.digested.few);
              room = omega (arith, few_in_all, G.digested.room);
              slots = λ i h. omega (arith, S.inside i h, G.digested.room);
              rise = rises;
            };
        number = S.number;
        inside = S.inside;
        names = named;
        versions_are = are-there;
      }
