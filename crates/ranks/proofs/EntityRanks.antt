-- The versions of one entity ranked one after the other. Assumes nothing.
use mathlib.Core.Path.{◌≡◌, refl, sym, ap, ap₂, ◌∙◌, subst}
use mathlib.Core.Logic.{inl, inr}
use mathlib.Core.List.{List, [], ◌∷◌, ◌++◌, map, map-append}
use Prim.Native.Nat.{ℕ, ◌+◌, ◌*◌, ◌≤◌, ◌<◌}
use native.Mathlib.Nat.{add-zero, eq-or-lt_of_le}
use native.Mathlib.Numerals.{add-one}
use native.Mathlib.Omega.{arith}
use lib.Dec.{T}
use lib.ListN.{length, length-append}
use Rattle.fields.specs.Fields.{encode, decode, field, written}
use Rattle.model.specs.Numbers.{Bytes}
use Rattle.model.specs.Graph.{VersionNode, node_at}
use Rattle.model.specs.Accumulator.{VersionLeaf, is_entry}
use Rattle.graph.specs.Table.{node_in, columns, Kept}
use Rattle.graph.proofs.Slots.{kept-none, kept_then}
use Rattle.trees.specs.Tables.{Graphed, versions, version_at}
use Rattle.trees.proofs.Keeping.{graphed-kept}
use Rattle.trees.proofs.EntityWalk.{At, at_entry, here-only, at_slot, at_left, at_forward, at_next, ended-only, entry-is}
use Rattle.ranks.specs.Ranked.{slot_at, slots_in, VersionsRanked}
use Rattle.ranks.proofs.Slots.{put_kept, put_here, put_others, slots_same, slots_snoc}

-- those before the version at i have the ranks from `from` up to `rank`
pub record VersionsTo (work₀ work : Bytes) (ns : List VersionNode) (x from rank i : ℕ) : Type 0 where
  pub kept : Kept (columns 116 118 ∷ []) work₀ work
  pub earlier : (j : ℕ) → j < from → slot_at work j ≡ slot_at work₀ j
  pub done : List VersionLeaf
  pub at : At ns x done i
  pub number : rank ≡ from + length done
  pub inside : (j : ℕ) → from ≤ j → j < rank → slot_at work j < length ns
  pub are : map (version_at ns) (slots_in work from (length done)) ≡ done

pub versions-none : (work : Bytes) (n : ℕ) (ns : List VersionNode) (entry from : ℕ) → Graphed work n ns → entry < n → T (is_entry (node_in work entry))
    → VersionsTo work work ns (node_at ns entry).entity from from entry
unfolding slots_in
versions-none work n ns entry from G h t =
    let l : entry < length ns = omega (arith, G.number) in
    record {
      kept = kept-none (columns 116 118 ∷ []) work;
      earlier = λ j l. refl;
      done = [];
      at = at_entry ns entry G.entered l (entry-is work ns entry G.digested l t);
      number = sym (add-zero from);
      inside = λ j a b. absurd (let z : ⊥ = omega arith in z);
      are = refl;
    }

module _ (work₀ work : Bytes) (n : ℕ) (ns : List VersionNode) (x from rank i : ℕ) (G₀ : Graphed work₀ n ns) (E : VersionsTo work₀ work ns x from rank i) where
  graphed-here : Graphed work n ns
  graphed-here = graphed-kept (columns 116 118 ∷ []) work₀ work n ns E.kept tt tt tt tt G₀

  module _ (l : i < 65535) where
    pub versions-room : from + length (versions ns x) ≤ length ns → 128 * rank + 128 ≤ length work
    unfolding versions
    versions-room h = omega (arith, at_left work ns graphed-here.digested x i E.done E.at l, E.number, graphed-here.digested.room)

    module _ (room : 128 * rank + 128 ≤ length work) (work' : Bytes) (is : work' ≡ written work (128 * rank + 116) (encode 2 i)) where
      kept' : Kept (columns 116 118 ∷ []) work work'
      kept' = put_kept work 116 rank i room (omega arith) (omega arith) work' is 116 118 (omega arith) (omega arith)

      pub versions-slot : 128 * i + 128 ≤ length work'
      versions-slot = omega (arith, at_slot work ns graphed-here.digested x i E.done E.at l, kept'.size)

      others : (j : ℕ) → j < rank → slot_at work' j ≡ slot_at work j
      unfolding slot_at
      others j h = put_others work 116 rank i room (omega arith) (omega arith) work' is j (λ e. omega arith)

      here : slot_at work' rank ≡ i
      unfolding slot_at
      here = put_here work 116 rank i room (omega arith) (omega arith) work' is

      are' : map (version_at ns) (slots_in work' from (length (E.done ++ (version_at ns i ∷ [])))) ≡ E.done ++ (version_at ns i ∷ [])
      are' =
          let d = E.done in
          ap (λ (k : ℕ). map (version_at ns) (slots_in work' from k)) (length-append d (version_at ns i ∷ []) ∙ add-one (length d))
          ∙ ap (map (version_at ns)) (slots_snoc work' from (length d))
          ∙ map-append (version_at ns) (slots_in work' from (length d)) (slot_at work' (from + length d) ∷ [])
          ∙ ap₂ (λ (us : List VersionLeaf) (k : ℕ). us ++ (version_at ns k ∷ []))
          (ap (map (version_at ns)) (slots_same work work' from (length d) (λ j p q. others j (omega (arith, E.number)))) ∙ E.are)
          (ap (slot_at work') (sym E.number) ∙ here)

      module _ (next : ℕ) (next-is : next ≡ field 2 work' (128 * i + 82)) where
        next_was : next ≡ field 2 work (128 * i + 82)
        unfolding field
        next_was = next-is ∙ ap decode (kept'.same i 82 2 tt)

        pub versions-forward : i < next
        versions-forward = at_forward work ns graphed-here.digested x i E.done E.at l next next_was

        pub versions-more : VersionsTo work₀ work' ns x from (rank + 1) next
        versions-more =
            record {
              kept = kept_then (columns 116 118 ∷ []) work₀ work work' E.kept kept';
              earlier = λ j h. others j (omega (arith, E.number)) ∙ E.earlier j h;
              done = E.done ++ (version_at ns i ∷ []);
              at = at_next work ns graphed-here.digested x i E.done E.at l next next_was;
              number = omega (arith, E.number, length-append E.done (version_at ns i ∷ []));
              inside = λ j a b.
                  elim (eq-or-lt_of_le (let q : j ≤ rank = omega arith in q)) [
                    | inl u ↦ subst (λ (k : ℕ). k < length ns) (sym (ap (slot_at work') u ∙ here)) (here-only ns x E.done i E.at l).0
                    | inr u ↦ subst (λ (k : ℕ). k < length ns) (sym (others j u)) (E.inside j a u)
                  ];
              are = are';
            }

  pub versions-all : 65535 ≤ i → VersionsRanked work₀ work ns x from rank
  unfolding versions
  versions-all l =
      let all = ended-only ns x E.done i E.at (omega (arith, G₀.digested.few)) in
      record {
        kept = E.kept;
        earlier = E.earlier;
        number = E.number ∙ ap (λ (vs : List VersionLeaf). from + length vs) (sym all);
        inside = E.inside;
        are = subst (λ (vs : List VersionLeaf). map (version_at ns) (slots_in work from (length vs)) ≡ vs) (sym all) E.are;
      }
