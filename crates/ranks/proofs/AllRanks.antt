-- The loop that ranks all versions, entity by entity. Assumes nothing.
use mathlib.Core.Path.{◌≡◌, sym, ap, ◌∙◌, subst}
use mathlib.Core.Bool.{true}
use mathlib.Core.List.{List, [], ◌∷◌}
use Prim.Native.Nat.{ℕ, ◌+◌, ◌*◌, ◌≤◌, ◌<◌}
use native.Mathlib.Omega.{arith}
use lib.ListN.{length, take}
use lib.Seq.{length-take-le, take_all}
use Rattle.fields.specs.Fields.{encode, written}
use Rattle.model.specs.Numbers.{Bytes}
use Rattle.model.specs.Graph.{VersionNode, node_at}
use Rattle.model.specs.Accumulator.{version_leaves, is_entry, entities}
use Rattle.graph.specs.Table.{node_in, columns, Kept}
use Rattle.graph.proofs.Slots.{kept-none, kept_then, kept_wider}
use Rattle.graph.proofs.Nodes.{node_kept}
use Rattle.trees.specs.Tables.{Graphed, versions, NextEntry}
use Rattle.trees.proofs.Keeping.{graphed-kept}
use Rattle.trees.proofs.EntityWalk.{entry-is, some_version}
use Rattle.trees.proofs.EntityList.{eq_T, next-same, entities-entered, entities-short}
use Rattle.ranks.specs.Ranked.{RankedAs, Unranked, VersionsRanked}
use Rattle.ranks.proofs.Slots.{put_kept}
use Rattle.ranks.proofs.Totals.{total, total_append, total_entities}
use Rattle.ranks.proofs.Standing.{Standing, standing_none, standing_more, standing_all}

-- the entities that the versions before place i enter are ranked, and the version at i enters one
pub record EntitiesTo (work₀ work : Bytes) (ns : List VersionNode) (e v i : ℕ) : Type 0 where
  pub kept : Kept (columns 116 122 ∷ []) work₀ work
  pub inside : i ≤ length ns
  pub here : i < length ns → is_entry (node_in work i) ≡ true
  pub standing : Standing work ns (entities (take i ns)) e v

pub entities-none : (work : Bytes) (n : ℕ) (ns : List VersionNode) (r : ℕ) → Graphed work n ns → NextEntry work 0 n r → EntitiesTo work work ns 0 0 r
unfolding entities
entities-none work n ns r G N =
    record {
      kept = kept-none (columns 116 122 ∷ []) work;
      inside = omega (arith, N.inside, G.number);
      here = λ l. N.here (omega (arith, G.number));
      standing = subst (λ (xs : List ℕ). Standing work ns xs 0 0) (sym (next-same work ns G.digested 0 n r G.number N)) (standing_none work ns);
    }

module _ (work₀ work : Bytes) (n : ℕ) (ns : List VersionNode) (e v i : ℕ) (G₀ : Graphed work₀ n ns) (E : EntitiesTo work₀ work ns e v i) where
  graphed-here : Graphed work n ns
  graphed-here = graphed-kept (columns 116 122 ∷ []) work₀ work n ns E.kept tt tt tt tt G₀

  pub entities-before : e ≤ i
  entities-before = omega (arith, E.standing.number, entities-short (take i ns), length-take-le i ns E.inside)

  pub entities-all : n ≤ i → RankedAs work ns (record { entities = e; versions = v })
  entities-all l =
      standing_all work n ns (record { entities = e; versions = v }) graphed-here
      (subst (λ (ms : List VersionNode). Standing work ns (entities ms) e v) (take_all i ns (omega (arith, G₀.number))) E.standing)

  module _ (l : i < n) where
    pub entities_room : 128 * e + 128 ≤ length work
    entities_room = omega (arith, entities-before, graphed-here.digested.room, G₀.number)

    pub entities-few : v ≤ 65535
    entities-few = omega (arith, E.standing.together, total_entities ns G₀.entered i E.inside, G₀.digested.few)

    module _ (work₁ : Bytes) (put : work₁ ≡ written work (128 * e + 120) (encode 2 v)) where
      put_keeps : Kept (columns 116 122 ∷ []) work work₁
      put_keeps = put_kept work 120 e v entities_room (omega arith) entities-few work₁ put 116 122 (omega arith) (omega arith)

      graphed_put : Graphed work₁ n ns
      graphed_put = graphed-kept (columns 116 122 ∷ []) work work₁ n ns put_keeps tt tt tt tt graphed-here

      inside-here : i < length ns
      inside-here = omega (arith, G₀.number)

      enters-here : is_entry (node_in work₁ i) ≡ true
      enters-here = ap is_entry (node_kept (columns 116 122 ∷ []) work work₁ put_keeps tt i) ∙ E.here inside-here

      pub unranked : Unranked work₁ n i v
      unfolding versions
      unranked =
          let vs = version_leaves ns in
          let a = ap (total vs) (entities-entered work₁ ns graphed_put.digested i inside-here enters-here) ∙ total_append vs (entities (take i ns)) ((node_at ns i).entity ∷ []) in
          record {
            has_graph = record { ns = ns; graphed = graphed_put };
            inside = l;
            enters = eq_T enters-here;
            room = omega (arith, E.standing.together, total_entities ns G₀.entered (i + 1) (omega (arith, G₀.number)));
          }

      module _ (work₂ : Bytes) (v' : ℕ) (ranked : (ms : List VersionNode) → Graphed work₁ n ms → VersionsRanked work₁ work₂ ms (node_at ms i).entity v v') where
        all-kept : Kept (columns 116 122 ∷ []) work work₂
        all-kept =
            kept_then (columns 116 122 ∷ []) work work₁ work₂ put_keeps
            (kept_wider 116 118 116 122 (omega arith) (omega arith) work₁ work₂ (ranked ns graphed_put).kept)

        pub entities-size : length work₂ ≡ length work₀
        entities-size = all-kept.size ∙ E.kept.size

        pub entities-more : (r : ℕ) → NextEntry work₂ (i + 1) n r → EntitiesTo work₀ work₂ ns (e + 1) v' r
        unfolding versions
        entities-more r N =
            let G₂ = graphed-kept (columns 116 122 ∷ []) work work₂ n ns all-kept tt tt tt tt graphed-here in
            let some = some_version ns i G₀.entered inside-here (entry-is work₁ ns i graphed_put.digested inside-here (eq_T enters-here)) in
            record {
              kept = kept_then (columns 116 122 ∷ []) work₀ work work₂ E.kept all-kept;
              inside = omega (arith, N.inside, G₀.number);
              here = λ m. N.here (omega (arith, G₀.number));
              standing = subst (λ (xs : List ℕ). Standing work₂ ns xs (e + 1) v')
                  (sym (next-same work₂ ns G₂.digested (i + 1) n r G₀.number N ∙ entities-entered work₁ ns graphed_put.digested i inside-here enters-here))
                  (standing_more work work₁ work₂ ns (entities (take i ns)) e v (node_at ns i).entity v' E.standing some entities_room entities-few put (ranked ns graphed_put));
            }
