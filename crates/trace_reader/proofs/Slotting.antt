-- What a record shows, in its slot. Assumes nothing.
use mathlib.Core.Path.{◌≡◌, refl, sym, ap, ap₂, ◌∙◌, subst}
use mathlib.Core.Bool.{Bool, true, false, ◌&&◌}
use mathlib.Core.List.{List, [], ◌∷◌, ◌++◌}
use Prim.Native.Nat.{ℕ, ◌+◌, ◌*◌, ◌^◌, ◌≤◌, ◌<◌}
use native.Mathlib.Omega.{arith}
use borrow.Author.Tests.{eq-eqb, ne_eqb, ltb-true}
use lib.Dec.{ltb, lit≤, T}
use lib.ListN.{length, get_or, drop}
use Rattle.fields.specs.Fields.{encode, field, written, decode}
use Rattle.fields.proofs.Numbers.{length-encode}
use Rattle.fields.proofs.Places.{field-drop, field_byte, field-written}
use Rattle.model.specs.Numbers.{Bytes}
use Rattle.model.specs.Graph.{InEdge, temporal, dependency, VersionNode}
use Rattle.model.specs.Trace.{letter_width}
use Rattle.model.specs.CheckRows.{shown_edges, shown_record, all_below}
use Rattle.graph.specs.Table.{absent, present, version, columns, NodePut}
use Rattle.graph.proofs.Slots.{kept-written, field_apart_slot}
use Rattle.graph.proofs.Nodes.{present-some, present-none, node_kept, node-other}
use Rattle.trace_reader.specs.Records.{RecordInSlot}
use Rattle.trace_reader.proofs.Letters.{width_V, width_D}

both : (a b : Bool) → (a && (b && true)) ≡ true → (a ≡ true) × (b ≡ true)
both true true e = (refl, refl)
both true false e = (refl, e)
both false b e = (e, absurd (subst T (sym e) tt))

one : (a : Bool) → (a && true) ≡ true → a ≡ true
one true e = refl
one false e = e

-- a slot's number has 16 bits
pub absent-is : absent ≡ 65535
unfolding absent
absent-is = refl

module _ (answer : Bytes) (at c i : ℕ) (inside : at + letter_width c ≤ length answer) (low : all_below i (shown_edges c (drop at answer)) ≡ true) (few : i ≤ absent) where
  -- the version of a slot is the record's if its edges are
  version_shown : (p s k : ℕ) → (present p (temporal p) ++ present s (dependency k s)) ≡ shown_edges c (drop at answer)
      → version (field 4 answer (at + 1)) (field 8 answer (at + 5)) p s k ≡ shown_record c (drop at answer)
  unfolding version shown_record
  version_shown p s k e =
      λ j. record { entity = sym (field-drop at answer 4 1) j; time = sym (field-drop at answer 8 5) j; in_edges = e j }

  module _ (v : c ≡ 86) where
    edges_V : shown_edges c (drop at answer) ≡ temporal (field 4 answer (at + 14)) ∷ dependency (field 1 answer (at + 13)) (field 4 answer (at + 18)) ∷ []
    unfolding shown_edges
    edges_V = simp (eq-eqb c 86 v, field-drop)

    pub below_V : (field 4 answer (at + 14) < absent) × (field 4 answer (at + 18) < absent)
    unfolding all_below
    below_V =
        let b = both (ltb (field 4 answer (at + 14)) i) (ltb (field 4 answer (at + 18)) i) (sym (ap (all_below i) edges_V) ∙ low) in
        (omega (arith, ltb-true (field 4 answer (at + 14)) i b.0), omega (arith, ltb-true (field 4 answer (at + 18)) i b.1))

    pub put_V : (work work' : Bytes) (p s : ℕ) → p ≡ field 4 answer (at + 14) → s ≡ field 4 answer (at + 18)
        → NodePut work work' i (version (field 4 answer (at + 1)) (field 8 answer (at + 5)) p s (get_or answer (at + 13) 0))
        → NodePut work work' i (shown_record c (drop at answer))
    put_V work work' p s hp hs put =
        let k = get_or answer (at + 13) 0 in
        let hk : k ≡ field 1 answer (at + 13) = sym (field_byte answer (at + 13) (omega (arith, width_V c v))) in
        subst (NodePut work work' i)
        (version_shown p s k
        (ap₂ {C = List InEdge} (λ x y. x ++ y) (present-some p (temporal p) (omega (arith, below_V.0))) (present-some s (dependency k s) (omega (arith, below_V.1)))
        ∙ (λ j. temporal (hp j) ∷ dependency (hk j) (hs j) ∷ [])
        ∙ sym edges_V))
        put

  module _ (v : c ≡ 86 → ⊥) (d : c ≡ 68) where
    edges_D : shown_edges c (drop at answer) ≡ dependency (field 1 answer (at + 13)) (field 4 answer (at + 14)) ∷ []
    unfolding shown_edges
    edges_D = simp (ne_eqb c 86 v, eq-eqb c 68 d, field-drop)

    pub below_D : field 4 answer (at + 14) < absent
    unfolding all_below
    below_D =
        omega (arith, ltb-true (field 4 answer (at + 14)) i (one (ltb (field 4 answer (at + 14)) i) (sym (ap (all_below i) edges_D) ∙ low)))

    pub put_D : (work work' : Bytes) (p s : ℕ) → p ≡ 65535 → s ≡ field 4 answer (at + 14)
        → NodePut work work' i (version (field 4 answer (at + 1)) (field 8 answer (at + 5)) p s (get_or answer (at + 13) 0))
        → NodePut work work' i (shown_record c (drop at answer))
    unfolding absent
    put_D work work' p s hp hs put =
        let k = get_or answer (at + 13) 0 in
        let hk : k ≡ field 1 answer (at + 13) = sym (field_byte answer (at + 13) (omega (arith, width_D c v d))) in
        subst (NodePut work work' i)
        (version_shown p s k
        (ap₂ {C = List InEdge} (λ x y. x ++ y) (present-none p (temporal p) (omega arith)) (present-some s (dependency k s) (omega (arith, below_D)))
        ∙ (λ j. dependency (hk j) (hs j) ∷ [])
        ∙ sym edges_D))
        put

  module _ (v : c ≡ 86 → ⊥) (d : c ≡ 68 → ⊥) where
    module _ (t : c ≡ 84) where
      edges_T : shown_edges c (drop at answer) ≡ temporal (field 4 answer (at + 13)) ∷ []
      unfolding shown_edges
      edges_T = simp (ne_eqb c 86 v, ne_eqb c 68 d, eq-eqb c 84 t, field-drop)

      pub below_T : field 4 answer (at + 13) < absent
      unfolding all_below
      below_T =
          omega (arith, ltb-true (field 4 answer (at + 13)) i (one (ltb (field 4 answer (at + 13)) i) (sym (ap (all_below i) edges_T) ∙ low)))

      pub put_T : (work work' : Bytes) (p s k : ℕ) → p ≡ field 4 answer (at + 13) → s ≡ 65535
          → NodePut work work' i (version (field 4 answer (at + 1)) (field 8 answer (at + 5)) p s k)
          → NodePut work work' i (shown_record c (drop at answer))
      unfolding absent
      put_T work work' p s k hp hs put =
          subst (NodePut work work' i)
          (version_shown p s k
          (ap₂ {C = List InEdge} (λ x y. x ++ y) (present-some p (temporal p) (omega (arith, below_T))) (present-none s (dependency k s) (omega arith))
          ∙ (λ j. temporal (hp j) ∷ [])
          ∙ sym edges_T))
          put

    pub put_entry : (c ≡ 84 → ⊥) → (work work' : Bytes) (p s k : ℕ) → p ≡ 65535 → s ≡ 65535
        → NodePut work work' i (version (field 4 answer (at + 1)) (field 8 answer (at + 5)) p s k)
        → NodePut work work' i (shown_record c (drop at answer))
    unfolding absent shown_edges
    put_entry t work work' p s k hp hs put =
        subst (NodePut work work' i)
        (version_shown p s k
        (ap₂ {C = List InEdge} (λ x y. x ++ y) (present-none p (temporal p) (omega arith)) (present-none s (dependency k s) (omega arith))
        ∙ simp (ne_eqb c 86 v, ne_eqb c 68 d, ne_eqb c 84 t)))
        put

-- the version of a record, by its entity and its time
pub version_put : (work work' : Bytes) (i e t p s k e' t' : ℕ) → e ≡ e' → t ≡ t' → NodePut work work' i (version e t p s k) → NodePut work work' i (version e' t' p s k)
version_put work work' i e t p s k e' t' he ht put = subst (NodePut work work' i) (ap₂ (λ (x y : ℕ). version x y p s k) he ht) put

-- and its place
pub record_put : (work w1 w2 : Bytes) (i : ℕ) (n : VersionNode) (place : ℕ) → 128 * i + 128 ≤ length work → place < 2 ^ 32 → NodePut work w1 i n
    → w2 ≡ written w1 (128 * i + 96) (encode 4 place) → RecordInSlot work w2 i n place
unfolding field
record_put work w1 w2 i n place room fits put e =
    let long = put.kept.size in
    let r : 128 * i + 128 ≤ length w1 = omega arith in
    let kept = kept-written w1 i 96 (encode 4 place) 4 (length-encode 4 place) r (lit≤ tt) 96 100 (lit≤ tt) (lit≤ tt) in
    rw e
    (record {
      size = kept.size ∙ long;
      node = node_kept (columns 96 100 ∷ []) w1 _ kept tt i ∙ put.node;
      placed = field-written 4 w1 (128 * i + 96) place (omega arith) (omega arith);
      nodes = λ j d. node_kept (columns 96 100 ∷ []) w1 _ kept tt j ∙ node-other work w1 i n put j d;
      places = λ j d. field_apart_slot w1 i 96 (encode 4 place) 4 (length-encode 4 place) r (lit≤ tt) j 96 4 d (lit≤ tt) ∙ ap decode (put.others j 96 4 d (lit≤ tt));
    })
