-- The defined trace meets what the check wants of a trace: its records may be read, rows 18 to 24 let it pass. Assumes nothing.
use mathlib.Core.Path.{◌≡◌, refl, sym, ap, ◌∙◌, subst}
use mathlib.Core.Logic.{◌⊎◌, inl, inr}
use Prim.Native.Nat.{ℕ, zero, suc, ◌+◌, ◌-◌, ◌<◌, ◌≤◌}
use native.Mathlib.Nat.{not-suc-le-zero, le_of_suc-le-suc, zero-lt-suc, add-zero, zero-add}
use native.Mathlib.Decide.{dec_lt}
use native.Mathlib.Omega.{arith}
use mathlib.Core.Bool.{Bool, not, cond, ◌&&◌}
use mathlib.Core.Option.{Option, none, some}
use mathlib.Core.List.Memᴰ
use mathlib.Core.List.{List, [], ◌∷◌}
use lib.ListN.{length, get_or}
use lib.Dec.{T, eqb, eqb_refl, not_T}
use Rattle.fields.specs.Fields.{equal}
use Rattle.fields.proofs.Places.{equal-refl}
use Rattle.model.specs.Result.{ok}
use Rattle.model.specs.Numbers.{Bytes, elem}
use Rattle.model.specs.Log.{record_limit}
use Rattle.model.specs.Graph.{InEdge, temporal, dependency, VersionNode, node_at, Edge, CausalPath, stay, step}
use Rattle.model.specs.Digest.{incoming_digests, outgoing_digests}
use Rattle.model.specs.Accumulator.{Leaf, leaf_at}
use Rattle.model.specs.Question.{Way, backward, forward}
use Rattle.model.specs.Trace.{refers, ancestors, descendants, trace_versions, position_in, edges_inside, node_inside, induced_subgraph, trace}
use Rattle.model.specs.CheckRows.{due, CheckedTrace, referred_to, first_unreferenced, unreferenced, is_none, the_place, found_position, path_digests, leaf_digest, trace_rows}
use Rattle.model.specs.WellFormed.{WellFormed, NoneOrBoth, no_edge, both}
use Rattle.model.specs.Exact.{Exactly}
use Rattle.model.proofs.Outcomes.{pass, need_yes, test, T_eq, T_and, T_or_left, T_or_right}
use Rattle.model.proofs.Lists.{◌among◌, Up, rising-up, up_at, up-short, in_place, place_in, elem_in, in_elem}
use Rattle.model.proofs.Match.{Regular}
use Rattle.model.proofs.Inside.{position_place, moved, inside_in, inside_out, inside_mem}
use Rattle.model.proofs.Paths.{path_snoc, path-from, path_to, path-up, unsnoc}
use Rattle.model.proofs.Search.{in_refers, ancestors_exact, descendants_exact}
use Rattle.model.proofs.Verdicts.{regular, two_types}
use Rattle.model.proofs.Subgraph.{sub-length, sub_at, edge-sub, sub-down, sub_regular, in_same, out_same}
use Rattle.model.proofs.TraceWriting.{Shape, entry, temporal-only, dependency-only, both-edges, Follow, follow}

-- ---- every record but the last is referred to

in_referred_to : (i : ℕ) (ns : List VersionNode) (q : ℕ) → q < length ns → T (refers i (node_at ns q).in_edges) → T (referred_to i ns)
unfolding referred_to
in_referred_to i [] q h t = absurd (not-suc-le-zero h)
in_referred_to i (n ∷ ns) zero h t = T_or_left (refers i n.in_edges) (referred_to i ns) t
in_referred_to i (n ∷ ns) (suc q) h t = T_or_right (refers i n.in_edges) (referred_to i ns) (in_referred_to i ns q (le_of_suc-le-suc h) t)

AllUsed : ℕ → List VersionNode → Type 0
AllUsed i ns = (k : ℕ) → suc k < length ns → (q : ℕ) × (k < q) × (q < length ns) × T (refers (i + k) (node_at ns q).in_edges)

all_referenced : (i : ℕ) (ns : List VersionNode) → AllUsed i ns → first_unreferenced i ns ≡ none
unfolding first_unreferenced AllUsed
all_referenced i [] f = refl
all_referenced i (n ∷ []) f = refl
all_referenced i (n ∷ m ∷ ns) f =
    ap (λ (b : Bool). cond b (first_unreferenced (suc i) (m ∷ ns)) (some i)) (T_eq (referred_to i (m ∷ ns)) (first (f 0 (omega arith))))
    ∙ all_referenced (suc i) (m ∷ ns) (λ k h. shift k (f (suc k) (omega arith)))
  where
    first : (q : ℕ) × (0 < q) × (q < length (n ∷ m ∷ ns)) × T (refers (i + 0) (node_at (n ∷ m ∷ ns) q).in_edges) → T (referred_to i (m ∷ ns))
    first r = go r.0 r.1 r.2 r.3
      where
        go : (q : ℕ) → 0 < q → q < length (n ∷ m ∷ ns) → T (refers (i + 0) (node_at (n ∷ m ∷ ns) q).in_edges) → T (referred_to i (m ∷ ns))
        go zero p h t = absurd (not-suc-le-zero p)
        go (suc q) p h t = in_referred_to i (m ∷ ns) q (le_of_suc-le-suc h) (subst (λ (z : ℕ). T (refers z (node_at (m ∷ ns) q).in_edges)) (add-zero i) t)

    shift : (k : ℕ) → (q : ℕ) × (suc k < q) × (q < length (n ∷ m ∷ ns)) × T (refers (i + suc k) (node_at (n ∷ m ∷ ns) q).in_edges)
        → (q : ℕ) × (k < q) × (q < length (m ∷ ns)) × T (refers (suc i + k) (node_at (m ∷ ns) q).in_edges)
    shift k r = go r.0 r.1 r.2 r.3
      where
        go : (q : ℕ) → suc k < q → q < length (n ∷ m ∷ ns) → T (refers (i + suc k) (node_at (n ∷ m ∷ ns) q).in_edges) → (q : ℕ) × (k < q) × (q < length (m ∷ ns)) × T (refers (suc i + k) (node_at (m ∷ ns) q).in_edges)
        go zero p h t = absurd (not-suc-le-zero p)
        go (suc q) p h t = (q, le_of_suc-le-suc p, le_of_suc-le-suc h, subst (λ (z : ℕ). T (refers z (node_at (m ∷ ns) q).in_edges)) (omega arith) t)

-- ---- what the check wants of a trace

pub record TraceFit (way : Way) (ns : List VersionNode) (l : Leaf) : Type 0 where
  pub readable : Follow way [] ns
  pub some_record : 0 < length ns
  pub few : length ns ≤ record_limit
  pub all_used : unreferenced way ns ≡ none
  pub entity-is : (node_at ns (found_position way ns)).entity ≡ l.entity
  pub time-is : (node_at ns (found_position way ns)).time ≡ l.time
  pub digest-is : get_or (path_digests way ns) (found_position way ns) [] ≡ leaf_digest way l

pub rows_pass : (way : Way) (l : Leaf) (t : CheckedTrace) → t.rest ≡ [] → TraceFit way t.records l → trace_rows way l t ≡ ok tt
unfolding trace_rows
rows_pass way l t nil h =
    let ns = t.records in
    let i = found_position way ns in
    let n = node_at ns i in
    let here = get_or t.places i 0 in
    pass (eqb (length t.rest) 0) 18 t.pos _ (subst (λ (z : Bytes). T (eqb (length z) 0)) (sym nil) tt)
    ∙ pass (is_none (unreferenced way ns)) 22 (the_place t.places (unreferenced way ns)) _ (subst (λ (o : Option ℕ). T (is_none o)) (sym h.all_used) tt)
    ∙ pass (eqb n.entity l.entity && eqb n.time l.time) 23 here _
    (T_and (eqb n.entity l.entity) (eqb n.time l.time) (subst (λ (k : ℕ). T (eqb n.entity k)) h.entity-is (eqb_refl n.entity)) (subst (λ (k : ℕ). T (eqb n.time k)) h.time-is (eqb_refl n.time)))
    ∙ need_yes (equal (get_or (path_digests way ns) i []) (leaf_digest way l)) 24 here
    (subst (λ (z : Bytes). T (equal (get_or (path_digests way ns) i []) z)) h.digest-is (equal-refl (get_or (path_digests way ns) i [])))

-- ---- the edges inside

inside_nil : (ms : List ℕ) → edges_inside ms [] ≡ []
unfolding edges_inside
inside_nil ms = refl

-- both starts inside
inside_both : (ms : List ℕ) (p k q : ℕ) → p among ms → q among ms → edges_inside ms (temporal p ∷ dependency k q ∷ []) ≡ temporal (position_in p ms) ∷ dependency k (position_in q ms) ∷ []
inside_both ms p k q hp hq =
    inside_in ms (temporal p) (dependency k q ∷ []) (elem_in p ms hp)
    ∙ ap {B = List InEdge} (λ (l : List InEdge). temporal (position_in p ms) ∷ l) (inside_in ms (dependency k q) [] (elem_in q ms hq) ∙ ap {B = List InEdge} (λ (l : List InEdge). dependency k (position_in q ms) ∷ l) (inside_nil ms))

-- some edge inside, forward and not first
inside-some : (ms : List ℕ) (i : ℕ) (es : List InEdge) → NoneOrBoth es → (e : InEdge) → e among edges_inside ms es → Shape forward (suc i) (edges_inside ms es)
unfolding due
inside-some ms i es no_edge e m = absurd (Memᴰ.not-nil (subst (λ (l : List InEdge). e among l) (inside_nil ms) m))
inside-some ms i es (both p k q) e m = go (test (elem p ms)) (test (elem q ms))
  where
    go : T (elem p ms) ⊎ T (not (elem p ms)) → T (elem q ms) ⊎ T (not (elem q ms)) → Shape forward (suc i) (edges_inside ms (temporal p ∷ dependency k q ∷ []))
    go (inl a) (inl b) = subst (Shape forward (suc i)) (sym (inside_both ms p k q (in_elem p ms a) (in_elem q ms b))) (both-edges (position_in p ms) k (position_in q ms) tt)
    go (inl a) (inr b) =
        subst (Shape forward (suc i))
        (sym (inside_in ms (temporal p) (dependency k q ∷ []) a ∙ ap {B = List InEdge} (λ (l : List InEdge). temporal (position_in p ms) ∷ l) (inside_out ms (dependency k q) [] b ∙ inside_nil ms)))
        (temporal-only (position_in p ms) tt)
    go (inr a) (inl b) =
        subst (Shape forward (suc i))
        (sym (inside_out ms (temporal p) (dependency k q ∷ []) a ∙ inside_in ms (dependency k q) [] b ∙ ap {B = List InEdge} (λ (l : List InEdge). dependency k (position_in q ms) ∷ l) (inside_nil ms)))
        (dependency-only k (position_in q ms) tt)
    go (inr a) (inr b) =
        absurd
        (Memᴰ.not-nil (subst (λ (l : List InEdge). e among l) (inside_out ms (temporal p) (dependency k q ∷ []) a ∙ inside_out ms (dependency k q) [] b ∙ inside_nil ms) m))

-- ---- the defined traces are so

module _ (G : List VersionNode) (w : WellFormed G) (v : ℕ) (hv : v < length G) where
  r_G : Regular G
  r_G = regular G w

  leaf-v : Leaf
  leaf-v = leaf_at G (incoming_digests G) (outgoing_digests G) v

  -- of any rising list of places
  module _ (way : Way) (ms : List ℕ) (up : Up (λ (k : ℕ). k) ms) (inG : (m : ℕ) → m among ms → m < length G) (shapes : (i : ℕ) → i < length ms → Shape way i (edges_inside ms (node_at G (get_or ms i 0)).in_edges)) where
    short : length ms ≤ record_limit
    short = let s = up-short 0 (length G) ms up (λ x m. let h = inG x m in (omega arith, omega arith)) in let f = w.few in omega arith

    all_readable : Follow way [] (induced_subgraph G ms)
    unfolding node_inside
    all_readable =
        follow way (induced_subgraph G ms) [] (induced_subgraph G ms) refl
        (λ k h.
        let h' : k < length ms = omega (arith, sub-length G r_G ms up inG) in
        let s = sub_regular G r_G ms up inG in
        record {
          shape = subst (λ (n : VersionNode). Shape way k n.in_edges) (sym (sub_at G r_G ms up inG k h')) (shapes k h');
          entity-fits = s.entities_fit k h;
          time-fits = s.times_fit k h;
          kinds_fit = s.kinds_fit k h;
          starts = s.down k h;
          small = omega (arith, short);
        })
        (sub_regular G r_G ms up inG).times_rise

  -- ---- backward

  A : List ℕ
  A = ancestors G v

  EA : Exactly (λ (i : ℕ). CausalPath G i v) A
  unfolding A
  EA = ancestors_exact G w.starts_before v hv

  up_A : Up (λ (k : ℕ). k) A
  up_A = rising-up EA.rising

  in_a : (m : ℕ) → m among A → m < length G
  in_a m k = path-from ((EA.these m).0 k)

  closed_A : (i : ℕ) → i < length A → (f : InEdge) → f among (node_at G (get_or A i 0)).in_edges → f.start among A
  closed_A i h f m =
      let p = (EA.these (get_or A i 0)).0 (place_in A i 0 h) in
      let b = w.starts_before (get_or A i 0) (path-from p) f m in
      let c = path-from p in
      (EA.these f.start).1 (step (record { edge = f; start_there = omega arith; end_there = c; listed = m; starts = refl }) p)

  shape_A : (i : ℕ) → i < length A → Shape backward i (edges_inside A (node_at G (get_or A i 0)).in_edges)
  unfolding due
  shape_A i h = go (node_at G (get_or A i 0)).in_edges (w.none_or_both (get_or A i 0) (in_a (get_or A i 0) (place_in A i 0 h))) (closed_A i h)
    where
      go : (es : List InEdge) → NoneOrBoth es → ((f : InEdge) → f among es → f.start among A) → Shape backward i (edges_inside A es)
      go es no_edge c = subst (Shape backward i) (sym (inside_nil A)) (entry tt)
      go es (both p k q) c =
          subst (Shape backward i) (sym (inside_both A p k q (c (temporal p) (Memᴰ.head refl)) (c (dependency k q) (Memᴰ.tail (Memᴰ.head refl))))) (both-edges (position_in p A) k (position_in q A) tt)

  -- the found version stands last
  last_A : (0 < length A) × (get_or A (length A - 1) 0 ≡ v)
  last_A = go (in_place ((EA.these v).1 (stay hv)) 0)
    where
      go : (i : ℕ) × (i < length A) × (get_or A i 0 ≡ v) → (0 < length A) × (get_or A (length A - 1) 0 ≡ v)
      go r =
          let n = length A - 1 in
          let h = r.1 in
          let q : n < length A = omega arith in
          let b : get_or A n 0 ≤ v = path-up G w.starts_before ((EA.these (get_or A n 0)).0 (place_in A n 0 q)) in
          (omega arith, at_last (dec_lt r.0 n) b)
        where
          at_last : Dec (r.0 < length A - 1) → get_or A (length A - 1) 0 ≤ v → get_or A (length A - 1) 0 ≡ v
          at_last (yes p) b = absurd (let h = r.1 in let z = up_at A up_A r.0 (length A - 1) p (omega arith) in let y = r.2 in omega arith)
          at_last (no p) b = let h = r.1 in ap (λ (k : ℕ). get_or A k 0) (omega arith) ∙ r.2

  used_A : (k : ℕ) → suc k < length (induced_subgraph G A) → (q : ℕ) × (k < q) × (q < length (induced_subgraph G A)) × T (refers (0 + k) (node_at (induced_subgraph G A) q).in_edges)
  used_A k h = go ((EA.these (get_or A k 0)).0 (place_in A k 0 hk)) refl refl
    where
      len : length (induced_subgraph G A) ≡ length A
      len = sub-length G r_G A up_A in_a

      hk : k < length A
      hk = omega (arith, len)

      not_last : get_or A k 0 ≡ v → ⊥
      not_last e = let z = up_at A up_A k (length A - 1) (omega (arith, len)) (omega (arith, len)) in let y = last_A.1 in omega arith

      go : {m x : ℕ} → CausalPath G m x → m ≡ get_or A k 0 → x ≡ v → (q : ℕ) × (k < q) × (q < length (induced_subgraph G A)) × T (refers (0 + k) (node_at (induced_subgraph G A) q).in_edges)
      go (stay x) e e' = absurd (not_last (sym e ∙ e'))
      go (step {j = j} d p) e e' =
          let r = in_place ((EA.these j).1 (subst (λ (z : ℕ). CausalPath G j z) e' p)) 0 in
          let q = r.0 in
          let f = d.edge in
          let f_in : f among (node_at G (get_or A q 0)).in_edges = subst (λ (z : ℕ). f among (node_at G z).in_edges) (sym r.2) d.listed in
          let m = edge-sub G r_G A up_A in_a q r.1 f f_in (closed_A q r.1 f f_in) in
          let s : position_in f.start A ≡ k = ap (λ (z : ℕ). position_in z A) (d.starts ∙ e) ∙ position_place A up_A k hk in
          let lt = sub-down G r_G A up_A in_a q r.1 (moved A f) m in
          (q, omega (arith, s), omega (arith, r.1, len), in_refers (0 + k) m (s ∙ sym (zero-add k)))

  trace_A : TraceFit backward (induced_subgraph G A) leaf-v
  unfolding leaf-v leaf_at AllUsed node_inside unreferenced found_position path_digests leaf_digest
  trace_A =
      let len = sub-length G r_G A up_A in_a in
      let n = length (induced_subgraph G A) - 1 in
      let pos_A = last_A.0 in
      let h : n < length A = omega arith in
      let e : get_or A n 0 ≡ v = ap (λ (k : ℕ). get_or A (k - 1) 0) len ∙ last_A.1 in
      let a : node_at (induced_subgraph G A) n ≡ node_inside G A v = sub_at G r_G A up_A in_a n h ∙ ap (node_inside G A) e in
      record {
        readable = all_readable backward A up_A in_a shape_A;
        some_record = omega arith;
        few = omega (arith, short backward A up_A in_a shape_A);
        all_used = all_referenced 0 (induced_subgraph G A) used_A';
        entity-is = ap (λ (z : VersionNode). z.entity) a;
        time-is = ap (λ (z : VersionNode). z.time) a;
        digest-is = in_same G r_G A up_A in_a closed_A n h ∙ ap (λ (k : ℕ). get_or (incoming_digests G) k []) e;
      }
    where
      used_A' : AllUsed 0 (induced_subgraph G A)
      used_A' = used_A

  -- ---- forward

  D : List ℕ
  D = descendants G v

  ED : Exactly (λ (i : ℕ). CausalPath G v i) D
  unfolding D
  ED = descendants_exact G w.starts_before v hv

  up_D : Up (λ (k : ℕ). k) D
  up_D = rising-up ED.rising

  in_d : (m : ℕ) → m among D → m < length G
  in_d m k = path_to ((ED.these m).0 k)

  closed_D : (j : ℕ) → j < length G → (f : InEdge) → f among (node_at G j).in_edges → f.start among D → j among D
  closed_D j h f m k =
      (ED.these j).1 (path_snoc ((ED.these f.start).0 k) (record { edge = f; start_there = in_d f.start k; end_there = h; listed = m; starts = refl }))

  first_D : (0 < length D) × (get_or D 0 0 ≡ v)
  first_D = go (in_place ((ED.these v).1 (stay hv)) 0)
    where
      go : (i : ℕ) × (i < length D) × (get_or D i 0 ≡ v) → (0 < length D) × (get_or D 0 0 ≡ v)
      go r = let h = r.1 in (omega arith, at_first (dec_lt 0 r.0))
        where
          at_first : Dec (0 < r.0) → get_or D 0 0 ≡ v
          at_first (yes p) =
              absurd (let h = r.1 in let z = up_at D up_D 0 r.0 p h in let b = path-up G w.starts_before ((ED.these (get_or D 0 0)).0 (place_in D 0 0 (omega arith))) in let y = r.2 in omega arith)
          at_first (no p) = ap (λ (k : ℕ). get_or D k 0) (omega arith) ∙ r.2

  -- an edge from inside into any but the found version
  rooted_D : (i : ℕ) → 0 < i → i < length D → (f : InEdge) × (f among (node_at G (get_or D i 0)).in_edges) × (f.start among D)
  rooted_D i p h = go (unsnoc ((ED.these (get_or D i 0)).0 (place_in D i 0 h)))
    where
      go : (v ≡ get_or D i 0) ⊎ ((k : ℕ) × CausalPath G v k × Edge G k (get_or D i 0)) → (f : InEdge) × (f among (node_at G (get_or D i 0)).in_edges) × (f.start among D)
      go (inl e) = absurd (let z = up_at D up_D 0 i p h in let y = first_D.1 in omega arith)
      go (inr r) = let d = r.2 in (d.edge, d.listed, Memᴰ.cast d.starts ((ED.these r.0).1 r.1))

  shape_D : (i : ℕ) → i < length D → Shape forward i (edges_inside D (node_at G (get_or D i 0)).in_edges)
  unfolding due
  shape_D zero h = subst (Shape forward 0) (sym none_inside) (entry tt)
    where
      out_of : (f : InEdge) → f among (node_at G (get_or D 0 0)).in_edges → T (not (elem f.start D))
      out_of f m =
          not_T (elem f.start D)
          (λ t. let b = path-up G w.starts_before ((ED.these f.start).0 (in_elem f.start D t)) in
          let c = w.starts_before (get_or D 0 0) (in_d (get_or D 0 0) (place_in D 0 0 h)) f m in let y = first_D.1 in omega arith)

      none_of : (es : List InEdge) → ((f : InEdge) → f among es → T (not (elem f.start D))) → edges_inside D es ≡ []
      none_of [] c = inside_nil D
      none_of (f ∷ es) c = inside_out D f es (c f (Memᴰ.head refl)) ∙ none_of es (λ g m. c g (Memᴰ.tail m))

      none_inside : edges_inside D (node_at G (get_or D 0 0)).in_edges ≡ []
      none_inside = none_of (node_at G (get_or D 0 0)).in_edges out_of
  shape_D (suc i) h =
      let r = rooted_D (suc i) (zero-lt-suc i) h in
      inside-some D i (node_at G (get_or D (suc i) 0)).in_edges (w.none_or_both (get_or D (suc i) 0) (in_d (get_or D (suc i) 0) (place_in D (suc i) 0 h)))
      (moved D r.0) (inside_mem D (node_at G (get_or D (suc i) 0)).in_edges r.0 r.1 (elem_in r.0.start D r.2))

  trace_D : TraceFit forward (induced_subgraph G D) leaf-v
  unfolding leaf-v leaf_at node_inside unreferenced found_position path_digests leaf_digest
  trace_D =
      let len = sub-length G r_G D up_D in_d in
      let h = first_D.0 in
      let e = first_D.1 in
      let a : node_at (induced_subgraph G D) 0 ≡ node_inside G D v = sub_at G r_G D up_D in_d 0 h ∙ ap (node_inside G D) e in
      record {
        readable = all_readable forward D up_D in_d shape_D;
        some_record = omega arith;
        few = omega (arith, short forward D up_D in_d shape_D);
        all_used = refl;
        entity-is = ap (λ (z : VersionNode). z.entity) a;
        time-is = ap (λ (z : VersionNode). z.time) a;
        digest-is = out_same G r_G D up_D in_d (two_types G w) closed_D 0 h ∙ ap (λ (k : ℕ). get_or (outgoing_digests G) k []) e;
      }

  pub trace_fit : (way : Way) → TraceFit way (trace way G v) (leaf_at G (incoming_digests G) (outgoing_digests G) v)
  unfolding trace trace_versions A D leaf-v
  trace_fit backward = trace_A
  trace_fit forward = trace_D
