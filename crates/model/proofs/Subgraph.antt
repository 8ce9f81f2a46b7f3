-- The subgraph on a closed set of versions is regular and has the graph's path digests. Assumes nothing.
use mathlib.Core.Path.{◌≡◌, refl, sym, ap, ap₂, ◌∙◌, subst}
use Prim.Native.Nat.{ℕ, zero, suc, ◌+◌, ◌^◌, ◌<◌, ◌≤◌}
use native.Mathlib.Nat.{not-suc-le-zero, zero-lt-suc}
use native.Mathlib.Omega.{arith}
use mathlib.Core.List.Memᴰ
use mathlib.Core.List.{List, [], ◌∷◌, map}
use lib.ListN.{length, get_or, drop, length-map, length-drop}
use lib.Seq.{get_or-drop}
use lib.Dec.{eqb}
use Rattle.model.specs.Numbers.{Bytes, H}
use Rattle.model.specs.Graph.{InEdge, VersionNode, node_at, no_version}
use Rattle.model.specs.Digest.{Link, link, incoming_string, outgoing_string, incoming_links, incoming_digests, links_from, outgoing_links, outgoing_digests, incoming_string_of, outgoing_string_of}
use Rattle.model.specs.Question.{forward}
use Rattle.model.specs.Trace.{position_in, edges_inside, node_inside, induced_subgraph}
use Rattle.model.proofs.Outcomes.{by_test}
use Rattle.model.proofs.Lists.{◌among◌, Up, up_ext, up_head, up_tail, up-append, up_at, at_up, in_place, place_in, elem_in, in_elem, map_at}
use Rattle.model.proofs.Digests.{incoming-right, outgoing-right, links-of, outs_in, of-outs, of-from, of_out}
use Rattle.model.proofs.Match.{Regular}
use Rattle.model.proofs.Inside.{position_place, moved, inside_in, inside_mem, of-inside, inside-up}

-- ---- outgoing links rise: by the end's time, then by the type

abbrev pub order : Link → ℕ
order l = l.edge.end_time + l.edge.end_time + l.edge.type

from_up : (i : ℕ) (a n : VersionNode) (d : Bytes) (es : List InEdge) → Up (λ (e : InEdge). e.type) es → Up order (links_from i a n d es)
unfolding links_from
from_up i a n d [] u = Up.none
from_up i a n d (e ∷ es) u =
    by_test (eqb e.start i) (Up order)
    (λ _. Up.more
    (λ l m. let r = of-from i a n d es l m in
    subst (λ (z : Link). order (link e a n d) < order z) (sym r.3) (let p = up_head (λ (e : InEdge). e.type) u r.0 r.1 in omega arith))
    (from_up i a n d es (up_tail (λ (e : InEdge). e.type) u)))
    (λ _. from_up i a n d es (up_tail (λ (e : InEdge). e.type) u))

-- types are 0 and 1
abbrev pub TwoTypes : List VersionNode → Type 0
TwoTypes ns = (j : ℕ) → j < length ns → (e : InEdge) → e among (node_at ns j).in_edges → e.type < 2

out_up : (i : ℕ) (a : VersionNode) (ns : List VersionNode) (ds : List Bytes) → ((j k : ℕ) → j < k → k < length ns → (node_at ns j).time < (node_at ns k).time)
    → ((j : ℕ) → j < length ns → Up (λ (e : InEdge). e.type) (node_at ns j).in_edges) → TwoTypes ns → Up order (outgoing_links i a ns ds)
unfolding outgoing_links
out_up i a [] ds r t w = Up.none
out_up i a (n ∷ ns) [] r t w = Up.none
out_up i a (n ∷ ns) (d ∷ ds) r t w =
    up-append order (outgoing_links i a ns ds) (from_up i a n d n.in_edges (t 0 (zero-lt-suc (length ns))))
    (out_up i a ns ds (λ j k p q. r (suc j) (suc k) (omega arith) (omega arith)) (λ j h. t (suc j) (omega arith)) (λ j h. w (suc j) (omega arith)))
    (λ l m l' m'.
    let f = of-from i a n d n.in_edges l m in
    let g = of_out i a ns ds l' m' in
    let ty = w 0 (zero-lt-suc (length ns)) f.0 f.1 in
    let lt = r 0 (suc g.0) (zero-lt-suc g.0) (omega (arith, g.2)) in
    omega (arith, ap order f.3, ap order g.5))

outs-up : (ns : List VersionNode) → Regular ns → TwoTypes ns → (i : ℕ) → Up order (links-of forward ns i)
unfolding links-of outgoing_links
outs-up ns s w i =
    let at_drop : (k : ℕ) → node_at (drop (suc i) ns) k ≡ node_at ns (suc i + k) = λ k. get_or-drop (suc i) ns k no_version in
    let len = length-drop (suc i) ns in
    out_up i (node_at ns i) (drop (suc i) ns) (drop (suc i) (outgoing_digests ns))
    (λ j k p q. by_places j k (at_drop j) (at_drop k) (s.times_rise (suc i + j) (suc i + k) (omega arith) (omega arith)))
    (λ j h. subst (λ (n : VersionNode). Up (λ (e : InEdge). e.type) n.in_edges) (sym (at_drop j)) (s.types_rise (suc i + j) (omega arith)))
    (λ j h e m. w (suc i + j) (omega arith) e (subst (λ (n : VersionNode). e among n.in_edges) (at_drop j) m))
  where
    by_places : (j k : ℕ) → node_at (drop (suc i) ns) j ≡ node_at ns (suc i + j) → node_at (drop (suc i) ns) k ≡ node_at ns (suc i + k) → (node_at ns (suc i + j)).time < (node_at ns (suc i + k)).time
        → (node_at (drop (suc i) ns) j).time < (node_at (drop (suc i) ns) k).time
    by_places j k p q h = let a = ap (λ (n : VersionNode). n.time) p in let b = ap (λ (n : VersionNode). n.time) q in omega arith

-- ---- the subgraph

module _ (G : List VersionNode) (r_G : Regular G) (ms : List ℕ) (up : Up (λ (k : ℕ). k) ms) (inG : (m : ℕ) → m among ms → m < length G) where
  pub sub-length : length (induced_subgraph G ms) ≡ length ms
  unfolding induced_subgraph
  sub-length = length-map ms (node_inside G ms)

  pub sub_at : (i : ℕ) → i < length ms → node_at (induced_subgraph G ms) i ≡ node_inside G ms (get_or ms i 0)
  unfolding induced_subgraph
  sub_at i h = map_at (node_inside G ms) ms i no_version 0 h

  abbrev m_at : ℕ → ℕ
  m_at i = get_or ms i 0

  m_in : (i : ℕ) → i < length ms → m_at i < length G
  m_in i h = inG (m_at i) (place_in ms i 0 h)

  -- an edge of the subgraph comes from one of the graph
  pub sub-edge : (i : ℕ) → i < length ms → (e : InEdge) → e among (node_at (induced_subgraph G ms) i).in_edges
      → (f : InEdge) × (f among (node_at G (m_at i)).in_edges) × (e ≡ moved ms f) × (e.start < length ms) × (m_at e.start ≡ f.start)
  unfolding edges_inside node_inside
  sub-edge i h e m =
      let k = of-inside ms (node_at G (m_at i)).in_edges e (subst (λ (n : VersionNode). e among n.in_edges) (sub_at i h) m) in
      let f = k.0 in
      let p = in_place (in_elem f.start ms k.2) 0 in
      let s : e.start ≡ p.0 = ap (λ (z : InEdge). z.start) k.3 ∙ ap (λ (z : ℕ). position_in z ms) (sym p.2) ∙ position_place ms up p.0 p.1 in
      (f, k.1, k.3, omega (arith, p.1), ap m_at s ∙ p.2)

  -- and one of the graph that starts inside is there
  pub edge-sub : (i : ℕ) → i < length ms → (f : InEdge) → f among (node_at G (m_at i)).in_edges → f.start among ms → moved ms f among (node_at (induced_subgraph G ms) i).in_edges
  unfolding node_inside edges_inside
  edge-sub i h f m k = subst (λ (n : VersionNode). moved ms f among n.in_edges) (sym (sub_at i h)) (inside_mem ms (node_at G (m_at i)).in_edges f m (elem_in f.start ms k))

  pub sub-down : (i : ℕ) → i < length ms → (e : InEdge) → e among (node_at (induced_subgraph G ms) i).in_edges → e.start < i
  sub-down i h e m =
      let r = sub-edge i h e m in
      at_up ms up e.start i r.3 (let d = r_G.down (m_at i) (m_in i h) r.0 r.1 in let q = r.4 in omega arith)

  pub sub_regular : Regular (induced_subgraph G ms)
  unfolding node_inside
  sub_regular =
      record {
        down = λ j h e m. sub-down j (sh j h) e m;
        entities_fit = λ j h. subst (λ (n : VersionNode). n.entity < 256 ^ 4) (sym (sub_at j (sh j h))) (r_G.entities_fit (m_at j) (m_in j (sh j h)));
        times_fit = λ j h. subst (λ (n : VersionNode). n.time < 256 ^ 8) (sym (sub_at j (sh j h))) (r_G.times_fit (m_at j) (m_in j (sh j h)));
        types_fit = λ j h e m. let r = sub-edge j (sh j h) e m in subst (λ (z : InEdge). z.type < 256 ^ 1) (sym r.2) (r_G.types_fit (m_at j) (m_in j (sh j h)) r.0 r.1);
        kinds_fit = λ j h e m. let r = sub-edge j (sh j h) e m in subst (λ (z : InEdge). z.kind < 256 ^ 1) (sym r.2) (r_G.kinds_fit (m_at j) (m_in j (sh j h)) r.0 r.1);
        types_rise = λ j h. subst (λ (n : VersionNode). Up (λ (e : InEdge). e.type) n.in_edges) (sym (sub_at j (sh j h))) (inside-up ms (node_at G (m_at j)).in_edges (r_G.types_rise (m_at j) (m_in j (sh j h))));
        times_rise = λ i j p h.
            let a = ap (λ (n : VersionNode). n.time) (sub_at i (let z = sh j h in omega arith)) in
            let b = ap (λ (n : VersionNode). n.time) (sub_at j (sh j h)) in
            let r = r_G.times_rise (m_at i) (m_at j) (up_at ms up i j p (sh j h)) (m_in j (sh j h)) in
            omega arith;
      }
    where
      sh : (j : ℕ) → j < length (induced_subgraph G ms) → j < length ms
      sh j h = omega (arith, sub-length)

  -- ---- the same incoming digests, if the versions' starts are inside

  module _ (closed : (i : ℕ) → i < length ms → (f : InEdge) → f among (node_at G (get_or ms i 0)).in_edges → f.start among ms) where
    same-links : (i : ℕ) → i < length ms → ((p : ℕ) → p < i → get_or (incoming_digests (induced_subgraph G ms)) p [] ≡ get_or (incoming_digests G) (m_at p) [])
        → (es : List InEdge) → ((f : InEdge) → f among es → (f.start among ms) × (f.start < m_at i))
        → map (λ (e : InEdge). link e (node_at (induced_subgraph G ms) e.start) (node_inside G ms (m_at i)) (get_or (incoming_digests (induced_subgraph G ms)) e.start [])) (edges_inside ms es)
        ≡ map (λ (f : InEdge). link f (node_at G f.start) (node_at G (m_at i)) (get_or (incoming_digests G) f.start [])) es
    unfolding edges_inside node_inside
    same-links i h ih [] c = refl
    same-links i h ih (f ∷ es) c =
        let q = c f (Memᴰ.head refl) in
        let p = in_place q.0 0 in
        let s : position_in f.start ms ≡ p.0 = ap (λ (z : ℕ). position_in z ms) (sym p.2) ∙ position_place ms up p.0 p.1 in
        let lt : p.0 < i = at_up ms up p.0 i p.1 (let a = q.1 in let b = p.2 in omega arith) in
        let n : node_at (induced_subgraph G ms) (position_in f.start ms) ≡ node_inside G ms f.start = ap (node_at (induced_subgraph G ms)) s ∙ sub_at p.0 p.1 ∙ ap (node_inside G ms) p.2 in
        let d : get_or (incoming_digests (induced_subgraph G ms)) (position_in f.start ms) [] ≡ get_or (incoming_digests G) f.start [] =
        ap (λ (k : ℕ). get_or (incoming_digests (induced_subgraph G ms)) k []) s ∙ ih p.0 lt ∙ ap (λ (k : ℕ). get_or (incoming_digests G) k []) p.2 in
        ap (map (λ (e : InEdge). link e (node_at (induced_subgraph G ms) e.start) (node_inside G ms (m_at i)) (get_or (incoming_digests (induced_subgraph G ms)) e.start []))) (inside_in ms f es (elem_in f.start ms q.0))
        ∙ ap₂ {C = List Link} (λ x l. x ∷ l) (λ z. link f (n z) (node_inside G ms (m_at i)) (d z)) (same-links i h ih es (λ g m. c g (Memᴰ.tail m)))

    in_same_to : (b i : ℕ) → i < b → i < length ms → get_or (incoming_digests (induced_subgraph G ms)) i [] ≡ get_or (incoming_digests G) (m_at i) []
    unfolding incoming_string_of incoming_string incoming_links node_inside edges_inside
    in_same_to zero i lt h = absurd (not-suc-le-zero lt)
    in_same_to (suc b) i lt h =
        incoming-right (induced_subgraph G ms) sub_regular.down i (omega (arith, sub-length))
        ∙ ap (λ (n : VersionNode). H (incoming_string (incoming_links (induced_subgraph G ms) (incoming_digests (induced_subgraph G ms)) n))) (sub_at i h)
        ∙ ap (λ (ls : List Link). H (incoming_string ls))
        (same-links i h (λ p q. in_same_to b p (omega arith) (omega arith)) (node_at G (m_at i)).in_edges (λ f m. (closed i h f m, r_G.down (m_at i) (m_in i h) f m)))
        ∙ sym (incoming-right G r_G.down (m_at i) (m_in i h))

    pub in_same : (i : ℕ) → i < length ms → get_or (incoming_digests (induced_subgraph G ms)) i [] ≡ get_or (incoming_digests G) (get_or ms i 0) []
    in_same i h = in_same_to (suc i) i (omega arith) h

  -- ---- the same outgoing digests, if the versions' ends are inside

  module _ (two : TwoTypes G) (closed : (j : ℕ) → j < length G → (f : InEdge) → f among (node_at G j).in_edges → f.start among ms → j among ms) where
    sub_two : TwoTypes (induced_subgraph G ms)
    sub_two j h e m =
        let h' : j < length ms = omega (arith, sub-length) in
        let r = sub-edge j h' e m in subst (λ (z : InEdge). z.type < 2) (sym r.2) (two (m_at j) (m_in j h') r.0 r.1)

    outs-same : (i : ℕ) → i < length ms → ((k : ℕ) → i < k → k < length ms → get_or (outgoing_digests (induced_subgraph G ms)) k [] ≡ get_or (outgoing_digests G) (m_at k) []) → links-of forward (induced_subgraph G ms) i ≡ links-of forward G (m_at i)
    unfolding node_inside
    outs-same i h ih =
        up_ext order (links-of forward (induced_subgraph G ms) i) (links-of forward G (m_at i)) (outs-up (induced_subgraph G ms) sub_regular sub_two i) (outs-up G r_G two (m_at i)) to fro
      where
        sub : List VersionNode
        sub = induced_subgraph G ms

        -- the two links of one edge into the k-th
        one_link : (k : ℕ) (f : InEdge) → k < length ms → i < k → link (moved ms f) (node_at sub i) (node_at sub k) (get_or (outgoing_digests sub) k []) ≡ link f (node_at G (m_at i)) (node_at G (m_at k)) (get_or (outgoing_digests G) (m_at k) [])
        one_link k f hk lt = λ z. link (moved ms f) (sub_at i h z) (sub_at k hk z) (ih k lt hk z)

        to : (l : Link) → l among links-of forward sub i → l among links-of forward G (m_at i)
        to l m =
            let o = of-outs sub i l m in
            let k = o.0 in
            let e = o.1 in
            let hk : k < length ms = omega (arith, o.2, sub-length) in
            let r = sub-edge k hk e o.3 in
            let f = r.0 in
            let lt : i < k = (let d = sub-down k hk e o.3 in let s = o.4 in omega arith) in
            let st : f.start ≡ m_at i = sym r.4 ∙ ap m_at o.4 in
            let g : link f (node_at G f.start) (node_at G (m_at k)) (get_or (outgoing_digests G) (m_at k) []) among links-of forward G f.start = outs_in G r_G.down (m_at k) (m_in k hk) f r.1 in
            Memᴰ.cast (o.5 ∙ ap (λ (z : InEdge). link z (node_at sub i) (node_at sub k) (get_or (outgoing_digests sub) k [])) r.2 ∙ one_link k f hk lt)
            (subst (λ (z : ℕ). link f (node_at G z) (node_at G (m_at k)) (get_or (outgoing_digests G) (m_at k) []) among links-of forward G z) st g)

        fro : (l : Link) → l among links-of forward G (m_at i) → l among links-of forward sub i
        fro l m =
            let o = of-outs G (m_at i) l m in
            let j = o.0 in
            let f = o.1 in
            let in_f : f.start among ms = Memᴰ.cast o.4 (place_in ms i 0 h) in
            let p = in_place (closed j o.2 f o.3 in_f) 0 in
            let k = p.0 in
            let hk = p.1 in
            let f_in : f among (node_at G (m_at k)).in_edges = subst (λ (z : ℕ). f among (node_at G z).in_edges) (sym p.2) o.3 in
            let s : position_in f.start ms ≡ i = ap (λ (z : ℕ). position_in z ms) o.4 ∙ position_place ms up i h in
            let e_in = edge-sub k hk f f_in in_f in
            let lt : i < k = (let d = sub-down k hk (moved ms f) e_in in let q = s in omega arith) in
            let g : link (moved ms f) (node_at sub (position_in f.start ms)) (node_at sub k) (get_or (outgoing_digests sub) k []) among links-of forward sub (position_in f.start ms) =
            outs_in sub sub_regular.down k (omega (arith, hk, sub-length)) (moved ms f) e_in in
            Memᴰ.cast
            (o.5 ∙ ap (λ (z : ℕ). link f (node_at G (m_at i)) (node_at G z) (get_or (outgoing_digests G) z [])) (sym p.2) ∙ sym (one_link k f hk lt))
            (subst (λ (z : ℕ). link (moved ms f) (node_at sub z) (node_at sub k) (get_or (outgoing_digests sub) k []) among links-of forward sub z) s g)

    out_same_to : (b i : ℕ) → length ms ≤ i + b → i < length ms → get_or (outgoing_digests (induced_subgraph G ms)) i [] ≡ get_or (outgoing_digests G) (m_at i) []
    unfolding outgoing_string_of outgoing_string links-of outgoing_links
    out_same_to zero i c h = absurd (omega' c h)
      where
        omega' : length ms ≤ i + 0 → i < length ms → ⊥
        omega' c h = omega arith
    out_same_to (suc b) i c h =
        outgoing-right (induced_subgraph G ms) i (omega (arith, sub-length))
        ∙ ap (λ (ls : List Link). H (outgoing_string ls)) (outs-same i h (λ k lt hk. out_same_to b k (omega arith) hk))
        ∙ sym (outgoing-right G (m_at i) (m_in i h))

    pub out_same : (i : ℕ) → i < length ms → get_or (outgoing_digests (induced_subgraph G ms)) i [] ≡ get_or (outgoing_digests G) (get_or ms i 0) []
    out_same i h = out_same_to (length ms) i (omega arith) h
