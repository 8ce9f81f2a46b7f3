-- The defined trace shows every version and edge on the question's paths and no other. Assumes nothing.
use mathlib.Core.Path.{◌≡◌, refl, sym, ap, ◌∙◌, subst}
use Prim.Native.Nat.{ℕ, ◌<◌}
use native.Mathlib.Nat.{not-suc-le-zero}
use native.Mathlib.Omega.{arith}
use mathlib.Core.List.Memᴰ
use mathlib.Core.List.{List, []}
use lib.ListN.{length, get_or, length-map}
use Rattle.model.specs.Graph.{InEdge, VersionNode, node_at, no_version, NamedEdge, named, Edge, CausalPath, stay, edges_on}
use Rattle.model.specs.Question.{Way, backward, forward, Part, version_only, trace_of}
use Rattle.model.specs.Trace.{position_in, node_inside, induced_subgraph, trace_versions, trace}
use Rattle.model.specs.Exact.{QuestionPath, ending, starting, path_versions, path_edges, Exactly, Reached, ShowsVersion, ShowsEdge, VersionOnPath, EdgeOnPath, Shows}
use Rattle.model.proofs.Lists.{◌among◌, Up, in_place, place_in, rising-up, elem_in, in_elem, map_at}
use Rattle.model.proofs.Digests.{Down}
use Rattle.model.proofs.Paths.{path-from, path_to, path-append, first_on, last_on, to_end, from_start, edge-within, middle_on}
use Rattle.model.proofs.Inside.{position_place, moved, inside_mem, of-inside}
use Rattle.model.proofs.Search.{search_exact_down}

-- ---- on a path of the question: by the ends

pub version-on : (G : List VersionNode) (v : ℕ) (way : Way) (i e t : ℕ) → Reached G v (trace_of way) i → (node_at G i).entity ≡ e → (node_at G i).time ≡ t → VersionOnPath G v (trace_of way) e t
unfolding path_versions
version-on G v backward i e t p a b = record { path = ending p; i = i; on = first_on p; is_entity = a; is_time = b }
version-on G v forward i e t p a b = record { path = starting p; i = i; on = last_on p; is_entity = a; is_time = b }

on-version : (G : List VersionNode) (v : ℕ) (way : Way) (q : QuestionPath G v (trace_of way)) (i : ℕ) → i among path_versions q → Reached G v (trace_of way) i
unfolding path_versions
on-version G v backward (ending p) i m = to_end p m
on-version G v forward (starting p) i m = from_start p m

-- an edge between two versions with a path
record Between (G : List VersionNode) (v : ℕ) (way : Way) (l : NamedEdge) : Type 0 where
  i : ℕ
  j : ℕ
  edge : Edge G i j
  from_on : Reached G v (trace_of way) i
  to-on : Reached G v (trace_of way) j
  is_it : named edge.edge (node_at G i) (node_at G j) ≡ l

between_on : (G : List VersionNode) (v : ℕ) (way : Way) (l : NamedEdge) → Between G v way l → EdgeOnPath G v (trace_of way) l
unfolding path_edges
between_on G v backward l b =
    record {
      path = ending (path-append (stay b.edge.start_there) (CausalPath.step b.edge b.to-on));
      on = Memᴰ.cast (sym b.is_it) (middle_on (stay b.edge.start_there) b.edge b.to-on);
    }
between_on G v forward l b =
    record {
      path = starting (path-append b.from_on (CausalPath.step b.edge (stay b.edge.end_there)));
      on = Memᴰ.cast (sym b.is_it) (middle_on b.from_on b.edge (stay b.edge.end_there));
    }

on_between : (G : List VersionNode) (v : ℕ) (way : Way) (l : NamedEdge) → EdgeOnPath G v (trace_of way) l → Between G v way l
unfolding edges_on path_edges
on_between G v way l o = go way o.path o.on
  where
    go : (way : Way) (q : QuestionPath G v (trace_of way)) → l among path_edges q → Between G v way l
    go backward (ending p) m =
        let r = edge-within p m in
        record { i = r.a; j = r.b; edge = r.edge; from_on = CausalPath.step r.edge r.behind; to-on = r.behind; is_it = sym r.is_it }
    go forward (starting p) m =
        let r = edge-within p m in
        record { i = r.a; j = r.b; edge = r.edge; from_on = r.before; to-on = path-append r.before (CausalPath.step r.edge (stay r.edge.end_there)); is_it = sym r.is_it }

-- ---- the subgraph on the versions with a path

module _ (G : List VersionNode) (v : ℕ) (way : Way) (ms : List ℕ) (E : Exactly (Reached G v (trace_of way)) ms) (there : (m : ℕ) → m among ms → m < length G) where
  sub : List VersionNode
  sub = induced_subgraph G ms

  len : length sub ≡ length ms
  unfolding sub induced_subgraph
  len = length-map ms (node_inside G ms)

  here : (i : ℕ) → i < length ms → node_at sub i ≡ node_inside G ms (get_or ms i 0)
  unfolding sub induced_subgraph
  here i h = map_at (node_inside G ms) ms i no_version 0 h

  up : Up (λ (k : ℕ). k) ms
  up = rising-up E.rising

  version→ : (e t : ℕ) → ShowsVersion sub e t → VersionOnPath G v (trace_of way) e t
  unfolding node_inside
  version→ e t s =
      let h : s.i < length ms = omega (arith, s.inside, len) in
      version-on G v way (get_or ms s.i 0) e t ((E.these (get_or ms s.i 0)).0 (place_in ms s.i 0 h))
      (sym (ap (λ (n : VersionNode). n.entity) (here s.i h)) ∙ s.is_entity)
      (sym (ap (λ (n : VersionNode). n.time) (here s.i h)) ∙ s.is_time)

  version← : (e t : ℕ) → VersionOnPath G v (trace_of way) e t → ShowsVersion sub e t
  unfolding node_inside
  version← e t p =
      let r = in_place ((E.these p.i).1 (on-version G v way p.path p.i p.on)) 0 in
      record {
        i = r.0;
        inside = omega (arith, r.1, len);
        is_entity = ap (λ (n : VersionNode). n.entity) (here r.0 r.1) ∙ ap (λ (k : ℕ). (node_at G k).entity) r.2 ∙ p.is_entity;
        is_time = ap (λ (n : VersionNode). n.time) (here r.0 r.1) ∙ ap (λ (k : ℕ). (node_at G k).time) r.2 ∙ p.is_time;
      }

  edge→ : (l : NamedEdge) → ShowsEdge sub l → Between G v way l
  unfolding node_inside
  edge→ l s =
      let e = s.edge in
      let hj : s.j < length ms = omega (arith, s.inside, len) in
      let m = get_or ms s.j 0 in
      let k = of-inside ms (node_at G m).in_edges e (subst (λ (n : VersionNode). e among n.in_edges) (here s.j hj) s.listed) in
      let f = k.0 in
      let in_f = in_elem f.start ms k.2 in
      let p = in_place in_f 0 in
      let at_i : e.start ≡ p.0 = ap (λ (z : InEdge). z.start) k.3 ∙ ap (λ (z : ℕ). position_in z ms) (sym p.2) ∙ position_place ms up p.0 p.1 in
      let a : node_at sub e.start ≡ node_inside G ms f.start = ap (λ (z : ℕ). node_at sub z) at_i ∙ here p.0 p.1 ∙ ap (node_inside G ms) p.2 in
      let b : node_at sub s.j ≡ node_inside G ms m = here s.j hj in
      record {
        i = f.start;
        j = m;
        edge = record { edge = f; start_there = there f.start in_f; end_there = there m (place_in ms s.j 0 hj); listed = k.1; starts = refl };
        from_on = (E.these f.start).0 in_f;
        to-on = (E.these m).0 (place_in ms s.j 0 hj);
        is_it = sym (λ z. named (k.3 z) (a z) (b z)) ∙ s.is_it;
      }

  edge← : (l : NamedEdge) → Between G v way l → ShowsEdge sub l
  unfolding node_inside
  edge← l s =
      let f = s.edge.edge in
      let p = in_place ((E.these s.i).1 s.from_on) 0 in
      let q = in_place ((E.these s.j).1 s.to-on) 0 in
      let in_f : f.start among ms = Memᴰ.cast s.edge.starts ((E.these s.i).1 s.from_on) in
      let at_i : position_in f.start ms ≡ p.0 = ap (λ (z : ℕ). position_in z ms) (s.edge.starts ∙ sym p.2) ∙ position_place ms up p.0 p.1 in
      let a : node_at sub (position_in f.start ms) ≡ node_inside G ms s.i = ap (λ (z : ℕ). node_at sub z) at_i ∙ here p.0 p.1 ∙ ap (node_inside G ms) p.2 in
      let b : node_at sub q.0 ≡ node_inside G ms s.j = here q.0 q.1 ∙ ap (node_inside G ms) q.2 in
      record {
        j = q.0;
        inside = omega (arith, q.1, len);
        edge = moved ms f;
        listed = subst (λ (n : VersionNode). moved ms f among n.in_edges) (sym b) (inside_mem ms (node_at G s.j).in_edges f s.edge.listed (elem_in f.start ms in_f));
        is_it = (λ z. named (moved ms f) (a z) (b z)) ∙ s.is_it;
      }

  shows : Shows G v (trace_of way) (induced_subgraph G ms)
  unfolding sub
  shows =
      record {
        versions = λ e t. (version→ e t, version← e t);
        edges = λ l. (λ s. between_on G v way l (edge→ l s), λ o. edge← l (on_between G v way l o));
      }

pub trace_shows : (G : List VersionNode) → Down G → (way : Way) (v : ℕ) → v < length G → Shows G v (trace_of way) (trace way G v)
unfolding trace
trace_shows G down backward v h =
    let E = search_exact_down G down backward v h in
    shows G v backward (trace_versions backward G v) E (λ m k. path-from ((E.these m).0 k))
trace_shows G down forward v h =
    let E = search_exact_down G down forward v h in
    shows G v forward (trace_versions forward G v) E (λ m k. path_to ((E.these m).0 k))

-- without a trace there are no paths, and no records show nothing
no_path : (G : List VersionNode) (v : ℕ) → QuestionPath G v version_only → ⊥
no_path G v q = go q refl
  where
    go : {p : Part} → QuestionPath G v p → p ≡ version_only → ⊥
    go (ending c) e = let z : ◌≡◌ {A = ℕ} 0 1 = cc in omega arith
    go (starting c) e = let z : ◌≡◌ {A = ℕ} 0 1 = cc in omega arith

pub nothing_shows : (G : List VersionNode) (v : ℕ) → Shows G v version_only []
nothing_shows G v =
    record {
      versions = λ e t. (λ s. absurd (not-suc-le-zero s.inside), λ o. absurd (no_path G v o.path));
      edges = λ l. (λ s. absurd (not-suc-le-zero s.inside), λ o. absurd (no_path G v o.path));
    }
