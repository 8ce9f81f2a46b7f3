-- The forward trace: accepted records are the subgraph on the versions that the found one reaches, or two strings collide. Assumes nothing.
use mathlib.Core.Path.{◌≡◌, refl, sym, ap, ◌∙◌, subst}
use mathlib.Core.Logic.{◌⊎◌, inl, inr}
use Prim.Native.Nat.{ℕ, zero, suc, ◌<◌, ◌≤◌}
use native.Mathlib.Decide.{dec_lt}
use native.Mathlib.Omega.{arith}
use mathlib.Core.List.Memᴰ
use mathlib.Core.List.{List}
use lib.ListN.{length, get_or}
use Rattle.model.specs.Numbers.{Bytes, elem}
use Rattle.model.specs.Graph.{InEdge, VersionNode, node_at, CausalPath, stay, step}
use Rattle.model.specs.Question.{forward}
use Rattle.model.specs.Trace.{position_in, edges_inside, induced_subgraph}
use Rattle.model.specs.Exact.{Exactly, Collision}
use Rattle.model.proofs.Lists.{◌among◌, up_ext, in_place, gather, elem_in, in_elem}
use Rattle.model.proofs.Digests.{path-string}
use Rattle.model.proofs.Match.{Regular, one_time, Matches, Entry, enter, is_it, places-up, in_places, out_across, out_back, exactly_places, induced_places}
use Rattle.model.proofs.Inside.{position_place, moved, inside_mem, of-inside, inside-up}
use Rattle.model.proofs.Paths.{path_snoc, path_to}

module _ (T G : List VersionNode) (r_T : Regular T) (r_G : Regular G) {B C : List Bytes}
    (built : (j : ℕ) → j < length G → path-string forward G j among B) (checked : (i : ℕ) → i < length T → path-string forward T i among C)
    (v : ℕ) (start : Matches forward T G 0 v)
    (rooted : (i : ℕ) → 0 < i → i < length T → (e : InEdge) × (e among (node_at T i).in_edges))
  where
    -- from a record that is a version to one with an edge from it
    follow : (i : ℕ) (e : InEdge) → i < length T → e among (node_at T i).in_edges → Collision B C ⊎ ((j : ℕ) × Entry forward T G (λ (j : ℕ). CausalPath G v j) e.start j) → Collision B C ⊎ ((j : ℕ) × Entry forward T G (λ (j : ℕ). CausalPath G v j) i j)
    follow i e h m (inl c) = inl c
    follow i e h m (inr r) =
        let j = r.0 in
        let a = out_across T G r_T r_G e.start j r.1.links i h e m refl in
        enter forward T G r_T r_G (λ (j : ℕ). CausalPath G v j) built checked i a.0 a.4.far (path_snoc r.1.on-path (record { edge = a.1; start_there = path_to r.1.on-path; end_there = a.4.far.j_in; listed = a.2; starts = a.3 }))

    -- from the first record up, every record is a version
    entry : (d i : ℕ) → i ≤ d → i < length T → Collision B C ⊎ ((j : ℕ) × Entry forward T G (λ (j : ℕ). CausalPath G v j) i j)
    entry zero i b h = subst (λ (k : ℕ). Collision B C ⊎ ((j : ℕ) × Entry forward T G (λ (j : ℕ). CausalPath G v j) k j)) (omega arith) (enter forward T G r_T r_G (λ (j : ℕ). CausalPath G v j) built checked 0 v start (stay start.j_in))
    entry (suc d) i b h = go (dec_lt 0 i) (λ (k : ℕ) (bk : k ≤ d) (hk : k < length T). entry d k bk hk)
      where
        go : Dec (0 < i) → ((k : ℕ) → k ≤ d → k < length T → Collision B C ⊎ ((j : ℕ) × Entry forward T G (λ (j : ℕ). CausalPath G v j) k j)) → Collision B C ⊎ ((j : ℕ) × Entry forward T G (λ (j : ℕ). CausalPath G v j) i j)
        go (no p) rec = subst (λ (k : ℕ). Collision B C ⊎ ((j : ℕ) × Entry forward T G (λ (j : ℕ). CausalPath G v j) k j)) (omega arith) (enter forward T G r_T r_G (λ (j : ℕ). CausalPath G v j) built checked 0 v start (stay start.j_in))
        go (yes p) rec =
            let u = rooted i p h in
            let s = r_T.down i h u.0 u.1 in
            follow i u.0 h u.1 (rec u.0.start (omega arith) (omega arith))

    pub entries : Collision B C ⊎ ((fs : List ℕ) × (length fs ≡ length T) × ((i : ℕ) → i < length T → Entry forward T G (λ (j : ℕ). CausalPath G v j) i (get_or fs i 0)))
    entries = gather (Entry forward T G (λ (j : ℕ). CausalPath G v j)) (length T) (λ i h. entry i i (omega arith) h)

-- ---- what follows with no collision

module _ (T G : List VersionNode) (r_T : Regular T) (r_G : Regular G) (v : ℕ) (start : Matches forward T G 0 v)
    (fs : List ℕ) (len : length fs ≡ length T) (entries : (i : ℕ) → i < length T → Entry forward T G (λ (j : ℕ). CausalPath G v j) i (get_or fs i 0))
  where
    closed : {w m : ℕ} → CausalPath G w m → w among fs → m among fs
    closed (stay h) k = k
    closed (step {i = w} {j = k} d p) m = closed p (go (in_place m 0))
      where
        go : (i : ℕ) × (i < length fs) × (get_or fs i 0 ≡ w) → k among fs
        go r =
            let i = r.0 in
            let h : i < length T = omega (arith, r.1) in
            let E = entries i h in
            let a = out_back T G r_T r_G i (get_or fs i 0) E.links k d.end_there d.edge d.listed (d.starts ∙ sym r.2) in
            in_places forward T G r_T r_G fs len entries a.0 a.4.far.i_in k (is_it forward T G r_T r_G fs len entries a.0 k a.4.far)

    pub exactly : Exactly (λ (i : ℕ). CausalPath G v i) fs
    exactly =
        exactly_places forward T G r_T r_G fs len entries
        (λ j p. closed p (in_places forward T G r_T r_G fs len entries 0 start.i_in v (is_it forward T G r_T r_G fs len entries 0 v start)))

    module _ (i : ℕ) (h : i < length T) where
      j : ℕ
      j = get_or fs i 0

      -- an edge that record i shows is an edge of its version that starts inside
      shown_inside : (x : InEdge) → x among (node_at T i).in_edges → x among edges_inside fs (node_at G j).in_edges
      unfolding j
      shown_inside x m =
          let p = x.start in
          let b : p < i = r_T.down i h x m in
          let E = entries p (omega arith) in
          let a = out_across T G r_T r_G p (get_or fs p 0) E.links i h x m refl in
          let f = a.1 in
          let q = is_it forward T G r_T r_G fs len entries i a.0 a.4.far in
          let k : moved fs f among edges_inside fs (node_at G j).in_edges =
          inside_mem fs (node_at G j).in_edges f (subst (λ (z : ℕ). f among (node_at G z).in_edges) (sym q) a.2)
          (elem_in f.start fs (in_places forward T G r_T r_G fs len entries p (omega arith) f.start (sym a.3))) in
          let r : p ≡ position_in f.start fs = sym (position_place fs (places-up forward T G r_T r_G fs len entries) p (omega arith)) ∙ ap (λ (z : ℕ). position_in z fs) (sym a.3) in
          Memᴰ.cast (λ z. record { type = a.4.type-is z; kind = a.4.kind-is z; start = r z }) k

      -- and the other way round
      inside_shown : (y : InEdge) → y among edges_inside fs (node_at G j).in_edges → y among (node_at T i).in_edges
      unfolding j
      inside_shown y m = go (of-inside fs (node_at G j).in_edges y m)
        where
          go : (f : InEdge) × (f among (node_at G j).in_edges) × lib.Dec.T (elem f.start fs) × (y ≡ moved fs f) → y among (node_at T i).in_edges
          go r = add_ancestors (in_place (in_elem r.0.start fs r.2) 0)
            where
              f : InEdge
              f = r.0

              add_ancestors : (p : ℕ) × (p < length fs) × (get_or fs p 0 ≡ f.start) → y among (node_at T i).in_edges
              add_ancestors w =
                  let p = w.0 in
                  let hp : p < length T = omega (arith, w.1) in
                  let E = entries p hp in
                  let I = (entries i h).matched in
                  let a = out_back T G r_T r_G p (get_or fs p 0) E.links j I.j_in f r.1 (sym w.2) in
                  let e = a.1 in
                  let k : a.0 ≡ i = one_time T r_T a.0 i a.4.far.i_in h (a.4.far.time-is ∙ sym I.time-is) in
                  let s : e.start ≡ position_in f.start fs = a.3 ∙ sym (position_place fs (places-up forward T G r_T r_G fs len entries) p (omega (arith, w.1))) ∙ ap (λ (z : ℕ). position_in z fs) w.2 in
                  let q : e ≡ moved fs f = λ z. record { type = a.4.type-is z; kind = a.4.kind-is z; start = s z } in
                  Memᴰ.cast (r.3 ∙ sym q) (subst (λ (z : ℕ). e among (node_at T z).in_edges) k a.2)

      edges_are : (node_at T i).in_edges ≡ edges_inside fs (node_at G (get_or fs i 0)).in_edges
      unfolding j
      edges_are =
          up_ext (λ (e : InEdge). e.type) (node_at T i).in_edges (edges_inside fs (node_at G j).in_edges) (r_T.types_rise i h) (inside-up fs (node_at G j).in_edges (r_G.types_rise j (entries i h).matched.j_in))
          shown_inside inside_shown

    pub induced : T ≡ induced_subgraph G fs
    induced = induced_places forward T G r_T r_G fs len entries edges_are
