-- The backward trace: accepted records are the subgraph on the versions that reach the found one, or two strings collide. Assumes nothing.
use mathlib.Core.Path.{◌≡◌, refl, sym, ap, ap₂, ◌∙◌, subst}
use mathlib.Core.Logic.{◌⊎◌, inl, inr}
use Prim.Native.Nat.{ℕ, zero, suc, ◌+◌, ◌<◌, ◌≤◌}
use native.Mathlib.Decide.{dec_lt}
use native.Mathlib.Omega.{arith}
use mathlib.Core.List.Memᴰ
use mathlib.Core.List.{List, [], ◌∷◌, map, nil≢cons, cons≢nil, head-eq_of_cons-eq, tail-eq_of_cons-eq}
use lib.ListN.{length, get_or}
use Rattle.model.specs.Numbers.{Bytes}
use Rattle.model.specs.Graph.{InEdge, VersionNode, node_at, CausalPath, stay, step}
use Rattle.model.specs.Digest.{Link, link, incoming_links, incoming_digests}
use Rattle.model.specs.Question.{backward}
use Rattle.model.specs.Trace.{position_in, edges_inside, induced_subgraph}
use Rattle.model.specs.CheckRows.{path_digests}
use Rattle.model.specs.Exact.{Exactly, Collision}
use Rattle.model.proofs.Lists.{◌among◌, in_place, gather, elem_in}
use Rattle.model.proofs.Digests.{links-of, path-string}
use Rattle.model.proofs.Match.{Regular, Matches, Entry, enter, is_it, places-up, in_places, in_across, in_back, exactly_places, induced_places}
use Rattle.model.proofs.Inside.{position_place, moved, inside_in}

module _ (T G : List VersionNode) (r_T : Regular T) (r_G : Regular G) {B C : List Bytes}
    (built : (j : ℕ) → j < length G → path-string backward G j among B) (checked : (i : ℕ) → i < length T → path-string backward T i among C)
    (n v : ℕ) (last : length T ≡ suc n) (start : Matches backward T G n v)
    (used : (i : ℕ) → i < n → (k : ℕ) × (e : InEdge) × (k < length T) × (e among (node_at T k).in_edges) × (e.start ≡ i))
  where
    -- from a record that is a version to one that it refers to
    follow : (k : ℕ) (e : InEdge) → k < length T → e among (node_at T k).in_edges → Collision B C ⊎ ((j : ℕ) × Entry backward T G (λ (j : ℕ). CausalPath G j v) k j) → Collision B C ⊎ ((j : ℕ) × Entry backward T G (λ (j : ℕ). CausalPath G j v) e.start j)
    follow k e hk m (inl c) = inl c
    follow k e hk m (inr r) =
        let j = r.0 in
        let a = in_across T G r_T r_G k j hk r.1.matched.j_in r.1.links e m in
        let f = a.0 in
        enter backward T G r_T r_G (λ (j : ℕ). CausalPath G j v) built checked e.start f.start a.2.far
        (step (record { edge = f; start_there = a.2.far.j_in; end_there = r.1.matched.j_in; listed = a.1; starts = refl }) r.1.on-path)

    -- from the last record down, every record is a version: d bounds how far from the last
    entry : (d i : ℕ) → i < length T → length T ≤ i + suc d → Collision B C ⊎ ((j : ℕ) × Entry backward T G (λ (j : ℕ). CausalPath G j v) i j)
    entry zero i h b = subst (λ (k : ℕ). Collision B C ⊎ ((j : ℕ) × Entry backward T G (λ (j : ℕ). CausalPath G j v) k j)) (omega arith) (enter backward T G r_T r_G (λ (j : ℕ). CausalPath G j v) built checked n v start (stay start.j_in))
    entry (suc d) i h b = go (dec_lt i n) (λ (k : ℕ) (hk : k < length T) (bk : length T ≤ k + suc d). entry d k hk bk)
      where
        go : Dec (i < n) → ((k : ℕ) → k < length T → length T ≤ k + suc d → Collision B C ⊎ ((j : ℕ) × Entry backward T G (λ (j : ℕ). CausalPath G j v) k j)) → Collision B C ⊎ ((j : ℕ) × Entry backward T G (λ (j : ℕ). CausalPath G j v) i j)
        go (no p) rec = subst (λ (k : ℕ). Collision B C ⊎ ((j : ℕ) × Entry backward T G (λ (j : ℕ). CausalPath G j v) k j)) (omega arith) (enter backward T G r_T r_G (λ (j : ℕ). CausalPath G j v) built checked n v start (stay start.j_in))
        go (yes p) rec =
            let u = used i p in
            let k = u.0 in
            let e = u.1 in
            let b' : e.start < k = r_T.down k u.2 e u.3 in
            let s : e.start ≡ i = u.4 in
            subst (λ (k : ℕ). Collision B C ⊎ ((j : ℕ) × Entry backward T G (λ (j : ℕ). CausalPath G j v) k j)) s (follow k e u.2 u.3 (rec k u.2 (omega arith)))

    pub entries : Collision B C ⊎ ((fs : List ℕ) × (length fs ≡ length T) × ((i : ℕ) → i < length T → Entry backward T G (λ (j : ℕ). CausalPath G j v) i (get_or fs i 0)))
    entries = gather (Entry backward T G (λ (j : ℕ). CausalPath G j v)) (length T) (λ i h. entry (length T) i h (omega arith))

-- ---- what follows with no collision

module _ (T G : List VersionNode) (r_T : Regular T) (r_G : Regular G) (n v : ℕ) (last : length T ≡ suc n) (start : Matches backward T G n v)
    (fs : List ℕ) (len : length fs ≡ length T) (entries : (i : ℕ) → i < length T → Entry backward T G (λ (j : ℕ). CausalPath G j v) i (get_or fs i 0))
  where
    closed : {m w : ℕ} → CausalPath G m w → w ≡ v → m among fs
    closed (stay {i = w} h) e = in_places backward T G r_T r_G fs len entries n start.i_in w (is_it backward T G r_T r_G fs len entries n v start ∙ sym e)
    closed (step {i = m} {j = k} d p) e = go (in_place (closed p e) 0)
      where
        go : (i : ℕ) × (i < length fs) × (get_or fs i 0 ≡ k) → m among fs
        go r =
            let i = r.0 in
            let h : i < length T = omega (arith, r.1) in
            let E = entries i h in
            let a = in_back T G r_T r_G i (get_or fs i 0) h E.matched.j_in E.links d.edge (subst (λ (z : ℕ). d.edge among (node_at G z).in_edges) (sym r.2) d.listed) in
            in_places backward T G r_T r_G fs len entries a.0.start a.2.far.i_in m (is_it backward T G r_T r_G fs len entries a.0.start d.edge.start a.2.far ∙ d.starts)

    pub exactly : Exactly (λ (i : ℕ). CausalPath G i v) fs
    exactly = exactly_places backward T G r_T r_G fs len entries (λ j p. closed p refl)

    -- the edges of record i are those of its version, by position
    edges_are : (i j : ℕ) (es gs : List InEdge)
        → map (λ (e : InEdge). link e (node_at T e.start) (node_at T i) (get_or (incoming_digests T) e.start [])) es ≡ map (λ (f : InEdge). link f (node_at G f.start) (node_at G j) (get_or (incoming_digests G) f.start [])) gs
        → ((e : InEdge) → e among es → e.start < length T) → ((f : InEdge) → f among gs → f.start < length G) → es ≡ edges_inside fs gs
    unfolding edges_inside path_digests
    edges_are i j [] [] eq h k = refl
    edges_are i j [] (g ∷ gs) eq h k = absurd (nil≢cons eq)
    edges_are i j (e ∷ es) [] eq h k = absurd (cons≢nil eq)
    edges_are i j (e ∷ es) (g ∷ gs) eq h k =
        let l = head-eq_of_cons-eq eq in
        let m : Matches backward T G e.start g.start =
        record {
          i_in = h e (Memᴰ.head refl);
          j_in = k g (Memᴰ.head refl);
          entity-is = ap (λ (l : Link). l.edge.start_entity) l;
          time-is = ap (λ (l : Link). l.edge.start_time) l;
          digest-is = ap (λ (l : Link). l.digest) l;
        } in
        let s = is_it backward T G r_T r_G fs len entries e.start g.start m in
        let r : e.start ≡ position_in g.start fs = sym (position_place fs (places-up backward T G r_T r_G fs len entries) e.start (omega (arith, m.i_in))) ∙ ap (λ (z : ℕ). position_in z fs) s in
        let first : e ≡ moved fs g = λ z. record { type = ap (λ (l : Link). l.edge.type) l z; kind = ap (λ (l : Link). l.edge.kind) l z; start = r z } in
        ap₂ {C = List InEdge} (λ x l. x ∷ l) first
        (edges_are i j es gs (tail-eq_of_cons-eq eq) (λ e' m'. h e' (Memᴰ.tail m')) (λ f' m'. k f' (Memᴰ.tail m')))
        ∙ sym (inside_in fs g gs (elem_in g.start fs (in_places backward T G r_T r_G fs len entries e.start m.i_in g.start s)))

    pub induced : T ≡ induced_subgraph G fs
    unfolding links-of incoming_links
    induced =
        induced_places backward T G r_T r_G fs len entries
        (λ i h.
        let E = entries i h in
        let j = get_or fs i 0 in
        let m = E.matched in
        edges_are i j (node_at T i).in_edges (node_at G j).in_edges E.links (λ e k. let b = r_T.down i h e k in omega arith)
        (λ f k. let b = r_G.down j m.j_in f k in let c = m.j_in in omega arith))
