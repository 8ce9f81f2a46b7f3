-- "Paths are defined as chains of edges, never by the search": the search finds exactly the versions with a path, by rising time.
-- Assumes nothing.
use mathlib.Core.Path.{◌≡◌, refl, sym, ap, ◌∙◌, subst}
use mathlib.Core.Logic.{◌⊎◌, inl, inr}
use Prim.Native.Nat.{ℕ, zero, suc, ◌<◌, ◌≤◌}
use native.Mathlib.Decide.{dec_lt}
use native.Mathlib.Omega.{arith}
use mathlib.Core.Bool.{not, cond}
use mathlib.Core.List.Memᴰ
use mathlib.Core.List.{List, [], ◌∷◌, ◌++◌, append_assoc}
use lib.ListN.{length, take, drop, length-append, take-append-drop}
use lib.Seq.{get_or-append_seam, length-take-le}
use lib.Dec.{T, eqb, eqb→eq, eqb_refl, T_not}
use Rattle.model.specs.Numbers.{elem}
use Rattle.model.specs.Graph.{InEdge, VersionNode, node_at, no_version, Edge, CausalPath, stay, step}
use Rattle.model.specs.Question.{Way, backward, forward, trace_of}
use Rattle.model.specs.Trace.{refers, referred, add_ancestors, ancestors, starts_in, add_descendants, descendants, trace_versions}
use Rattle.model.specs.Exact.{Exactly, Reached, SearchExact}
use Rattle.model.proofs.Outcomes.{or_T, T_or_left, T_or_right, by_test}
use Rattle.model.proofs.Lists.{◌among◌, Up, none, more, up-rising, up_snoc, elem_in, in_elem}
use Rattle.model.proofs.Digests.{Down}
use Rattle.model.proofs.Paths.{path_snoc, path-from, path_to, unsnoc, edge-up, path-up}

-- ---- the tests

pub refers_in : (i : ℕ) (es : List InEdge) → T (refers i es) → (e : InEdge) × (e among es) × (e.start ≡ i)
unfolding refers
refers_in i [] t = absurd t
refers_in i (e ∷ es) t = go (λ (k : T (refers i es)). refers_in i es k) (or_T (eqb e.start i) (refers i es) t)
  where
    go : (T (refers i es) → (e : InEdge) × (e among es) × (e.start ≡ i)) → T (eqb e.start i) ⊎ T (refers i es) → (f : InEdge) × (f among e ∷ es) × (f.start ≡ i)
    go rec (inl t) = (e, Memᴰ.head refl, eqb→eq e.start i t)
    go rec (inr t) = let r = rec t in (r.0, Memᴰ.tail r.1, r.2)

pub in_refers : (i : ℕ) {e : InEdge} {es : List InEdge} → e among es → e.start ≡ i → T (refers i es)
unfolding refers
in_refers i {e = e} (Memᴰ.head {x = f} {xs = es} p) s =
    T_or_left (eqb f.start i) (refers i es) (subst (λ (k : ℕ). T (eqb k i)) (sym s ∙ ap (λ (g : InEdge). g.start) p) (eqb_refl i))
in_refers i (Memᴰ.tail {x = f} {xs = es} m) s = T_or_right (eqb f.start i) (refers i es) (in_refers i m s)

pub referred_in : (ns : List VersionNode) (i : ℕ) (ms : List ℕ) → T (referred ns i ms) → (m : ℕ) × (m among ms) × T (refers i (node_at ns m).in_edges)
unfolding referred
referred_in ns i [] t = absurd t
referred_in ns i (m ∷ ms) t = go (λ (k : T (referred ns i ms)). referred_in ns i ms k) (or_T (refers i (node_at ns m).in_edges) (referred ns i ms) t)
  where
    go : (T (referred ns i ms) → (m : ℕ) × (m among ms) × T (refers i (node_at ns m).in_edges)) → T (refers i (node_at ns m).in_edges) ⊎ T (referred ns i ms)
        → (q : ℕ) × (q among m ∷ ms) × T (refers i (node_at ns q).in_edges)
    go rec (inl t) = (m, Memᴰ.head refl, t)
    go rec (inr t) = let r = rec t in (r.0, Memᴰ.tail r.1, r.2)

pub in_referred : (ns : List VersionNode) (i : ℕ) {m : ℕ} {ms : List ℕ} → m among ms → T (refers i (node_at ns m).in_edges) → T (referred ns i ms)
unfolding referred refers
in_referred ns i {m = m} (Memᴰ.head {x = q} {xs = ms} p) t =
    T_or_left (refers i (node_at ns q).in_edges) (referred ns i ms) (subst (λ (k : ℕ). T (refers i (node_at ns k).in_edges)) p t)
in_referred ns i (Memᴰ.tail {x = q} {xs = ms} k) t = T_or_right (refers i (node_at ns q).in_edges) (referred ns i ms) (in_referred ns i k t)

pub starts_in_in : (ms : List ℕ) (es : List InEdge) → T (starts_in ms es) → (e : InEdge) × (e among es) × (e.start among ms)
unfolding starts_in
starts_in_in ms [] t = absurd t
starts_in_in ms (e ∷ es) t = go (λ (k : T (starts_in ms es)). starts_in_in ms es k) (or_T (elem e.start ms) (starts_in ms es) t)
  where
    go : (T (starts_in ms es) → (e : InEdge) × (e among es) × (e.start among ms)) → T (elem e.start ms) ⊎ T (starts_in ms es) → (f : InEdge) × (f among e ∷ es) × (f.start among ms)
    go rec (inl t) = (e, Memᴰ.head refl, in_elem e.start ms t)
    go rec (inr t) = let r = rec t in (r.0, Memᴰ.tail r.1, r.2)

pub in_starts_in : (ms : List ℕ) {e : InEdge} {es : List InEdge} → e among es → e.start among ms → T (starts_in ms es)
unfolding starts_in
in_starts_in ms {e = e} (Memᴰ.head {x = f} {xs = es} p) k =
    T_or_left (elem f.start ms) (starts_in ms es) (subst (λ (g : InEdge). T (elem g.start ms)) p (elem_in e.start ms k))
in_starts_in ms (Memᴰ.tail {x = f} {xs = es} m) k = T_or_right (elem f.start ms) (starts_in ms es) (in_starts_in ms m k)

module _ (ns : List VersionNode) (down : Down ns) where
  -- ---- backward

  module _ (v : ℕ) where
    -- ms are the versions from i on that reach v
    record Above (i : ℕ) (ms : List ℕ) : Type 0 where
      rises : Up (λ (k : ℕ). k) ms
      sound : (m : ℕ) → m among ms → (i ≤ m) × CausalPath ns m v
      whole : (m : ℕ) → i ≤ m → CausalPath ns m v → m among ms

    above_step : (i : ℕ) (ms : List ℕ) → suc i ≤ v → Above (suc i) ms → Above i (cond (referred ns i ms) (i ∷ ms) ms)
    above_step i ms b a =
        by_test (referred ns i ms) (Above i)
        (λ t. let r = referred_in ns i ms t in
        let m = r.0 in
        let e = refers_in i (node_at ns m).in_edges r.2 in
        let p = (a.sound m r.1).1 in
        let q : CausalPath ns i v = step (record { edge = e.0; start_there = (let l = path_to p in omega arith); end_there = path-from p; listed = e.1; starts = e.2 }) p in
        record {
          rises = more (λ x k. (a.sound x k).0) a.rises;
          sound = λ x k. sound_cons q x (Memᴰ.cases_cons k);
          whole = λ x h p'. whole_cons x h p' (dec_lt i x);
        })
        (λ t.
        record {
          rises = a.rises;
          sound = λ x k. let s = a.sound x k in (let c = s.0 in omega arith, s.1);
          whole = λ x h p'. whole_same t x h p' (dec_lt i x);
        })
      where
        sound_cons : CausalPath ns i v → (x : ℕ) → (x ≡ i) ⊎ (x among ms) → (i ≤ x) × CausalPath ns x v
        sound_cons q x (inl e) = (omega arith, subst (λ (z : ℕ). CausalPath ns z v) (sym e) q)
        sound_cons q x (inr k) = let s = a.sound x k in (let c = s.0 in omega arith, s.1)

        whole_cons : (x : ℕ) → i ≤ x → CausalPath ns x v → Dec (i < x) → x among i ∷ ms
        whole_cons x h p (yes c) = Memᴰ.tail (a.whole x c p)
        whole_cons x h p (no c) = Memᴰ.head {x = i} (omega arith)

        first : T (not (referred ns i ms)) → {x : ℕ} → CausalPath ns x v → x ≡ i → ⊥
        first t (stay h) e = omega arith
        first t (step {j = k} d p) e =
            let u = edge-up ns down d in
            T_not (referred ns i ms) t (in_referred ns i (a.whole k (omega arith) p) (in_refers i d.listed (d.starts ∙ e)))

        whole_same : T (not (referred ns i ms)) → (x : ℕ) → i ≤ x → CausalPath ns x v → Dec (i < x) → x among ms
        whole_same t x h p (yes c) = a.whole x c p
        whole_same t x h p (no c) = absurd (first t p (omega arith))

    add_ancestors_exact : (i : ℕ) (ms : List ℕ) → i ≤ v → Above i ms → Exactly (λ (m : ℕ). CausalPath ns m v) (add_ancestors ns i ms)
    unfolding add_ancestors
    add_ancestors_exact zero ms b a = record { rising = up-rising a.rises; these = λ m. (λ k. (a.sound m k).1, λ p. a.whole m (omega arith) p) }
    add_ancestors_exact (suc i) ms b a = add_ancestors_exact i (cond (referred ns i ms) (i ∷ ms) ms) (omega arith) (above_step i ms b a)

    pub ancestors_exact : v < length ns → Exactly (λ (m : ℕ). CausalPath ns m v) (ancestors ns v)
    unfolding ancestors
    ancestors_exact h =
        add_ancestors_exact v (v ∷ []) (omega arith)
        (record {
          rises = more (λ x k. absurd (Memᴰ.not-nil k)) none;
          sound = λ m k. let e = Memᴰ.eq_of_singleton k in (omega arith, subst (λ (z : ℕ). CausalPath ns z v) (sym e) (stay h));
          whole = λ m b p. let c = path-up ns down p in Memᴰ.head {x = v} (omega arith);
        })

    -- ---- forward

    -- ms are the versions below i that v reaches
    record Below (i : ℕ) (ms : List ℕ) : Type 0 where
      rises : Up (λ (k : ℕ). k) ms
      sound : (m : ℕ) → m among ms → (m < i) × CausalPath ns v m
      whole : (m : ℕ) → m < i → CausalPath ns v m → m among ms

    below_step : (i : ℕ) (ms : List ℕ) → v < i → i < length ns → Below i ms → Below (suc i) (cond (starts_in ms (node_at ns i).in_edges) (ms ++ (i ∷ [])) ms)
    below_step i ms b h a =
        by_test (starts_in ms (node_at ns i).in_edges) (Below (suc i))
        (λ t. let r = starts_in_in ms (node_at ns i).in_edges t in
        let p = (a.sound r.0.start r.2).1 in
        let q : CausalPath ns v i = path_snoc p (record { edge = r.0; start_there = path_to p; end_there = h; listed = r.1; starts = refl }) in
        record {
          rises = up_snoc (λ (k : ℕ). k) i (λ m k. (a.sound m k).0) a.rises;
          sound = λ x k. sound_snoc q x (Memᴰ.append_cases ms k);
          whole = λ x c p'. whole_snoc x c p' (dec_lt x i);
        })
        (λ t.
        record {
          rises = a.rises;
          sound = λ x k. let s = a.sound x k in (let c = s.0 in omega arith, s.1);
          whole = λ x c p'. whole_same t x c p' (dec_lt x i);
        })
      where
        sound_snoc : CausalPath ns v i → (x : ℕ) → (x among ms) ⊎ (x among i ∷ []) → (x < suc i) × CausalPath ns v x
        sound_snoc q x (inl k) = let s = a.sound x k in (let c = s.0 in omega arith, s.1)
        sound_snoc q x (inr k) = let e = Memᴰ.eq_of_singleton k in (omega arith, subst (λ (z : ℕ). CausalPath ns v z) (sym e) q)

        whole_snoc : (x : ℕ) → x < suc i → CausalPath ns v x → Dec (x < i) → x among ms ++ (i ∷ [])
        whole_snoc x c p (yes d) = Memᴰ.append_left (i ∷ []) (a.whole x d p)
        whole_snoc x c p (no d) = Memᴰ.append_right ms (Memᴰ.head {x = i} (omega arith))

        last : T (not (starts_in ms (node_at ns i).in_edges)) → (v ≡ i) ⊎ ((k : ℕ) × CausalPath ns v k × Edge ns k i) → ⊥
        last t (inl e) = omega arith
        last t (inr r) =
            let d = r.2 in
            let u = edge-up ns down d in
            T_not (starts_in ms (node_at ns i).in_edges) t (in_starts_in ms d.listed (Memᴰ.cast d.starts (a.whole r.0 u r.1)))

        whole_same : T (not (starts_in ms (node_at ns i).in_edges)) → (x : ℕ) → x < suc i → CausalPath ns v x → Dec (x < i) → x among ms
        whole_same t x c p (yes d) = a.whole x d p
        whole_same t x c p (no d) = absurd (last t (unsnoc (subst (λ (z : ℕ). CausalPath ns v z) (omega arith) p)))

    add_descendants_exact : (rest done : List VersionNode) (ms : List ℕ) → ns ≡ done ++ rest → v < length done → Below (length done) ms
        → Exactly (λ (m : ℕ). CausalPath ns v m) (add_descendants (length done) ms rest)
    unfolding add_descendants
    add_descendants_exact [] done ms split b a =
        record { rising = up-rising a.rises; these = λ m. (λ k. (a.sound m k).1, λ p. a.whole m (let c = path_to p in omega (arith, ap length split, length-append done [])) p) }
    add_descendants_exact (n ∷ rest) done ms split b a =
        let len : length (done ++ (n ∷ [])) ≡ suc (length done) = length-append done (n ∷ []) ∙ omega arith in
        let here : node_at ns (length done) ≡ n = ap (λ (l : List VersionNode). node_at l (length done)) split ∙ get_or-append_seam done n rest no_version in
        let ms' = cond (starts_in ms n.in_edges) (ms ++ (length done ∷ [])) ms in
        subst (λ (k : ℕ). Exactly (λ (m : ℕ). CausalPath ns v m) (add_descendants k ms' rest)) len
        (add_descendants_exact rest (done ++ (n ∷ [])) ms' (split ∙ sym (append_assoc done (n ∷ []) rest)) (omega arith)
        (subst (λ (k : ℕ). Below k ms') (sym len)
        (subst (λ (z : VersionNode). Below (suc (length done)) (cond (starts_in ms z.in_edges) (ms ++ (length done ∷ [])) ms)) here
        (below_step (length done) ms b (omega (arith, ap length split, length-append done (n ∷ rest))) a))))

    pub descendants_exact : v < length ns → Exactly (λ (m : ℕ). CausalPath ns v m) (descendants ns v)
    unfolding descendants
    descendants_exact h =
        let len : length (take (suc v) ns) ≡ suc v = length-take-le (suc v) ns h in
        subst (λ (k : ℕ). Exactly (λ (m : ℕ). CausalPath ns v m) (add_descendants k (v ∷ []) (drop (suc v) ns))) len
        (add_descendants_exact (drop (suc v) ns) (take (suc v) ns) (v ∷ []) (sym (take-append-drop (suc v) ns)) (omega arith)
        (subst (λ (k : ℕ). Below k (v ∷ [])) (sym len)
        (record {
          rises = more (λ x k. absurd (Memᴰ.not-nil k)) none;
          sound = λ m k. let e = Memᴰ.eq_of_singleton k in (omega arith, subst (λ (z : ℕ). CausalPath ns v z) (sym e) (stay h));
          whole = λ m b p. let c = path-up ns down p in Memᴰ.head {x = v} (omega arith);
        })))

pub search_exact_down : (ns : List VersionNode) → Down ns → (way : Way) (v : ℕ) → v < length ns → Exactly (Reached ns v (trace_of way)) (trace_versions way ns v)
unfolding trace_versions
search_exact_down ns down backward v h = ancestors_exact ns down v h
search_exact_down ns down forward v h = descendants_exact ns down v h

pub search_exact : SearchExact
search_exact ns w way v h = search_exact_down ns w.starts_before way v h
