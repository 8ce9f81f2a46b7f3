-- The subgraph on a rising list of places: positions, and the edges that start inside. Assumes nothing.
use mathlib.Core.Path.{◌≡◌, refl, sym, ap, ◌∙◌, subst}
use mathlib.Core.Logic.{◌⊎◌, inl, inr}
use Prim.Native.Nat.{ℕ, zero, suc, ◌<◌, ◌≤◌}
use native.Mathlib.Nat.{not-suc-le-zero, le_of_suc-le-suc}
use native.Mathlib.Omega.{arith}
use mathlib.Core.Bool.{not}
use mathlib.Core.List.Memᴰ
use mathlib.Core.List.{List, [], ◌∷◌}
use lib.ListN.{length, get_or}
use lib.Dec.{T, ltb, lt→ltb, T_not}
use lib.Arith.{le→nltb}
use Rattle.model.specs.Numbers.{elem}
use Rattle.model.specs.Graph.{InEdge}
use Rattle.model.specs.Trace.{position_in, edges_inside}
use Rattle.model.proofs.Outcomes.{test, cond_T, cond_F}
use Rattle.model.proofs.Lists.{◌among◌, Up, none, more, up_head, up_tail, place_in}

position_none : (q : ℕ) (l : List ℕ) → ((x : ℕ) → x among l → q ≤ x) → position_in q l ≡ 0
unfolding position_in
position_none q [] h = refl
position_none q (m ∷ l) h =
    cond_F (ltb m q) (suc (position_in q l)) (position_in q l) (le→nltb m q (h m (Memᴰ.head refl))) ∙ position_none q l (λ x k. h x (Memᴰ.tail k))

pub position_place : (l : List ℕ) → Up (λ (n : ℕ). n) l → (i : ℕ) → i < length l → position_in (get_or l i 0) l ≡ i
unfolding position_in
position_place [] u i h = absurd (not-suc-le-zero h)
position_place (a ∷ l) (more f u) zero h =
    cond_F (ltb a a) (suc (position_in a l)) (position_in a l) (le→nltb a a (omega arith)) ∙ position_none a l (λ x k. let p = f x k in omega arith)
position_place (a ∷ l) (more f u) (suc i) h =
    let q = get_or l i 0 in
    let b : a < q = f q (place_in l i 0 (le_of_suc-le-suc h)) in
    cond_T (ltb a q) (suc (position_in q l)) (position_in q l) (lt→ltb a q b) ∙ ap suc (position_place l u i (le_of_suc-le-suc h))

-- what an edge becomes
abbrev pub moved : List ℕ → InEdge → InEdge
moved ms e = record { type = e.type; kind = e.kind; start = position_in e.start ms }

pub inside_in : (ms : List ℕ) (e : InEdge) (es : List InEdge) → T (elem e.start ms) → edges_inside ms (e ∷ es) ≡ moved ms e ∷ edges_inside ms es
unfolding edges_inside
inside_in ms e es t = cond_T (elem e.start ms) (moved ms e ∷ edges_inside ms es) (edges_inside ms es) t

pub inside_out : (ms : List ℕ) (e : InEdge) (es : List InEdge) → T (not (elem e.start ms)) → edges_inside ms (e ∷ es) ≡ edges_inside ms es
unfolding edges_inside
inside_out ms e es t = cond_F (elem e.start ms) (moved ms e ∷ edges_inside ms es) (edges_inside ms es) t

-- ---- the edges that start inside, as a set

pub inside_mem : (ms : List ℕ) (es : List InEdge) (f : InEdge) → f among es → T (elem f.start ms) → moved ms f among edges_inside ms es
inside_mem ms [] f m t = absurd (Memᴰ.not-nil m)
inside_mem ms (e ∷ es) f m t = go (λ (k : f among es). inside_mem ms es f k t) (Memᴰ.cases_cons m) (test (elem e.start ms))
  where
    go : (f among es → moved ms f among edges_inside ms es) → (f ≡ e) ⊎ (f among es) → T (elem e.start ms) ⊎ T (not (elem e.start ms)) → moved ms f among edges_inside ms (e ∷ es)
    go rec (inl p) (inl u) = subst (λ (l : List InEdge). moved ms f among l) (sym (inside_in ms e es u)) (Memᴰ.head (ap (moved ms) p))
    go rec (inl p) (inr u) = absurd (T_not (elem e.start ms) u (subst (λ (z : InEdge). T (elem z.start ms)) p t))
    go rec (inr k) (inl u) = subst (λ (l : List InEdge). moved ms f among l) (sym (inside_in ms e es u)) (Memᴰ.tail (rec k))
    go rec (inr k) (inr u) = subst (λ (l : List InEdge). moved ms f among l) (sym (inside_out ms e es u)) (rec k)

pub of-inside : (ms : List ℕ) (es : List InEdge) (y : InEdge) → y among edges_inside ms es → (f : InEdge) × (f among es) × T (elem f.start ms) × (y ≡ moved ms f)
unfolding edges_inside
of-inside ms [] y m = absurd (Memᴰ.not-nil m)
of-inside ms (e ∷ es) y m = go (λ (k : y among edges_inside ms es). of-inside ms es y k) (test (elem e.start ms))
  where
    Found : List InEdge → Type 0
    Found es = (f : InEdge) × (f among es) × T (elem f.start ms) × (y ≡ moved ms f)

    later : Found es → Found (e ∷ es)
    later r = (r.0, Memᴰ.tail r.1, r.2, r.3)

    first : (y among edges_inside ms es → Found es) → T (elem e.start ms) → (y ≡ moved ms e) ⊎ (y among edges_inside ms es) → Found (e ∷ es)
    first rec t (inl p) = (e, Memᴰ.head refl, t, p)
    first rec t (inr k) = later (rec k)

    go : (y among edges_inside ms es → Found es) → T (elem e.start ms) ⊎ T (not (elem e.start ms)) → Found (e ∷ es)
    go rec (inl t) = first rec t (Memᴰ.cases_cons (subst (λ (l : List InEdge). y among l) (inside_in ms e es t) m))
    go rec (inr t) = later (rec (subst (λ (l : List InEdge). y among l) (inside_out ms e es t) m))

pub inside-up : (ms : List ℕ) (es : List InEdge) → Up (λ (e : InEdge). e.type) es → Up (λ (e : InEdge). e.type) (edges_inside ms es)
unfolding edges_inside
inside-up ms [] u = none
inside-up ms (e ∷ es) u = go (inside-up ms es (up_tail (λ (e : InEdge). e.type) u)) (test (elem e.start ms))
  where
    go : Up (λ (e : InEdge). e.type) (edges_inside ms es) → T (elem e.start ms) ⊎ T (not (elem e.start ms)) → Up (λ (e : InEdge). e.type) (edges_inside ms (e ∷ es))
    go v (inl t) =
        subst (Up (λ (e : InEdge). e.type)) (sym (inside_in ms e es t))
        (more (λ y m. let r = of-inside ms es y m in subst (λ (k : ℕ). e.type < k) (sym (ap (λ (z : InEdge). z.type) r.3)) (up_head (λ (e : InEdge). e.type) u r.0 r.1)) v)
    go v (inr t) = subst (Up (λ (e : InEdge). e.type)) (sym (inside_out ms e es t)) v
