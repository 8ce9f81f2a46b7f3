-- The marked slots as a rising list. Assumes nothing.
use mathlib.Core.Path.{◌≡◌, refl, sym, ap, ap₂, ◌∙◌, subst}
use mathlib.Core.Logic.{◌⊎◌, inl, inr}
use mathlib.Core.Bool.{Bool, true, false, cond, not}
use mathlib.Core.List.Memᴰ
use mathlib.Core.List.{List, [], ◌∷◌, ◌++◌}
use Prim.Native.Nat.{ℕ, zero, suc, ◌<◌}
use native.Mathlib.Decide.{ℕ_discrete, dec_lt}
use native.Mathlib.Omega.{arith}
use borrow.Author.Tests.{eq-eqb, ne_eqb}
use lib.Dec.{T, eqb, T_not}
use Rattle.model.specs.Numbers.{Bytes, elem}
use Rattle.model.proofs.Outcomes.{by_test, T_eq}
use Rattle.model.proofs.Lists.{◌among◌, Up, none, up_ext, up_snoc, elem_in, in_elem}
use Rattle.graph.proofs.Slots.{kept_then}
use Rattle.marks.specs.Marks.{mark_column, is_marked, MarkSet, Unmarked}
use Rattle.trace_writer.specs.Marks.{members, OnlyMarked}

pub no_T : (b : Bool) → (T b → ⊥) → b ≡ false
no_T true f = absurd (f tt)
no_T false f = refl

-- ---- the found version's mark

pub only-marked : (work w1 w2 : Bytes) (n v : ℕ) → Unmarked work w1 n → MarkSet w1 w2 v true → OnlyMarked work w2 n v
only-marked work w1 w2 n v u m =
    record { kept = kept_then mark_column work w1 w2 u.kept m.kept; only = λ j h. go j h (ℕ_discrete j v) }
  where
    go : (j : ℕ) → j < n → Dec (j ≡ v) → is_marked w2 j ≡ eqb j v
    go j h (yes e) = ap (is_marked w2) e ∙ m.here ∙ sym (eq-eqb j v e)
    go j h (no d) = m.others j d ∙ u.none j h ∙ sym (ne_eqb j v d)

-- ---- the marked slots

pub members-same : (work work' : Bytes) (n : ℕ) → ((j : ℕ) → is_marked work' j ≡ is_marked work j) → members work' n ≡ members work n
unfolding members
members-same work work' zero h = refl
members-same work work' (suc n) h = ap₂ (λ (b : Bool) (l : List ℕ). cond b (l ++ (n ∷ [])) l) (h n) (members-same work work' n h)

module _ (work : Bytes) where
  pub members-below : (i x : ℕ) → x among members work i → x < i
  unfolding members
  members-below zero x m = absurd (Memᴰ.not-nil m)
  members-below (suc i) x m = go (is_marked work i) (λ (k : x among members work i). members-below i x k) m
    where
      last : (x among members work i → x < i) → (x among members work i) ⊎ (x among i ∷ []) → x < suc i
      last rec (inl k) = let r = rec k in omega arith
      last rec (inr k) = let e = Memᴰ.eq_of_singleton k in omega arith

      go : (b : Bool) → (x among members work i → x < i) → x among cond b (members work i ++ (i ∷ [])) (members work i) → x < suc i
      go true rec k = last rec (Memᴰ.append_cases (members work i) k)
      go false rec k = let r = rec k in omega arith

  members-marked : (i x : ℕ) → x among members work i → T (is_marked work x)
  unfolding members
  members-marked zero x m = absurd (Memᴰ.not-nil m)
  members-marked (suc i) x m =
      by_test (is_marked work i) (λ (l : List ℕ). x among l → T (is_marked work x))
      (λ t k. last (λ (q : x among members work i). members-marked i x q) t (Memᴰ.append_cases (members work i) k)) (λ t k. members-marked i x k) m
    where
      last : (x among members work i → T (is_marked work x)) → T (is_marked work i) → (x among members work i) ⊎ (x among i ∷ []) → T (is_marked work x)
      last rec t (inl k) = rec k
      last rec t (inr k) = subst (λ (z : ℕ). T (is_marked work z)) (sym (Memᴰ.eq_of_singleton k)) t

  members_in : (i x : ℕ) → x < i → T (is_marked work x) → x among members work i
  unfolding members
  members_in zero x h t = absurd (let z : ⊥ = omega arith in z)
  members_in (suc i) x h t =
      by_test (is_marked work i) (λ (l : List ℕ). x among l) (λ s. here (λ (k : x < i). members_in i x k t) (dec_lt x i))
      (λ s. there s (λ (k : x < i). members_in i x k t) (dec_lt x i))
    where
      here : (x < i → x among members work i) → Dec (x < i) → x among members work i ++ (i ∷ [])
      here rec (yes k) = Memᴰ.append_left (i ∷ []) (rec k)
      here rec (no k) = Memᴰ.append_right (members work i) (Memᴰ.head {x = i} (omega arith))

      there : T (not (is_marked work i)) → (x < i → x among members work i) → Dec (x < i) → x among members work i
      there s rec (yes k) = rec k
      there s rec (no k) = absurd (T_not (is_marked work i) s (subst (λ (z : ℕ). T (is_marked work z)) (let e : x ≡ i = omega arith in e) t))

  members-up : (i : ℕ) → Up (λ (k : ℕ). k) (members work i)
  unfolding members
  members-up zero = none
  members-up (suc i) =
      by_test (is_marked work i) (Up (λ (k : ℕ). k)) (λ t. up_snoc (λ (k : ℕ). k) i (λ x m. members-below i x m) (members-up i)) (λ t. members-up i)

  -- they are a rising list, if the marks say what is in it
  pub members-are : (n : ℕ) (ms : List ℕ) → Up (λ (k : ℕ). k) ms → ((x : ℕ) → x among ms → x < n) → ((j : ℕ) → j < n → is_marked work j ≡ elem j ms)
      → members work n ≡ ms
  members-are n ms up low h =
      up_ext (λ (k : ℕ). k) (members work n) ms (members-up n) up
      (λ x m. in_elem x ms (subst T (h x (members-below n x m)) (members-marked n x m)))
      (λ x m. members_in n x (low x m) (subst T (sym (h x (low x m))) (elem_in x ms m)))

  -- and back
  pub members-elem : (n j : ℕ) → j < n → is_marked work j ≡ elem j (members work n)
  members-elem n j h = go (is_marked work j) (λ t. elem_in j (members work n) (members_in n j h t)) (λ t. members-marked n j (in_elem j (members work n) t))
    where
      go : (b : Bool) → (T b → T (elem j (members work n))) → (T (elem j (members work n)) → T b) → b ≡ elem j (members work n)
      go true f g = sym (T_eq (elem j (members work n)) (f tt))
      go false f g = sym (no_T (elem j (members work n)) g)
