-- Numbers put into slots, and the slots of ranked versions. Assumes nothing.
use mathlib.Core.Path.{◌≡◌, refl, sym, ap, ap₂, ◌∙◌, subst}
use mathlib.Core.List.{List, [], ◌∷◌, ◌++◌}
use Prim.Native.Nat.{ℕ, zero, suc, ◌+◌, ◌*◌, ◌≤◌, ◌<◌}
use native.Mathlib.Nat.{add-zero, add-suc, suc-add}
use native.Mathlib.Omega.{arith}
use lib.ListN.{length}
use Rattle.fields.specs.Fields.{encode, field, written}
use Rattle.fields.proofs.Numbers.{length-encode}
use Rattle.fields.proofs.Places.{field-written}
use Rattle.model.specs.Numbers.{Bytes}
use Rattle.graph.specs.Table.{columns, Kept}
use Rattle.graph.proofs.Slots.{kept-written, field_apart_slot}
use Rattle.ranks.specs.Ranked.{slot_at, slots_in}

-- a number that was put into a column of slot i
module _ (work : Bytes) (column i x : ℕ) (room : 128 * i + 128 ≤ length work) (fits : column + 2 ≤ 128) (small : x ≤ 65535) (work' : Bytes) (is : work' ≡ written work (128 * i + column) (encode 2 x)) where
  pub put_kept : (a b : ℕ) → a ≤ column → column + 2 ≤ b → Kept (columns a b ∷ []) work work'
  put_kept a b h g = subst (Kept (columns a b ∷ []) work) (sym is) (kept-written work i column (encode 2 x) 2 (length-encode 2 x) room fits a b h g)

  pub put_here : field 2 work' (128 * i + column) ≡ x
  put_here = ap (λ (m : Bytes). field 2 m (128 * i + column)) is ∙ field-written 2 work (128 * i + column) x (omega arith) (omega arith)

  pub put_others : (j : ℕ) → (j ≡ i → ⊥) → field 2 work' (128 * j + column) ≡ field 2 work (128 * j + column)
  put_others j d = ap (λ (m : Bytes). field 2 m (128 * j + column)) is ∙ field_apart_slot work i column (encode 2 x) 2 (length-encode 2 x) room fits j column 2 d fits

pub slots_length : (m : Bytes) (i n : ℕ) → length (slots_in m i n) ≡ n
unfolding slots_in
slots_length m i zero = refl
slots_length m i (suc n) = ap suc (slots_length m (suc i) n)

pub slots_same : (m m' : Bytes) (i n : ℕ) → ((j : ℕ) → i ≤ j → j < i + n → slot_at m' j ≡ slot_at m j) → slots_in m' i n ≡ slots_in m i n
unfolding slots_in
slots_same m m' i zero h = refl
slots_same m m' i (suc n) h = ap₂ {C = List ℕ} (λ (k : ℕ) (ks : List ℕ). k ∷ ks) (h i (omega arith) (omega arith)) (slots_same m m' (suc i) n (λ j p q. h j (omega arith) (omega arith)))

pub slots_snoc : (m : Bytes) (i n : ℕ) → slots_in m i (suc n) ≡ slots_in m i n ++ (slot_at m (i + n) ∷ [])
unfolding slots_in
slots_snoc m i zero = ap (λ (j : ℕ). slot_at m j ∷ []) (sym (add-zero i))
slots_snoc m i (suc n) =
    ap (λ (ks : List ℕ). slot_at m i ∷ ks)
    (slots_snoc m (suc i) n ∙ ap (λ (j : ℕ). slots_in m (suc i) n ++ (slot_at m j ∷ [])) (suc-add i n ∙ sym (add-suc i n)))
