-- Positions: the position of a slot is the number of marked slots before it. Assumes nothing.
use mathlib.Core.Path.{◌≡◌, refl, sym, ap, ap₂, ◌∙◌}
use mathlib.Core.Logic.{⊎_elim}
use mathlib.Core.Bool.{Bool, true, false, cond}
use mathlib.Core.List.Memᴰ
use mathlib.Core.List.{List, [], ◌∷◌, ◌++◌}
use Prim.Native.Nat.{ℕ, zero, suc, ◌+◌, ◌-◌, ◌*◌, ◌^◌, ◌≤◌, ◌<◌}
use native.Mathlib.Decide.{ℕ_discrete}
use native.Mathlib.Nat.{eq-or-lt_of_le}
use native.Mathlib.Numerals.{add-one}
use native.Mathlib.Omega.{arith}
use borrow.Author.Tests.{lt-ltb, le-ltb}
use lib.Dec.{ltb, lit≤}
use lib.ListN.{length, length-append}
use Rattle.fields.specs.Fields.{encode, field, written}
use Rattle.fields.proofs.Numbers.{length-encode}
use Rattle.fields.proofs.Places.{field-written}
use Rattle.model.specs.Numbers.{Bytes}
use Rattle.model.specs.Trace.{position_in}
use Rattle.model.proofs.Lists.{◌among◌}
use Rattle.graph.specs.Table.{absent, Kept}
use Rattle.graph.proofs.Slots.{kept-none, kept_then, kept-written, field_apart_slot}
use Rattle.marks.specs.Marks.{is_marked}
use Rattle.trace_writer.specs.Marks.{position_column, slot_position, members, PositionsDone, Positioned}
use Rattle.marks.proofs.Marking.{marked-kept}
use Rattle.trace_writer.proofs.Marking.{members-same, members-below}

pub count-one : (work : Bytes) (i : ℕ) (b : Bool) → b ≡ is_marked work i → b ≡ true → ◌≡◌ {A = ℕ} 1 (cond (is_marked work i) 1 0)
count-one work i b e t = ap {B = ℕ} (λ (x : Bool). cond x 1 0) (sym t ∙ e)

pub count_none : (work : Bytes) (i : ℕ) (b : Bool) → b ≡ is_marked work i → b ≡ false → ◌≡◌ {A = ℕ} 0 (cond (is_marked work i) 1 0)
count_none work i b e f = ap {B = ℕ} (λ (x : Bool). cond x 1 0) (sym f ∙ e)

pub slot_position-is : (work : Bytes) (i r : ℕ) → r ≡ field 4 work (128 * i + 124) → r ≡ slot_position work i
unfolding slot_position
slot_position-is work i r e = e

-- ---- how many are marked

one_at_most : (b : Bool) (c : ℕ) → c ≡ cond b 1 0 → c ≤ 1
one_at_most true c e = omega arith
one_at_most false c e = omega arith

module _ (work : Bytes) where
  count-more : (i : ℕ) → length (members work (suc i)) ≡ length (members work i) + cond (is_marked work i) 1 0
  unfolding members
  count-more i = go (is_marked work i)
    where
      go : (b : Bool) → length (cond b (members work i ++ (i ∷ [])) (members work i)) ≡ length (members work i) + cond b 1 0
      go true = length-append (members work i) (i ∷ [])
      go false = let z : length (members work i) ≡ length (members work i) + 0 = omega arith in z

  count-few : (i : ℕ) → length (members work i) ≤ i
  unfolding members
  count-few zero = lit≤ tt
  count-few (suc i) = let r = count-few i in let c = one_at_most (is_marked work i) _ refl in omega (arith, count-more i)

-- ---- the loop: the first i slots have their positions

pub record Positioning (w0 work : Bytes) (n position i : ℕ) : Type 0 where
  pub few : i ≤ n
  pub kept : Kept position_column w0 work
  pub count : position ≡ length (members w0 i)
  pub small : position ≤ i
  pub positions : (j : ℕ) → j < i → slot_position work j ≡ length (members w0 j)

pub positioning_none : (w0 : Bytes) (n : ℕ) → Positioning w0 w0 n 0 0
unfolding members
positioning_none w0 n =
    record { few = omega arith; kept = kept-none position_column w0; count = refl; small = omega arith; positions = λ j h. absurd (let z : ⊥ = omega arith in z) }

positioning_room : (w0 w : Bytes) (n position i : ℕ) → 128 * n ≤ length w0 → Positioning w0 w n position i → i < n → 128 * i + 128 ≤ length w
positioning_room w0 w n position i r t h = omega (arith, t.kept.size)

pub positioning_size : (w0 w : Bytes) (n position i : ℕ) → Positioning w0 w n position i → length w ≡ length w0
positioning_size w0 w n position i t = t.kept.size

few-absent : (n i : ℕ) → n ≤ absent → i ≤ n → i ≤ 65535
unfolding absent
few-absent n i h k = omega arith

module _ (w0 w w' : Bytes) (n position i c : ℕ) (room : 128 * n ≤ length w0) (small : n ≤ absent) (t : Positioning w0 w n position i) (h : i < n)
    (e : w' ≡ written w (128 * i + 124) (encode 4 position)) (more : c ≡ cond (is_marked w' i) 1 0) where
  here : 128 * i + 128 ≤ length w
  here = positioning_room w0 w n position i room t h

  kept' : Kept position_column w0 w'
  kept' =
      kept_then position_column w0 w w' t.kept
      (rw e (kept-written w i 124 (encode 4 position) 4 (length-encode 4 position) here (lit≤ tt) 124 128 (lit≤ tt) (lit≤ tt)))

  slot_position_put : slot_position w' i ≡ position
  unfolding slot_position
  slot_position_put = ap (λ (x : Bytes). field 4 x (128 * i + 124)) e ∙ field-written 4 w (128 * i + 124) position (omega arith) (let z = few-absent n i small (omega arith) in omega (arith, t.small))

  slot_position-other : (j : ℕ) → (j ≡ i → ⊥) → slot_position w' j ≡ slot_position w j
  unfolding slot_position
  slot_position-other j d =
      ap (λ (x : Bytes). field 4 x (128 * j + 124)) e
      ∙ field_apart_slot w i 124 (encode 4 position) 4 (length-encode 4 position) here (lit≤ tt) j 124 4 d (lit≤ tt)

  pub positioning_more : Positioning w0 w' n (position + c) (i + 1)
  positioning_more =
      let o = one_at_most (is_marked w' i) c more in
      record {
        few = omega arith;
        kept = kept';
        count =
            ap₂ (λ (x y : ℕ). x + y) t.count (more ∙ ap (λ (b : Bool). cond b 1 0) (marked-kept position_column w0 w' kept' tt i))
            ∙ sym (count-more w0 i) ∙ ap (λ (k : ℕ). length (members w0 k)) (sym (add-one i));
        small = omega (arith, t.small);
        positions = λ j k. go j k (ℕ_discrete j i);
      }
    where
      go : (j : ℕ) → j < i + 1 → Dec (j ≡ i) → slot_position w' j ≡ length (members w0 j)
      go j k (yes d) = ap (slot_position w') d ∙ slot_position_put ∙ t.count ∙ ap (λ (x : ℕ). length (members w0 x)) (sym d)
      go j k (no d) = slot_position-other j d ∙ t.positions j (omega arith)

pub position_fits : (w0 w w' : Bytes) (n position i c : ℕ) → n ≤ absent → Positioning w0 w n position i → i < n → c ≡ cond (is_marked w' i) 1 0 → position + c < 2 ^ 32
position_fits w0 w w' n position i c small t h e =
    let o = one_at_most (is_marked w' i) c e in let z = few-absent n i small (omega arith) in omega (arith, t.small)

pub positioning_all : (w0 w : Bytes) (n position i : ℕ) → n ≤ i → Positioning w0 w n position i → PositionsDone w0 w n
positioning_all w0 w n position i h t =
    record {
      kept = t.kept;
      positions = λ j k. t.positions j (omega arith) ∙ ap length (sym (members-same w0 w j (λ q. marked-kept position_column w0 w t.kept tt q)));
    }

-- ---- the number of all records

module _ (work : Bytes) (n : ℕ) (t : Positioned work n) (some : 0 < n) where
  pub all_counted : (r c : ℕ) → r ≡ slot_position work (n - 1) → c ≡ cond (is_marked work (n - 1)) 1 0 → r + c ≡ length (members work n)
  all_counted r c e f =
      ap₂ (λ (x y : ℕ). x + y) (e ∙ t.positions (n - 1) (omega arith)) f ∙ sym (count-more work (n - 1))
      ∙ ap (λ (k : ℕ). length (members work k)) (let z : suc (n - 1) ≡ n = omega arith in z)

  pub count_fits : (r c : ℕ) (b : Bool) → r ≡ slot_position work (n - 1) → c ≡ cond b 1 0 → r + c < 2 ^ 32
  count_fits r c b e f =
      let z = few-absent n n t.ready.few (omega arith) in
      let k = t.positions (n - 1) (omega arith) in
      omega (arith, one_at_most b c f, count-few work (n - 1))

-- ---- as the definition counts them

position_snoc : (q a : ℕ) (l : List ℕ) → position_in q (l ++ (a ∷ [])) ≡ position_in q l + cond (ltb a q) 1 0
unfolding position_in
position_snoc q a [] = go (ltb a q)
  where
    go : (b : Bool) → cond b 1 0 ≡ 0 + cond b 1 0
    go true = refl
    go false = refl
position_snoc q a (m ∷ l) = go (ltb m q) (position_snoc q a l)
  where
    go : (b : Bool) → position_in q (l ++ (a ∷ [])) ≡ position_in q l + cond (ltb a q) 1 0
        → cond b (suc (position_in q (l ++ (a ∷ [])))) (position_in q (l ++ (a ∷ []))) ≡ cond b (suc (position_in q l)) (position_in q l) + cond (ltb a q) 1 0
    go true h = let z : suc (position_in q (l ++ (a ∷ []))) ≡ suc (position_in q l) + cond (ltb a q) 1 0 = omega arith in z
    go false h = h

position_all : (q : ℕ) (l : List ℕ) → ((x : ℕ) → x among l → x < q) → position_in q l ≡ length l
unfolding position_in
position_all q [] h = refl
position_all q (m ∷ l) h =
    ap (λ (b : Bool). cond b (suc (position_in q l)) (position_in q l)) (lt-ltb m q (h m (Memᴰ.head refl))) ∙ ap suc (position_all q l (λ x k. h x (Memᴰ.tail k)))

pub position_members : (work : Bytes) (q n : ℕ) → q ≤ n → position_in q (members work n) ≡ length (members work q)
unfolding members position_in
position_members work q zero h = let e : q ≡ 0 = omega arith in rw e refl
position_members work q (suc n) h =
    ⊎_elim
    (λ (e : q ≡ suc n). ap (λ (x : ℕ). position_in x (members work (suc n))) e ∙ position_all (suc n) (members work (suc n)) (λ x k. members-below work (suc n) x k) ∙ ap (λ (x : ℕ). length (members work x)) (sym e))
    (λ (l : q < suc n). go l (is_marked work n) ∙ position_members work q n (omega arith)) (eq-or-lt_of_le h)
  where
    go : q < suc n → (b : Bool) → position_in q (cond b (members work n ++ (n ∷ [])) (members work n)) ≡ position_in q (members work n)
    go l true =
        position_snoc q n (members work n) ∙ ap (λ (b : Bool). position_in q (members work n) + cond b 1 0) (le-ltb n q (omega arith))
        ∙ let z : position_in q (members work n) + 0 ≡ position_in q (members work n) = omega arith in z
    go l false = refl
