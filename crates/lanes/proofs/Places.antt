-- What the loops over places keep. Assumes nothing.
use Rattle.std.proofs.Common.{◌≡◌, ℕ, ◌+◌, ◌*◌, ◌/◌, ◌<◌, ◌≤◌, List, [], ◌∷◌, length, get_or, set, sym, refl, ap, ◌∙◌, ap₂, ⊎_elim, eq-or-lt_of_le, mul-le-mul_left, arith, length-set, get_or-set_other, get_or-set_same, below_more}
use Rattle.fields.specs.Fields.{field}
use Rattle.sha256.specs.Sha256.{◌⊞◌, round}
use Rattle.lanes.specs.Lanes.{word_on, state_at, Loaded, Spread, Turned, Added}

-- ---- a store, seen from a place

pub before : (w : List ℕ) (n j x : ℕ) → j < n → get_or (set w n x) j 0 ≡ get_or w j 0
before w n j x h = get_or-set_other w n j x 0 (λ (e : j ≡ n). let z : ⊥ = omega arith in z)

-- the same place by another name
moved : (w : List ℕ) (n j i x : ℕ) → j ≡ i → i < n → get_or (set w n x) j 0 ≡ get_or w i 0
moved w n j i x e h = ap (λ (k : ℕ). get_or (set w n x) k 0) e ∙ before w n i x h

stored : (w : List ℕ) (n j x : ℕ) → j ≡ n → n < length w → get_or (set w n x) j 0 ≡ x
stored w n j x e h = ap (λ (k : ℕ). get_or (set w n x) k 0) e ∙ get_or-set_same w n x 0 h

pub eight : {p q r s t u v w p' q' r' s' t' u' v' w' : ℕ} → p ≡ p' → q ≡ q' → r ≡ r' → s ≡ s' → t ≡ t' → u ≡ u' → v ≡ v' → w ≡ w'
    → ◌≡◌ {A = List ℕ} (p ∷ q ∷ r ∷ s ∷ t ∷ u ∷ v ∷ w ∷ []) (p' ∷ q' ∷ r' ∷ s' ∷ t' ∷ u' ∷ v' ∷ w' ∷ [])
eight a b c d e f g h = cc

-- ---- the words of the blocks

pub loaded_none : (m : List ℕ) (at step : ℕ) (w : List ℕ) → length w ≡ 512 → Loaded m at step 0 w
loaded_none m at step w e = record { size = e; same = λ t l h k. absurd (let z : ⊥ = omega arith in z) }

pub loaded_more : (m : List ℕ) (at step : ℕ) (w : List ℕ) (t l x : ℕ) → t < 16 → l < 8 → x ≡ field 4 m (at + step * l + 4 * t)
    → Loaded m at step (8 * t + l) w → Loaded m at step (8 * t + (l + 1)) (set w (8 * t + l) x)
loaded_more m at step w t l x p q e k =
    record {
      size = length-set w (8 * t + l) x ∙ k.size;
      same = λ t' l' h i.
          ⊎_elim
          (λ (z : 8 * t' + l' ≡ 8 * t + l).
          let y : t' ≡ t = omega arith in
          let y' : l' ≡ l = omega arith in
          stored w (8 * t + l) (8 * t' + l') x z (omega (arith, k.size)) ∙ e ∙ sym (ap₂ (λ (a b : ℕ). field 4 m (at + step * a + 4 * b)) y' y))
          (λ (z : 8 * t' + l' < 8 * t + l). before w (8 * t + l) (8 * t' + l') x z ∙ k.same t' l' h z)
          (eq-or-lt_of_le (let y : 8 * t' + l' ≤ 8 * t + l = omega arith in y));
    }

-- ---- the schedule

word_kept : (w : List ℕ) (j n x : ℕ) → j + 112 < n → word_on (set w n x) j ≡ word_on w j
unfolding word_on
word_kept w j n x h =
    rw (before w n (j + 112) x h, before w n (j + 72) x (omega arith), before w n (j + 8) x (omega arith), before w n j x (omega arith))

pub spread_none : (w : List ℕ) → length w ≡ 512 → Spread w 0 w
spread_none w e = record { few = omega arith; size = e; front = λ i h. refl; rule = λ i h. absurd (let z : ⊥ = omega arith in z) }

pub spread_more : (w₀ w : List ℕ) (i x : ℕ) → i < 384 → x ≡ word_on w i → Spread w₀ i w → Spread w₀ (i + 1) (set w (i + 128) x)
spread_more w₀ w i x h e s =
    record {
      few = omega arith;
      size = length-set w (i + 128) x ∙ s.size;
      front = λ j l. before w (i + 128) j x (omega arith) ∙ s.front j l;
      rule =
          below_more (λ (j : ℕ). get_or (set w (i + 128) x) (j + 128) 0 ≡ word_on (set w (i + 128) x) j) i
          (λ (j : ℕ) (l : j < i). before w (i + 128) (j + 128) x (omega arith) ∙ s.rule j l ∙ sym (word_kept w j (i + 128) x (omega arith)))
          (get_or-set_same w (i + 128) x 0 (omega (arith, s.size)) ∙ e ∙ sym (word_kept w i (i + 128) x (omega arith)));
    }

-- ---- the rounds

state_kept : (a e : List ℕ) (i n x y : ℕ) → i + 24 < n → state_at (set a n x) (set e n y) i ≡ state_at a e i
unfolding state_at
state_kept a e i n x y h =
    eight (before a n (i + 24) x h) (before a n (i + 16) x (omega arith)) (before a n (i + 8) x (omega arith)) (before a n i x (omega arith))
    (before e n (i + 24) y h) (before e n (i + 16) y (omega arith)) (before e n (i + 8) y (omega arith)) (before e n i y (omega arith))

state_next : (a e : List ℕ) (i x y : ℕ) → i + 32 < length a → i + 32 < length e
    → state_at (set a (i + 32) x) (set e (i + 32) y) (i + 8)
    ≡ (x ∷ get_or a (i + 24) 0 ∷ get_or a (i + 16) 0 ∷ get_or a (i + 8) 0 ∷ y ∷ get_or e (i + 24) 0 ∷ get_or e (i + 16) 0 ∷ get_or e (i + 8) 0 ∷ [])
unfolding state_at
state_next a e i x y p q =
    eight
    (stored a (i + 32) (i + 8 + 24) x (omega arith) p)
    (moved a (i + 32) (i + 8 + 16) (i + 24) x (omega arith) (omega arith))
    (moved a (i + 32) (i + 8 + 8) (i + 16) x (omega arith) (omega arith))
    (before a (i + 32) (i + 8) x (omega arith))
    (stored e (i + 32) (i + 8 + 24) y (omega arith) q)
    (moved e (i + 32) (i + 8 + 16) (i + 24) y (omega arith) (omega arith))
    (moved e (i + 32) (i + 8 + 8) (i + 16) y (omega arith) (omega arith))
    (before e (i + 32) (i + 8) y (omega arith))

state_round : (a e r : List ℕ) (i k w : ℕ) → r ≡ round (state_at a e i) k w
    → ◌≡◌ {A = List ℕ} (get_or r 0 0 ∷ get_or a (i + 24) 0 ∷ get_or a (i + 16) 0 ∷ get_or a (i + 8) 0 ∷ get_or r 4 0 ∷ get_or e (i + 24) 0 ∷ get_or e (i + 16) 0 ∷ get_or e (i + 8) 0 ∷ [])
    (round (state_at a e i) k w)
unfolding state_at round
state_round a e r i k w h = eight (ap (λ (z : List ℕ). get_or z 0 0) h) refl refl refl (ap (λ (z : List ℕ). get_or z 4 0) h) refl refl refl

pub turned_more : (k w a₀ e₀ a e v r : List ℕ) (i : ℕ) → i < 512 → v ≡ state_at a e i → r ≡ round v (get_or k (i / 8) 0) (get_or w i 0)
    → Turned k w a₀ e₀ i a e → Turned k w a₀ e₀ (i + 1) (set a (i + 32) (get_or r 0 0)) (set e (i + 32) (get_or r 4 0))
turned_more k w a₀ e₀ a e v r i h f g s =
    let x = get_or r 0 0 in
    let y = get_or r 4 0 in
    record {
      few = omega arith;
      size_a = length-set a (i + 32) x ∙ s.size_a;
      size_e = length-set e (i + 32) y ∙ s.size_e;
      front_a = λ j l. before a (i + 32) j x (omega arith) ∙ s.front_a j l;
      front_e = λ j l. before e (i + 32) j y (omega arith) ∙ s.front_e j l;
      rule =
          below_more (λ (j : ℕ). state_at (set a (i + 32) x) (set e (i + 32) y) (j + 8) ≡ round (state_at (set a (i + 32) x) (set e (i + 32) y) j) (get_or k (j / 8) 0) (get_or w j 0)) i
          (λ (j : ℕ) (l : j < i).
          state_kept a e (j + 8) (i + 32) x y (omega arith)
          ∙ s.rule j l
          ∙ sym (ap (λ (z : List ℕ). round z (get_or k (j / 8) 0) (get_or w j 0)) (state_kept a e j (i + 32) x y (omega arith))))
          (state_next a e i x y (omega (arith, s.size_a)) (omega (arith, s.size_e))
          ∙ state_round a e r i (get_or k (i / 8) 0) (get_or w i 0) (g ∙ ap (λ (z : List ℕ). round z (get_or k (i / 8) 0) (get_or w i 0)) f)
          ∙ sym (ap (λ (z : List ℕ). round z (get_or k (i / 8) 0) (get_or w i 0)) (state_kept a e i (i + 32) x y (omega arith))));
    }

-- ---- the beginning and the sums

pub added_none : (h a e r : List ℕ) → length r ≡ 64 → Added h a e 0 r
added_none h a e r l =
    record {
      few = omega arith;
      size = l;
      low = λ i k. absurd (let z : ⊥ = omega arith in z);
      high = λ i k. absurd (let z : ⊥ = omega arith in z);
    }

pub added_more : (h a e r : List ℕ) (i x y : ℕ) → i < 32 → x ≡ get_or h i 0 ⊞ get_or a (i + 512) 0 → y ≡ get_or h (i + 32) 0 ⊞ get_or e (i + 512) 0
    → Added h a e i r → Added h a e (i + 1) (set (set r i x) (i + 32) y)
added_more h a e r i x y l p q s =
    let r' = set r i x in
    let n : length r' ≡ 64 = length-set r i x ∙ s.size in
    record {
      few = omega arith;
      size = length-set r' (i + 32) y ∙ n;
      low =
          below_more (λ (j : ℕ). get_or (set r' (i + 32) y) j 0 ≡ get_or h j 0 ⊞ get_or a (j + 512) 0) i
          (λ (j : ℕ) (k : j < i). before r' (i + 32) j y (omega arith) ∙ before r i j x k ∙ s.low j k)
          (before r' (i + 32) i y (omega arith) ∙ get_or-set_same r i x 0 (omega (arith, s.size)) ∙ p);
      high =
          below_more (λ (j : ℕ). get_or (set r' (i + 32) y) (j + 32) 0 ≡ get_or h (j + 32) 0 ⊞ get_or e (j + 512) 0) i
          (λ (j : ℕ) (k : j < i).
          before r' (i + 32) (j + 32) y (omega arith)
          ∙ get_or-set_other r i (j + 32) x 0 (λ (z : j + 32 ≡ i). let f : ⊥ = omega arith in f)
          ∙ s.high j k)
          (get_or-set_same r' (i + 32) y 0 (omega arith) ∙ q);
    }

pub added_all : {h a e r : List ℕ} {n : ℕ} → 32 ≤ n → Added h a e n r → Added h a e 32 r
added_all {h} {a} {e} {r} {n} l s = let q : n ≡ 32 = omega (arith, s.few) in rw q at s

-- ---- where the blocks stand

pub row_fits : (at step l w n : ℕ) → l < 8 → at + step * 7 + w ≤ n → at + step * l + w ≤ n
row_fits at step l w n h k = omega (arith, mul-le-mul_left {m = l} {n = 7} step (let z : l ≤ 7 = omega arith in z))

pub message_fits : (step l n size : ℕ) → l < 8 → step * 7 + n ≤ size → step * l + n ≤ size
message_fits step l n size h k = omega (arith, row_fits 0 step l n size h (let z : 0 + step * 7 + n ≤ size = omega arith in z))
