-- A column of the tables is what FIPS 180-4 has for one message. Assumes nothing.
use Rattle.std.proofs.Common.{◌≡◌, ℕ, zero, suc, ◌+◌, ◌*◌, ◌/◌, ◌<◌, ◌≤◌, List, [], ◌∷◌, ◌++◌, length, get_or, sym, refl, ap, ◌∙◌, ap₂, ⊎_elim, eq-or-lt_of_le, arith, length-append}
use lib.ListN.{get_or-append}
use lib.Seq.{get_or_at}
use Rattle.fields.specs.Fields.{decode, part, field}
use Rattle.fields.proofs.Places.{part-part}
use Rattle.round_constants.specs.Constants.{K}
use Rattle.sha256.specs.Sha256.{◌⊞◌, words, scheduled_word, extended, schedule, round, rounds, sums, compress}
use Rattle.lanes.specs.Lanes.{word_on, state_at, lane, Loaded, Spread, Begun, Turned, Added}
use Rattle.lanes.proofs.Places.{eight}

-- the first n words of message l
unfoldable column : ℕ → ℕ → List ℕ → List ℕ
column zero l w = []
column (suc n) l w = column n l w ++ (get_or w (8 * n + l) 0 ∷ [])

length_column : (n l : ℕ) (w : List ℕ) → length (column n l w) ≡ n
unfolding column
length_column zero l w = refl
length_column (suc n) l w = length-append (column n l w) (get_or w (8 * n + l) 0 ∷ []) ∙ omega (arith, length_column n l w)

get_or-column : (n l : ℕ) (w : List ℕ) (t : ℕ) → t < n → get_or (column n l w) t 0 ≡ get_or w (8 * t + l) 0
unfolding column
get_or-column zero l w t h = absurd (let z : ⊥ = omega arith in z)
get_or-column (suc n) l w t h =
    let x = get_or w (8 * n + l) 0 in
    ⊎_elim
    (λ (q : t ≡ n). get_or_at (column n l w) x [] 0 t (omega (arith, length_column n l w)) ∙ ap (λ (k : ℕ). get_or w (8 * k + l) 0) (sym q))
    (λ (q : t < n). get_or-append (column n l w) (x ∷ []) 0 t (omega (arith, length_column n l w)) ∙ get_or-column n l w t q)
    (eq-or-lt_of_le (let k : t ≤ n = omega arith in k))

-- the same place by another name
place : (w : List ℕ) (i j : ℕ) → i ≡ j → get_or w i 0 ≡ get_or w j 0
place w i j e = ap (λ (k : ℕ). get_or w k 0) e

column_word : (n l : ℕ) (w : List ℕ) (t i : ℕ) → t < n → 8 * t + l ≡ i → get_or (column n l w) t 0 ≡ get_or w i 0
column_word n l w t i h e = get_or-column n l w t h ∙ place w (8 * t + l) i e

-- ---- the schedule

module _ (l : ℕ) (small : l < 8) where
  column_words : {m : List ℕ} {at step : ℕ} {w : List ℕ} → Loaded m at step 128 w → (n : ℕ) → n ≤ 16 → column n l w ≡ words n (part m (at + step * l) 64)
  unfolding column words field
  column_words k zero h = refl
  column_words {m} {at} {step} {w} k (suc n) h =
      ap₂ (λ (p : List ℕ) (y : ℕ). p ++ (y ∷ [])) (column_words k n (omega arith))
      (k.same n l small (omega arith) ∙ ap decode (sym (part-part m (at + step * l) 64 (4 * n) 4 (omega arith))))

  column_front : {w₀ w : List ℕ} {k : ℕ} → Spread w₀ k w → (n : ℕ) → n ≤ 16 → column n l w ≡ column n l w₀
  unfolding column
  column_front s zero h = refl
  column_front s (suc n) h = ap₂ (λ (p : List ℕ) (y : ℕ). p ++ (y ∷ [])) (column_front s n (omega arith)) (s.front (8 * n + l) (omega arith))

  column_next : (w : List ℕ) (n t : ℕ) → t + 14 < n → word_on w (8 * t + l) ≡ scheduled_word (column n l w) t
  unfolding word_on scheduled_word
  column_next w n t h =
      sym
      (rw (
        column_word n l w (t + 14) (8 * t + l + 112) h (omega arith),
        column_word n l w (t + 9) (8 * t + l + 72) (omega arith) (omega arith),
        column_word n l w (t + 1) (8 * t + l + 8) (omega arith) (omega arith),
        get_or-column n l w t (omega arith),
      ))

  column_extended : {w₀ w : List ℕ} → Spread w₀ 384 w → (t : ℕ) → t ≤ 48 → column (t + 16) l w ≡ extended t (column 16 l w₀)
  unfolding column extended
  column_extended {w₀} {w} s zero h = column_front s 16 (omega arith)
  column_extended {w₀} {w} s (suc t) h =
      let e : suc t + 16 ≡ suc (t + 16) = omega arith in
      ap (λ (n : ℕ). column n l w) e
      ∙ ap₂ (λ (p : List ℕ) (y : ℕ). p ++ (y ∷ [])) (column_extended s t (omega arith))
      (place w (8 * (t + 16) + l) (8 * t + l + 128) (omega arith)
      ∙ s.rule (8 * t + l) (omega arith)
      ∙ column_next w (t + 16) t (omega arith)
      ∙ ap (λ (v : List ℕ). scheduled_word v t) (column_extended s t (omega arith)))

  column_schedule : {m : List ℕ} {at step : ℕ} {w₀ w : List ℕ} → Loaded m at step 128 w₀ → Spread w₀ 384 w
      → column 64 l w ≡ schedule (part m (at + step * l) 64)
  unfolding schedule
  column_schedule k s = column_extended s 48 (omega arith) ∙ ap (extended 48) (column_words k 16 (omega arith))

  -- ---- the rounds

  state_front : {k w a₀ e₀ a e : List ℕ} {n : ℕ} → Turned k w a₀ e₀ n a e → state_at a e l ≡ state_at a₀ e₀ l
  unfolding state_at
  state_front s =
      eight (s.front_a (l + 24) (omega arith)) (s.front_a (l + 16) (omega arith)) (s.front_a (l + 8) (omega arith)) (s.front_a l (omega arith))
      (s.front_e (l + 24) (omega arith)) (s.front_e (l + 16) (omega arith)) (s.front_e (l + 8) (omega arith)) (s.front_e l (omega arith))

  column_rounds : {k w a₀ e₀ a e : List ℕ} → Turned k w a₀ e₀ 512 a e → (t : ℕ) → t ≤ 64
      → state_at a e (8 * t + l) ≡ rounds t k (column 64 l w) (state_at a₀ e₀ l)
  unfolding rounds
  column_rounds {k} {w} {a₀} {e₀} {a} {e} s zero h = let z : 8 * 0 + l ≡ l = omega arith in ap (state_at a e) z ∙ state_front s
  column_rounds {k} {w} {a₀} {e₀} {a} {e} s (suc t) h =
      let z : 8 * suc t + l ≡ 8 * t + l + 8 = omega arith in
      let y : (8 * t + l) / 8 ≡ t = omega arith in
      ap (state_at a e) z
      ∙ s.rule (8 * t + l) (omega arith)
      ∙ ap₂ (λ (i x : ℕ). round (state_at a e (8 * t + l)) (get_or k i 0) x) y (sym (get_or-column 64 l w t (omega arith)))
      ∙ ap (λ (v : List ℕ). round v (get_or k t 0) (get_or (column 64 l w) t 0)) (column_rounds s t (omega arith))

  -- ---- the hash value

  lane_begun : {h a e : List ℕ} → Begun h 0 32 a → Begun h 32 32 e → state_at a e l ≡ lane h l
  unfolding state_at lane
  lane_begun {h} {a} {e} p q =
      let f : (i j : ℕ) → i < 32 → 0 + i ≡ j → get_or a i 0 ≡ get_or h j 0 = λ i j k z. p.same i k ∙ place h (0 + i) j z in
      let g : (i j : ℕ) → i < 32 → 32 + i ≡ j → get_or e i 0 ≡ get_or h j 0 = λ i j k z. q.same i k ∙ place h (32 + i) j z in
      eight (f (l + 24) (l + 24) (omega arith) (omega arith)) (f (l + 16) (l + 16) (omega arith) (omega arith)) (f (l + 8) (l + 8) (omega arith) (omega arith)) (f l l (omega arith) (omega arith))
      (g (l + 24) (l + 56) (omega arith) (omega arith)) (g (l + 16) (l + 48) (omega arith) (omega arith)) (g (l + 8) (l + 40) (omega arith) (omega arith)) (g l (l + 32) (omega arith) (omega arith))

  lane_added : {h a e r : List ℕ} → Added h a e 32 r → lane r l ≡ sums (lane h l) (state_at a e (8 * 64 + l))
  unfolding state_at lane sums
  lane_added {h} {a} {e} {r} s =
      let f : (i j : ℕ) → i < 32 → i + 512 ≡ j → get_or r i 0 ≡ get_or h i 0 ⊞ get_or a j 0 = λ i j k z. s.low i k ∙ ap (λ (x : ℕ). get_or h i 0 ⊞ x) (place a (i + 512) j z) in
      let g : (i n j : ℕ) → i < 32 → n ≡ i + 32 → i + 512 ≡ j → get_or r n 0 ≡ get_or h n 0 ⊞ get_or e j 0 =
      λ i n j k y z. place r n (i + 32) y ∙ s.high i k ∙ ap₂ (λ (x x' : ℕ). x ⊞ x') (place h (i + 32) n (sym y)) (place e (i + 512) j z) in
      eight
      (f (l + 24) (8 * 64 + l + 24) (omega arith) (omega arith))
      (f (l + 16) (8 * 64 + l + 16) (omega arith) (omega arith))
      (f (l + 8) (8 * 64 + l + 8) (omega arith) (omega arith))
      (f l (8 * 64 + l) (omega arith) (omega arith))
      (g (l + 24) (l + 56) (8 * 64 + l + 24) (omega arith) (omega arith) (omega arith))
      (g (l + 16) (l + 48) (8 * 64 + l + 16) (omega arith) (omega arith) (omega arith))
      (g (l + 8) (l + 40) (8 * 64 + l + 8) (omega arith) (omega arith) (omega arith))
      (g l (l + 32) (8 * 64 + l) (omega arith) (omega arith) (omega arith))

  pub lane_compressed : (h m : List ℕ) (at step : ℕ) (k w₀ w a₀ e₀ a e r : List ℕ) → k ≡ K → Loaded m at step 128 w₀ → Spread w₀ 384 w → Begun h 0 32 a₀ → Begun h 32 32 e₀
      → Turned k w a₀ e₀ 512 a e → Added h a e 32 r → lane r l ≡ compress (lane h l) (part m (at + step * l) 64)
  unfolding compress
  lane_compressed h m at step k w₀ w a₀ e₀ a e r z p q b b' t s =
      lane_added s
      ∙ ap (sums (lane h l)) (column_rounds t 64 (omega arith) ∙ ap (λ (x : List ℕ). rounds 64 x (column 64 l w) (state_at a₀ e₀ l)) z ∙ ap₂ (λ (x y : List ℕ). rounds 64 K x y) (column_schedule p q) (lane_begun b b'))
