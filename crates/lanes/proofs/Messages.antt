-- Eight messages from their blocks to their digests. Assumes nothing.
use Rattle.std.proofs.Common.{◌≡◌, ℕ, zero, suc, ◌+◌, ◌-◌, ◌*◌, ◌/◌, ◌%◌, ◌^◌, ◌<◌, ◌≤◌, List, [], ◌∷◌, ◌++◌, length, get_or, take, drop, set, replicate, sym, refl, ap, ◌∙◌, ap₂, inl, inr, ⊎_elim, append_assoc, eq-or-lt_of_le, mul-le-mul_left, mul-add, arith, length-append, length-drop, length-set, take-append-drop, length-take-le, take_all, get_or-set_same, drop-drop, take_at, drop_at, below_more}
use lib.ListN.{length-replicate, replicate-append-replicate}
use lib.Seq.{take-append-add, take-append-le, drop-append-add, drop-append-le}
use Rattle.fields.specs.Fields.{encode, part, written}
use Rattle.fields.proofs.Numbers.{length-encode}
use Rattle.fields.proofs.Places.{length_part, part-part, part-all, part-front, length-written, part-written, take-written, part_apart, set-written}
use Rattle.round_constants.specs.Constants.{undivided, prime, primes_from, primes}
use Rattle.sha256.specs.Sha256.{H0, compress, hashed, bytes, sha256}
use Rattle.sha256.specs.State.{ending}
use Rattle.sha256.proofs.Size.{length-bytes, length-sha256}
use Rattle.sha256.proofs.Messages.{Passed, passed-more, passed-all, hashed-part}
use Rattle.sha256.proofs.Padding.{padded_shape, padded-length, digest_message}
use Rattle.sha256.proofs.Padding as padding
use Rattle.lanes.specs.Lanes.{lane, end_of, Padded, spelled, digests_of}
use Rattle.lanes.proofs.Places.{before, eight, row_fits, message_fits}

-- ---- the loop over blocks

pub record AllPassed (m : List ℕ) (at step n : ℕ) (h x : List ℕ) (j : ℕ) : Type 0 where
  pub few : j ≤ n
  pub each : (l : ℕ) → l < 8 → Passed m (at + step * l) n (lane h l) (lane x l) j

pub all_more : (m : List ℕ) (at step n : ℕ) (h x y : List ℕ) (j : ℕ) → j < n
    → ((l : ℕ) → l < 8 → lane y l ≡ compress (lane x l) (part m (at + 64 * j + step * l) 64)) → AllPassed m at step n h x j
    → AllPassed m at step n h y (j + 1)
all_more m at step n h x y j k e p =
    record {
      few = omega arith;
      each = λ l s.
          let z : at + 64 * j + step * l ≡ at + step * l + 64 * j = omega arith in
          passed-more m (at + step * l) n (lane h l) (lane x l) (lane y l) j k (e l s ∙ ap (λ (i : ℕ). compress (lane x l) (part m i 64)) z) (p.each l s);
    }

pub all-passed : (m : List ℕ) (at step n : ℕ) (h x : List ℕ) (j : ℕ) → n ≤ j → AllPassed m at step n h x j
    → (l : ℕ) → l < 8 → lane x l ≡ hashed n m (at + step * l) (lane h l)
all-passed m at step n h x j k p l s = passed-all m (at + step * l) n (lane h l) (lane x l) j k (p.each l s)

-- ---- the initial hash value

-- the first n places of r hold the hash value h, in every lane
pub record Filled (h : List ℕ) (n : ℕ) (r : List ℕ) : Type 0 where
  pub few : n ≤ 64
  pub size : length r ≡ 64
  pub same : (i : ℕ) → i < n → get_or r i 0 ≡ get_or h (4 * (i / 32) + (3 - i / 8 % 4)) 0

pub filled_none : (h r : List ℕ) → length r ≡ 64 → Filled h 0 r
filled_none h r e = record { few = omega arith; size = e; same = λ i l. absurd (let z : ⊥ = omega arith in z) }

pub filled_more : (h r : List ℕ) (i x : ℕ) → i < 64 → x ≡ get_or h (4 * (i / 32) + (3 - i / 8 % 4)) 0 → Filled h i r → Filled h (i + 1) (set r i x)
filled_more h r i x l e s =
    record {
      few = omega arith;
      size = length-set r i x ∙ s.size;
      same =
          below_more (λ (k : ℕ). get_or (set r i x) k 0 ≡ get_or h (4 * (k / 32) + (3 - k / 8 % 4)) 0) i
          (λ (k : ℕ) (m : k < i). before r i k x m ∙ s.same k m)
          (get_or-set_same r i x 0 (omega (arith, s.size)) ∙ e);
    }

initial_words : get_or H0 0 0 ∷ get_or H0 1 0 ∷ get_or H0 2 0 ∷ get_or H0 3 0 ∷ get_or H0 4 0 ∷ get_or H0 5 0 ∷ get_or H0 6 0 ∷ get_or H0 7 0 ∷ [] ≡ H0
unfolding undivided prime primes_from primes H0
initial_words = refl

pub initial_lanes : (h r : List ℕ) (n : ℕ) → h ≡ H0 → 64 ≤ n → Filled h n r → (l : ℕ) → l < 8 → lane r l ≡ H0
unfolding lane
initial_lanes h r n e m s l k =
    let f : (i j : ℕ) → i < 64 → 4 * (i / 32) + (3 - i / 8 % 4) ≡ j → get_or r i 0 ≡ get_or H0 j 0 =
    λ i j q z. s.same i (omega arith) ∙ ap₂ (λ (x : List ℕ) (y : ℕ). get_or x y 0) e z in
    eight (f (l + 24) 0 (omega arith) (omega arith)) (f (l + 16) 1 (omega arith) (omega arith)) (f (l + 8) 2 (omega arith) (omega arith)) (f l 3 (omega arith) (omega arith))
    (f (l + 56) 4 (omega arith) (omega arith)) (f (l + 48) 5 (omega arith) (omega arith)) (f (l + 40) 6 (omega arith) (omega arith)) (f (l + 32) 7 (omega arith) (omega arith))
    ∙ initial_words

-- ---- the ends

length-end : (p : List ℕ) (n bits : ℕ) → length p ≡ n → n < 64 → length (end_of p n bits) ≡ 128
unfolding end_of
length-end p n bits e h = padded-length p n bits e h

abbrev blank : ℕ → List ℕ
blank n = replicate n 0

length_blank : (n : ℕ) → length (blank n) ≡ n
length_blank n = length-replicate n 0

-- laws of `written` and `part`
part-replicate : (n at w x : ℕ) → at + w ≤ n → part (replicate n x) at w ≡ replicate w x
unfolding part
part-replicate n at w x h =
    let r = n - (at + w) in
    let e : n ≡ at + (w + r) = omega arith in
    let f : replicate n x ≡ replicate at x ++ (replicate w x ++ replicate r x) =
    ap (λ (k : ℕ). replicate k x) e ∙ sym (replicate-append-replicate at (w + r) x) ∙ ap (λ (t : List ℕ). replicate at x ++ t) (sym (replicate-append-replicate w r x)) in
    ap (λ (t : List ℕ). take w (drop at t)) f
    ∙ ap (take w) (drop_at (replicate at x) (replicate w x ++ replicate r x) at (length-replicate at x))
    ∙ take_at (replicate w x) (replicate r x) w (length-replicate w x)

written_same : (b : List ℕ) (at w : ℕ) → at + w ≤ length b → written b at (part b at w) ≡ b
unfolding written part
written_same b at w h =
    let n : length (take w (drop at b)) ≡ w = length-take-le w (drop at b) (omega (arith, length-drop at b)) in
    ap (λ (t : List ℕ). take at b ++ (take w (drop at b) ++ t)) (ap (λ (k : ℕ). drop (at + k) b) n ∙ sym (drop-drop w at b))
    ∙ ap (λ (t : List ℕ). take at b ++ t) (take-append-drop w (drop at b))
    ∙ take-append-drop at b

-- what is written within what was written
written-within : (b : List ℕ) (at : ℕ) (x : List ℕ) (i : ℕ) (vs : List ℕ) → at + length x ≤ length b → i + length vs ≤ length x
    → written (written b at x) (at + i) vs ≡ written b at (written x i vs)
unfolding written
written-within b at x i vs h k =
    let a = take at b in
    let d = drop (at + length x) b in
    let m = i + length vs in
    let n : length a ≡ at = length-take-le at b (omega arith) in
    let front : take (at + i) (a ++ (x ++ d)) ≡ a ++ take i x =
    ap (λ (j : ℕ). take (j + i) (a ++ (x ++ d))) (sym n) ∙ take-append-add a (x ++ d) i ∙ ap (λ (t : List ℕ). a ++ t) (take-append-le i x d (omega arith)) in
    let z : at + i + length vs ≡ length a + m = omega arith in
    let back : drop (at + i + length vs) (a ++ (x ++ d)) ≡ drop m x ++ d =
    ap (λ (j : ℕ). drop j (a ++ (x ++ d))) z ∙ drop-append-add a (x ++ d) m ∙ drop-append-le m x d k in
    let size : length x ≡ length (take i x ++ (vs ++ drop m x)) = sym (length-written x i vs k) in
    let d' = drop (at + length (take i x ++ (vs ++ drop m x))) b in
    ap₂ (λ (s t : List ℕ). s ++ (vs ++ t)) front back
    ∙ append_assoc a (take i x) (vs ++ (drop m x ++ d))
    ∙ ap (λ (j : ℕ). a ++ (take i x ++ (vs ++ (drop m x ++ drop (at + j) b)))) size
    ∙ ap (λ (t : List ℕ). a ++ t)
    (sym (append_assoc (take i x) (vs ++ drop m x) d' ∙ ap (λ (t : List ℕ). take i x ++ t) (append_assoc vs (drop m x) d')))

pub pad_written : (b b₁ b₂ p : List ℕ) (at n bits : ℕ) → at + 128 ≤ length b → part b at 128 ≡ replicate 128 0 → length p ≡ n → n < 64
    → b₁ ≡ written b at p → b₂ ≡ written b₁ (at + (64 * ((n + 72) / 64) - 8)) (encode 8 bits)
    → set b₂ (at + n) 0x80 ≡ written b at (end_of p n bits)
unfolding end_of
pad_written b b₁ b₂ p at n bits h z e k f g =
    let last = 64 * ((n + 72) / 64) in
    let o = blank 128 in
    let x = encode 8 bits in
    let sx : length x ≡ 8 = length-encode 8 bits in
    let so : length o ≡ 128 = length_blank 128 in
    let s₁ : length (written o 0 p) ≡ 128 = length-written o 0 p (omega arith) ∙ so in
    let s₂ : length (written (written o 0 p) (last - 8) x) ≡ 128 = length-written (written o 0 p) (last - 8) x (omega arith) ∙ s₁ in
    let y : at ≡ at + 0 = omega arith in
    let q₁ : b₁ ≡ written b at (written o 0 p) =
    f ∙ ap₂ (λ (t : List ℕ) (i : ℕ). written t i p) (sym (written_same b at 128 h) ∙ ap (written b at) z) y ∙ written-within b at o 0 p (omega arith) (omega arith) in
    let q₂ : b₂ ≡ written b at (written (written o 0 p) (last - 8) x) =
    g ∙ ap (λ (t : List ℕ). written t (at + (last - 8)) x) q₁ ∙ written-within b at (written o 0 p) (last - 8) x (omega arith) (omega arith) in
    ap (λ (t : List ℕ). set t (at + n) 0x80) q₂
    ∙ set-written (written b at (written (written o 0 p) (last - 8) x)) (at + n) 0x80 (omega (arith, length-written b at (written (written o 0 p) (last - 8) x) (omega arith)))
    ∙ written-within b at (written (written o 0 p) (last - 8) x) n (0x80 ∷ []) (omega arith) (omega arith)
    ∙ ap (written b at) (sym (set-written (written (written o 0 p) (last - 8) x) n 0x80 (omega arith)) ∙ padded_shape p n bits e k)

pub padded-none : (m : List ℕ) (at step n bits : ℕ) (b : List ℕ) → b ≡ replicate 1024 0 → Padded m at step n bits 0 b
padded-none m at step n bits b e =
    record {
      few = omega arith;
      size = ap length e ∙ length_blank 1024;
      each = λ l k. absurd (let z : ⊥ = omega arith in z);
      rest = λ l k h. ap (λ (x : List ℕ). part x (128 * l) 128) e ∙ part-replicate 1024 (128 * l) 128 0 (omega arith);
    }

pub padded-more : (m : List ℕ) (at step n bits k : ℕ) (b b' : List ℕ) → k < 8 → n < 64 → at + step * k + n ≤ length m
    → b' ≡ written b (128 * k) (end_of (part m (at + step * k) n) n bits) → Padded m at step n bits k b → Padded m at step n bits (k + 1) b'
padded-more m at step n bits k b b' h i j e p =
    let x = end_of (part m (at + step * k) n) n bits in
    let size : length x ≡ 128 = length-end (part m (at + step * k) n) n bits (length_part m (at + step * k) n j) i in
    rw e
    (record {
      few = omega arith;
      size = length-written b (128 * k) x (omega (arith, p.size)) ∙ p.size;
      each =
          below_more (λ (l : ℕ). part (written b (128 * k) x) (128 * l) 128 ≡ end_of (part m (at + step * l) n) n bits) k
          (λ (l : ℕ) (z : l < k). part_apart b (128 * k) x (128 * l) 128 (omega (arith, p.size)) (inl (let y : 128 * l + 128 ≤ 128 * k = omega arith in y)) ∙ p.each l z)
          (ap (part (written b (128 * k) x) (128 * k)) (sym size) ∙ part-written b (128 * k) x (omega (arith, p.size)));
      rest = λ l y z.
          part_apart b (128 * k) x (128 * l) 128 (omega (arith, p.size)) (inr (let u : 128 * k + length x ≤ 128 * l = omega arith in u))
          ∙ p.rest l (omega arith) z;
    })

-- blocks at a place of a list are those of any part there that holds them
hashed-within : (n : ℕ) (s : List ℕ) (at w : ℕ) (h : List ℕ) → 64 * n ≤ w → at + w ≤ length s → hashed n s at h ≡ hashed n (part s at w) 0 h
hashed-within n s at w h k l =
    let z : at + 0 ≡ at = omega arith in
    hashed-part n s at h (omega arith)
    ∙ ap (λ (x : List ℕ). hashed n x 0 h) (ap (λ (i : ℕ). part s i (64 * n)) (sym z) ∙ sym (part-part s at w 0 (64 * n) (omega arith)))
    ∙ sym (hashed-part n (part s at w) 0 h (omega (arith, length_part s at w l)))

pub all-ended : (m b : List ℕ) (at step n bits : ℕ) (h r : List ℕ) → n < 64 → at + step * 7 + n ≤ length m → Padded m at step n bits 8 b
    → ((l : ℕ) → l < 8 → lane r l ≡ hashed ((n + 72) / 64) b (0 + 128 * l) (lane h l))
    → (l : ℕ) → l < 8 → lane r l ≡ hashed ((n + 72) / 64) (ending (part m (at + step * l) n) bits) 0 (lane h l)
unfolding end_of
all-ended m b at step n bits h r i j p e l s =
    let k = (n + 72) / 64 in
    let z : 0 + 128 * l ≡ 128 * l = omega arith in
    let q = part m (at + step * l) n in
    e l s
    ∙ ap (λ (x : ℕ). hashed k b x (lane h l)) z
    ∙ hashed-within k b (128 * l) 128 (lane h l) (omega arith) (omega (arith, p.size))
    ∙ padding.ended q (replicate (128 - 64 * k) 0) (lane h l) (part b (128 * l) 128) n bits (length_part m (at + step * l) n (row_fits at step l n (length m) s j)) i (p.each l s)

-- ---- the digests

pub all-digests : (m : List ℕ) (step n bits : ℕ) (h₀ h r : List ℕ) → step * 7 + n ≤ length m → bits ≡ 8 * n % 2 ^ 64
    → ((l : ℕ) → l < 8 → lane h₀ l ≡ H0)
    → ((l : ℕ) → l < 8 → lane h l ≡ hashed (n / 64) m (0 + step * l) (lane h₀ l))
    → ((l : ℕ) → l < 8 → lane r l ≡ hashed ((n % 64 + 72) / 64) (ending (part m (n - n % 64 + step * l) (n % 64)) bits) 0 (lane h l))
    → (l : ℕ) → l < 8 → bytes (lane r l) ≡ sha256 (part m (step * l) n)
all-digests m step n bits h₀ h r j e f g k l s =
    let p = step * l in
    let x = part m p n in
    let fit : p + n ≤ length m = message_fits step l n (length m) s j in
    let size : n ≡ length x = sym (length_part m p n fit) in
    let y : 0 + step * l ≡ p = omega arith in
    let z : n - n % 64 + step * l ≡ p + (n - n % 64) = omega arith in
    ap bytes (k l s)
    ∙ ap (λ (y : List ℕ). bytes (hashed ((n % 64 + 72) / 64) (ending y bits) 0 (lane h l)))
    (ap (λ (i : ℕ). part m i (n % 64)) z ∙ sym (part-part m p n (n - n % 64) (n % 64) (omega arith)))
    ∙ ap (λ (i : ℕ). bytes (hashed ((i % 64 + 72) / 64) (ending (part x (i - i % 64) (i % 64)) bits) 0 (lane h l))) size
    ∙ digest_message x (lane h l) (lane h₀ l) bits (f l s)
    (g l s
    ∙ ap (λ (i : ℕ). hashed (n / 64) m i (lane h₀ l)) y
    ∙ hashed-within (n / 64) m p n (lane h₀ l) (omega arith) fit
    ∙ ap (λ (i : ℕ). hashed (i / 64) x 0 (lane h₀ l)) size)
    (e ∙ ap (λ (i : ℕ). 8 * i % 2 ^ 64) size)

spelled-digests : (m : List ℕ) (step n : ℕ) (r : List ℕ) → ((l : ℕ) → l < 8 → bytes (lane r l) ≡ sha256 (part m (step * l) n))
    → (k : ℕ) → k ≤ 8 → spelled k r ≡ digests_of k m step n
unfolding spelled digests_of
spelled-digests m step n r e zero h = refl
spelled-digests m step n r e (suc k) h = ap₂ (λ (x y : List ℕ). x ++ y) (spelled-digests m step n r e k (omega arith)) (e k (omega arith))

pub digests-are : (m : List ℕ) (step n bits : ℕ) (h₀ h r d : List ℕ) → step * 7 + n ≤ length m → bits ≡ 8 * n % 2 ^ 64
    → ((l : ℕ) → l < 8 → lane h₀ l ≡ H0)
    → ((l : ℕ) → l < 8 → lane h l ≡ hashed (n / 64) m (0 + step * l) (lane h₀ l))
    → ((l : ℕ) → l < 8 → lane r l ≡ hashed ((n % 64 + 72) / 64) (ending (part m (n - n % 64 + step * l) (n % 64)) bits) 0 (lane h l))
    → d ≡ spelled 8 r → d ≡ digests_of 8 m step n
digests-are m step n bits h₀ h r d j e f g k w = w ∙ spelled-digests m step n r (all-digests m step n bits h₀ h r j e f g k) 8 (omega arith)

-- ---- the hash values as bytes

length-lane : (h : List ℕ) (l : ℕ) → length (bytes (lane h l)) ≡ 32
unfolding lane
length-lane h l = length-bytes (lane h l)

-- ---- values of 32 bytes one behind the other

-- d has the first k of c values in front, which are xs k together
pub record Front (xs : ℕ → List ℕ) (c : ℕ) (d : List ℕ) (k : ℕ) : Type 0 where
  pub few : k ≤ c
  pub size : length d ≡ 256
  pub front : take (32 * k) d ≡ xs k

front-none : (xs : ℕ → List ℕ) (c : ℕ) (d : List ℕ) → xs 0 ≡ [] → length d ≡ 256 → Front xs c d 0
front-none xs c d z e = record { few = omega arith; size = e; front = sym z }

front-more : (xs : ℕ → List ℕ) (c : ℕ) (d x one d' : List ℕ) (l : ℕ) → l < c → c ≤ 8 → xs (suc l) ≡ xs l ++ x → length x ≡ 32 → one ≡ x
    → d' ≡ written d (32 * l) (part one 0 32) → Front xs c d l → Front xs c d' (l + 1)
front-more xs c d x one d' l i j more n q g s =
    let w : d' ≡ written d (32 * l) x = g ∙ ap (written d (32 * l)) (part-all one 32 (ap length q ∙ n) ∙ q) in
    let y : l + 1 ≡ suc l = omega arith in
    let z : 32 * (l + 1) ≡ 32 * l + 32 = omega arith in
    record {
      few = omega arith;
      size = ap length w ∙ length-written d (32 * l) x (omega (arith, s.size)) ∙ s.size;
      front = ap₂ take z w ∙ take-written d (32 * l) x 32 (omega (arith, s.size)) n ∙ ap (λ (t : List ℕ). t ++ x) s.front ∙ sym (ap xs y ∙ more);
    }

-- the hash values as bytes
abbrev pub Spelling : List ℕ → List ℕ → ℕ → Type 0
Spelling h = Front (λ (k : ℕ). spelled k h) 8

pub spelling_none : (h d : List ℕ) → length d ≡ 256 → Spelling h d 0
unfolding spelled
spelling_none h d e = front-none (λ (k : ℕ). spelled k h) 8 d refl e

pub spelling_more : (h d one v d' : List ℕ) (l : ℕ) → l < 8 → v ≡ lane h l → one ≡ bytes v → d' ≡ written d (32 * l) (part one 0 32) → Spelling h d l
    → Spelling h d' (l + 1)
unfolding spelled
spelling_more h d one v d' l i e f g s =
    front-more (λ (k : ℕ). spelled k h) 8 d (bytes (lane h l)) one d' l i (omega arith) refl (length-lane h l) (f ∙ ap bytes e) g s

-- the digests of the first messages
abbrev pub Digested : List ℕ → ℕ → ℕ → ℕ → List ℕ → ℕ → Type 0
Digested m step n = Front (λ (k : ℕ). digests_of k m step n)

pub digested-none : (m : List ℕ) (step n c : ℕ) (d : List ℕ) → length d ≡ 256 → Digested m step n c d 0
unfolding digests_of
digested-none m step n c d e = front-none (λ (k : ℕ). digests_of k m step n) c d refl e

pub digested-more : (m : List ℕ) (step n c : ℕ) (d one d' : List ℕ) (l : ℕ) → l < c → c ≤ 8 → one ≡ sha256 (take (step * l + n - step * l) (drop (step * l) m))
    → d' ≡ written d (32 * l) (part one 0 32) → Digested m step n c d l → Digested m step n c d' (l + 1)
unfolding digests_of part
digested-more m step n c d one d' l i j e g s =
    let y : step * l + n - step * l ≡ n = omega arith in
    front-more (λ (k : ℕ). digests_of k m step n) c d (sha256 (part m (step * l) n)) one d' l i j refl (length-sha256 (part m (step * l) n))
    (e ∙ ap (λ (i : ℕ). sha256 (take i (drop (step * l) m))) y) g s

-- ---- one of the digests

length-digests : (k : ℕ) (m : List ℕ) (step n : ℕ) → length (digests_of k m step n) ≡ 32 * k
unfolding digests_of
length-digests zero m step n = refl
length-digests (suc k) m step n =
    length-append (digests_of k m step n) (sha256 (part m (step * k) n)) ∙ omega (arith, length-digests k m step n, length-sha256 (part m (step * k) n))

part-behind : (a b : List ℕ) (at w : ℕ) → length a ≡ at → length b ≡ w → part (a ++ b) at w ≡ b
unfolding part
part-behind a b at w e f = ap (take w) (drop_at a b at e) ∙ take_all w b (omega arith)

-- a part of what stands in front
part-taken : (r : List ℕ) (k at w : ℕ) → at + w ≤ k → part (take k r) at w ≡ part r at w
unfolding part
part-taken r k at w h = let e : 0 + at ≡ at = omega arith in part-part r 0 k at w h ∙ ap (λ (i : ℕ). part r i w) e

one-digest : (k l : ℕ) (m : List ℕ) (step n : ℕ) → l < k → part (digests_of k m step n) (32 * l) 32 ≡ sha256 (part m (step * l) n)
unfolding digests_of
one-digest zero l m step n h = absurd (let z : ⊥ = omega arith in z)
one-digest (suc k) l m step n h =
    let a = digests_of k m step n in
    let b = sha256 (part m (step * k) n) in
    let size : length a ≡ 32 * k = length-digests k m step n in
    ⊎_elim
    (λ (q : l ≡ k).
    ap (λ (i : ℕ). part (a ++ b) (32 * i) 32) q
    ∙ part-behind a b (32 * k) 32 size (length-sha256 (part m (step * k) n))
    ∙ ap (λ (i : ℕ). sha256 (part m (step * i) n)) (sym q))
    (λ (q : l < k). part-front a b (32 * l) 32 (omega arith) ∙ one-digest k l m step n q)
    (eq-or-lt_of_le (let q : l ≤ k = omega arith in q))

-- of eight messages the first ones
first-digests : (c k : ℕ) (m : List ℕ) (step n : ℕ) → c ≤ k → take (32 * c) (digests_of k m step n) ≡ digests_of c m step n
unfolding digests_of
first-digests c zero m step n h = let e : c ≡ 0 = omega arith in rw e
first-digests c (suc k) m step n h =
    ⊎_elim
    (λ (q : c ≡ suc k).
    let e : digests_of c m step n ≡ digests_of (suc k) m step n = ap (λ (i : ℕ). digests_of i m step n) q in
    take_all (32 * c) (digests_of (suc k) m step n) (omega (arith, length-digests (suc k) m step n)) ∙ sym e)
    (λ (q : c < suc k).
    take-append-le (32 * c) (digests_of k m step n) (sha256 (part m (step * k) n)) (omega (arith, length-digests k m step n))
    ∙ first-digests c k m step n (omega arith))
    (eq-or-lt_of_le h)

pub first_of_eight : (m : List ℕ) (step n c : ℕ) (r : List ℕ) → c ≤ 8 → r ≡ digests_of 8 m step n → take (32 * c) r ≡ digests_of c m step n
first_of_eight m step n c r h e = ap (take (32 * c)) e ∙ first-digests c 8 m step n h

-- digest l of the first c
pub digest_at : (m : List ℕ) (step n c : ℕ) (r : List ℕ) → take (32 * c) r ≡ digests_of c m step n → (l : ℕ) → l < c
    → part r (32 * l) 32 ≡ sha256 (part m (step * l) n)
digest_at m step n c r e l h = sym (part-taken r (32 * c) (32 * l) 32 (omega arith)) ∙ ap (λ (x : List ℕ). part x (32 * l) 32) e ∙ one-digest c l m step n h

-- ---- strings in lanes

-- one string more: the lanes are `step` bytes apart, string k is f k, of w k bytes
pub strings-step : (step : ℕ) (w : ℕ → ℕ) (f : ℕ → List ℕ) (l : ℕ) (b b' : List ℕ) → ((k : ℕ) → k < l → w k ≤ step) → length (f l) ≡ w l → step * l + w l ≤ length b
    → b' ≡ written b (step * l) (f l) → ((k : ℕ) → k < l → part b (step * k) (w k) ≡ f k) → (k : ℕ) → k < l + 1 → part b' (step * k) (w k) ≡ f k
strings-step step w f l b b' narrow size room e old =
    below_more (λ (k : ℕ). part b' (step * k) (w k) ≡ f k) l
    (λ (k : ℕ) (j : k < l).
    let m = mul-le-mul_left {m = k + 1} {n = l} step (let z : k + 1 ≤ l = omega arith in z) in
    let n = mul-add step k 1 in
    ap (λ (y : List ℕ). part y (step * k) (w k)) e
    ∙ part_apart b (step * l) (f l) (step * k) (w k) (omega arith) (inl (let z : step * k + w k ≤ step * l = omega (arith, narrow k j) in z))
    ∙ old k j)
    (ap (λ (y : List ℕ). part y (step * l) (w l)) e ∙ ap (part (written b (step * l) (f l)) (step * l)) (sym size) ∙ part-written b (step * l) (f l) (omega arith))
