-- Eight messages side by side: word t of message l stands at place 8 * t + l. Assumes nothing.
use Rattle.std.specs.Prelude.{◌≡◌, ℕ, zero, suc, ◌+◌, ◌-◌, ◌*◌, ◌/◌, ◌<◌, ◌≤◌, List, [], ◌∷◌, ◌++◌, length, replicate, slice_index, slice_index_or}
use Rattle.fields.specs.Fields.{part, field}
use Rattle.sha256.specs.Sha256.{◌⊞◌, σ0, σ1, round, bytes, sha256}
use Rattle.sha256.specs.State.{ending}

-- the word of the schedule sixteen rows after a place
unfoldable pub word_on : List ℕ → ℕ → ℕ
word_on w i = σ1 (slice_index w (i + 112)) ⊞ slice_index_or w (i + 72) 0 ⊞ σ0 (slice_index w (i + 8)) ⊞ slice_index_or w i 0

-- the working variables at a place: a to d and e to h are four rows each of two tables
unfoldable pub state_at : List ℕ → List ℕ → ℕ → List ℕ
state_at a e i =
    slice_index a (i + 24) ∷ slice_index a (i + 16) ∷ slice_index a (i + 8) ∷ slice_index a i ∷ slice_index e (i + 24) ∷ slice_index e (i + 16) ∷ slice_index e (i + 8) ∷ slice_index e i ∷ []

-- the hash value of message l among eight of them: rows d, c, b, a, h, g, f, e
unfoldable pub lane : List ℕ → ℕ → List ℕ
lane h l =
    slice_index h (l + 24) ∷ slice_index h (l + 16) ∷ slice_index h (l + 8) ∷ slice_index h l ∷ slice_index h (l + 56) ∷ slice_index h (l + 48) ∷ slice_index h (l + 40) ∷ slice_index h (l + 32) ∷ []

-- w holds the words at the first n places; block l stands at `at + step * l`
pub record Loaded (m : List ℕ) (at step n : ℕ) (w : List ℕ) : Type 0 where
  pub size : length w ≡ 512
  pub same : (t l : ℕ) → l < 8 → 8 * t + l < n → slice_index w (8 * t + l) ≡ field 4 m (at + step * l + 4 * t)

-- w has the words of w₀ in the first sixteen rows, and n words of the schedule after them
pub record Spread (w₀ : List ℕ) (n : ℕ) (w : List ℕ) : Type 0 where
  pub few : n ≤ 384
  pub size : length w ≡ 512
  pub front : (i : ℕ) → i < 128 → slice_index w i ≡ slice_index w₀ i
  pub rule : (i : ℕ) → i < n → slice_index w (i + 128) ≡ word_on w i

-- a begins with the first n words of h from a place on
pub record Begun (h : List ℕ) (from n : ℕ) (a : List ℕ) : Type 0 where
  pub few : n ≤ 32
  pub size : length a ≡ 544
  pub same : (i : ℕ) → i < n → slice_index a i ≡ slice_index h (from + i)

-- the tables a and e hold the first four rows of a₀ and e₀, and after n places the rounds with the constants k and the words w
pub record Turned (k w a₀ e₀ : List ℕ) (n : ℕ) (a e : List ℕ) : Type 0 where
  pub few : n ≤ 512
  pub size_a : length a ≡ 544
  pub size_e : length e ≡ 544
  pub front_a : (i : ℕ) → i < 32 → slice_index a i ≡ slice_index a₀ i
  pub front_e : (i : ℕ) → i < 32 → slice_index e i ≡ slice_index e₀ i
  pub rule : (i : ℕ) → i < n → state_at a e (i + 8) ≡ round (state_at a e i) (slice_index k (i / 8)) (slice_index w i)

-- r is h plus the last four rows of each table, at n places of either half
pub record Added (h a e : List ℕ) (n : ℕ) (r : List ℕ) : Type 0 where
  pub few : n ≤ 32
  pub size : length r ≡ 64
  pub low : (i : ℕ) → i < n → slice_index r i ≡ slice_index_or h i 0 ⊞ slice_index_or a (i + 512) 0
  pub high : (i : ℕ) → i < n → slice_index r (i + 32) ≡ slice_index_or h (i + 32) 0 ⊞ slice_index_or e (i + 512) 0

-- the blocks that end a message whose last n bytes are p, over 128 bytes
unfoldable pub end_of : List ℕ → ℕ → ℕ → List ℕ
end_of p n bits = ending p bits ++ replicate (128 - 64 * ((n + 72) / 64)) 0

-- b holds the blocks that end the first k messages, and zeros for the others
pub record Padded (m : List ℕ) (at step n bits k : ℕ) (b : List ℕ) : Type 0 where
  pub few : k ≤ 8
  pub size : length b ≡ 1024
  pub each : (l : ℕ) → l < k → part b (128 * l) 128 ≡ end_of (part m (at + step * l) n) n bits
  pub rest : (l : ℕ) → k ≤ l → l < 8 → part b (128 * l) 128 ≡ replicate 128 0

-- the first k of the hash values, as bytes
unfoldable pub spelled : ℕ → List ℕ → List ℕ
spelled zero h = []
spelled (suc k) h = spelled k h ++ bytes (lane h k)

-- the digests of k messages of n bytes; message l stands at `step * l`
unfoldable pub digests_of : ℕ → List ℕ → ℕ → ℕ → List ℕ
digests_of zero m step n = []
digests_of (suc k) m step n = digests_of k m step n ++ sha256 (part m (step * k) n)
