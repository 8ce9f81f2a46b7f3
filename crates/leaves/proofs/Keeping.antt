-- The strings and digests of some leaves, one behind the other. Assumes nothing.
use mathlib.Core.Path.{◌≡◌, refl, sym, ap, ◌∙◌}
use mathlib.Core.Logic.{inl, inr, ⊎_elim}
use mathlib.Core.List.{List, [], ◌∷◌}
use Prim.Native.Nat.{ℕ, suc, ◌+◌, ◌*◌, ◌≤◌, ◌<◌}
use native.Mathlib.Omega.{arith}
use borrow.Author.Count.{below_more}
use lib.Dec.{T, lit≤}
use lib.ListN.{length, get_or, take}
use lib.Seq.{get_or-take}
use Rattle.std.proofs.Common.{length-take-le}
use Rattle.fields.specs.Fields.{part, field, written}
use Rattle.fields.proofs.Places.{length_part, length-written, written-whole}
use Rattle.sha256.specs.Sha256.{sha256}
use Rattle.lanes.specs.Lanes.{digests_of}
use Rattle.lanes.proofs.Messages.{digest_at, strings-step}
use Rattle.question.specs.declared.EntityKey.{EntityKey}
use Rattle.question.specs.declared.TimeKey.{TimeKey}
use Rattle.model.specs.Numbers.{Bytes, H}
use Rattle.model.specs.Accumulator.{Leaf, leaf_string}
use Rattle.model.proofs.Strings.{joined_length, num, text, none}
use Rattle.graph.specs.Table.{Columns, columns, outside, Kept}
use Rattle.graph.proofs.Slots.{kept-none, kept_then, same-within, field-within, kept-written, slot-here, slot_apart}
use Rattle.accumulator.specs.Trees.{known, leaf_of, version_leaf}
use Rattle.leaves.specs.Leaves.{slot_leaf, leaf_digest, kept_leaf, Slots, Strings, digest_in, Filling, LeavesKept}

-- ---- one leaf

pub slot_string : (b b' work : Bytes) (at i : ℕ) (e : EntityKey) (t : TimeKey) → e.0 ≡ field 4 work (128 * i + 72) → t.0 ≡ field 8 work (128 * i + 64)
    → b' ≡ written b at (leaf_string (leaf_of e t work (128 * i) (128 * i + 32))) → b' ≡ written b at (leaf_string (slot_leaf work i))
unfolding slot_leaf leaf_of
slot_string b b' work at i e t p q h =
    h ∙ λ z. written b at (leaf_string (record { entity = p z; time = q z; incoming = part work (128 * i) 32; outgoing = part work (128 * i + 32) 32 }))

pub digest-read : (work l d : Bytes) (i : ℕ) → length l ≡ 32 → 128 * i + 128 ≤ length work → d ≡ written l 0 (part work (128 * i + 84) 32) → d ≡ digest_in work i
digest-read work l d i w h e = written-whole l d (part work (128 * i + 84) 32) 32 e w (length_part work (128 * i + 84) 32 (omega arith))

pub kept_leaf-read : (work : Bytes) (i : ℕ) (t : TimeKey) (d : Bytes) → t.0 ≡ field 8 work (128 * i + 64) → d ≡ digest_in work i
    → known (record { least = t.0; greatest = t.0; digest = d }) ≡ kept_leaf work i
unfolding known kept_leaf
kept_leaf-read work i t d p q = λ z. record { least = p z; greatest = p z; digest = q z }

string_width : (work : Bytes) (i : ℕ) → 128 * i + 128 ≤ length work → length (leaf_string (slot_leaf work i)) ≡ 77
unfolding slot_leaf leaf_string
string_width work i h =
    let d = part work (128 * i) 32 in
    let o = part work (128 * i + 32) 32 in
    ap suc
    (joined_length
    (num 4 (field 4 work (128 * i + 72)) (num 8 (field 8 work (128 * i + 64)) (text 32 d (length_part work (128 * i) 32 (omega arith)) (text 32 o (length_part work (128 * i + 32) 32 (omega arith)) none)))))

pub slot_leaf-read : (work l s d : Bytes) (i : ℕ) (t : TimeKey) → length l ≡ 77 → 128 * i + 128 ≤ length work → s ≡ written l 0 (leaf_string (slot_leaf work i)) → d ≡ sha256 s
    → t.0 ≡ field 8 work (128 * i + 64) → known (record { least = t.0; greatest = t.0; digest = d }) ≡ version_leaf (slot_leaf work i)
unfolding known version_leaf slot_leaf H
slot_leaf-read work l s d i t w h e f p =
    let q = f ∙ ap sha256 (written-whole l s (leaf_string (slot_leaf work i)) 77 e w (string_width work i h)) in
    λ z. record { least = p z; greatest = p z; digest = q z }

-- a table that keeps the digests and the versions keeps the leaves
pub slot_leaf-kept : (cs : List Columns) (work work' : Bytes) (i : ℕ) → Kept cs work work' → T (outside cs 0 64) → T (outside cs 64 12) → slot_leaf work' i ≡ slot_leaf work i
unfolding slot_leaf
slot_leaf-kept cs work work' i K t u =
    let z : 128 * i + 0 ≡ 128 * i = omega arith in
    let e : field 4 work' (128 * i + 72) ≡ field 4 work (128 * i + 72) = field-within cs work work' i 64 12 72 4 K u (lit≤ tt) (lit≤ tt) in
    let f : field 8 work' (128 * i + 64) ≡ field 8 work (128 * i + 64) = field-within cs work work' i 64 12 64 8 K u (lit≤ tt) (lit≤ tt) in
    let d : part work' (128 * i) 32 ≡ part work (128 * i) 32 =
    ap (λ (k : ℕ). part work' k 32) (sym z) ∙ same-within cs work work' i 0 64 0 32 K t (lit≤ tt) (lit≤ tt) ∙ ap (λ (k : ℕ). part work k 32) z in
    let o : part work' (128 * i + 32) 32 ≡ part work (128 * i + 32) 32 = same-within cs work work' i 0 64 32 32 K t (lit≤ tt) (lit≤ tt) in
    λ j. record { entity = e j; time = f j; incoming = d j; outgoing = o j }

pub leaf_digest-kept : (cs : List Columns) (work work' : Bytes) (i : ℕ) → Kept cs work work' → T (outside cs 0 64) → T (outside cs 64 12) → leaf_digest work' i ≡ leaf_digest work i
leaf_digest-kept cs work work' i K t u = ap (λ (l : Leaf). (version_leaf l).digest) (slot_leaf-kept cs work work' i K t u)

-- ---- the strings

pub strings-none : (work : Bytes) (slots : List ℕ) (b : Bytes) → length b ≡ 616 → Strings work slots 0 b
strings-none work slots b e = record { size = e; strings = λ l h. absurd (let z : ⊥ = omega arith in z) }

pub strings-more : (work : Bytes) (slots : List ℕ) (count l : ℕ) (b b' : Bytes) → count ≤ 8 → l < count → Slots work slots count
    → b' ≡ written b (77 * l) (leaf_string (slot_leaf work (get_or slots l 0))) → Strings work slots l b → Strings work slots (l + 1) b'
strings-more work slots count l b b' h i S e s =
    let x = leaf_string (slot_leaf work (get_or slots l 0)) in
    let n : length x ≡ 77 = string_width work (get_or slots l 0) (S.inside l i) in
    record {
      size = ap length e ∙ length-written b (77 * l) x (omega (arith, s.size)) ∙ s.size;
      strings =
          strings-step 77 (λ (k : ℕ). 77) (λ (k : ℕ). leaf_string (slot_leaf work (get_or slots k 0))) l b b' (λ k j. omega arith) n (omega (arith, s.size)) e s.strings;
    }

pub strings-all : (work : Bytes) (slots : List ℕ) (count l : ℕ) (b : Bytes) → count ≤ l → l ≤ count → Strings work slots l b → Strings work slots count b
strings-all work slots count l b h k s = let e : l ≡ count = omega arith in rw e at s

-- ---- their digests

pub digests_of_leaves : (work : Bytes) (slots : List ℕ) (count : ℕ) (b d : Bytes) → Strings work slots count b → take (32 * count) d ≡ digests_of count b 77 77
    → (l : ℕ) → l < count → part d (32 * l) 32 ≡ leaf_digest work (get_or slots l 0)
unfolding version_leaf H
digests_of_leaves work slots count b d s e l h = digest_at b 77 77 count d e l h ∙ ap sha256 (s.strings l h)

pub filling-none : (work : Bytes) (from : ℕ) (digests : Bytes) → Filling work from digests 0 work
filling-none work from digests =
    record { kept = kept-none (columns 84 116 ∷ []) work; here = λ l h. absurd (let z : ⊥ = omega arith in z); others = λ j h. refl }

pub filling-more : (work work' work'' : Bytes) (from count l : ℕ) (digests : Bytes) → length digests ≡ 256 → count ≤ 8 → l < count → 128 * (from + count) ≤ length work
    → work'' ≡ written work' (128 * (from + l) + 84) (part digests (32 * l) 32) → Filling work from digests l work' → Filling work from digests (l + 1) work''
filling-more work work' work'' from count l digests size h i room e f =
    let i' = from + l in
    let x = part digests (32 * l) 32 in
    let n : length x ≡ 32 = length_part digests (32 * l) 32 (omega arith) in
    let r : 128 * i' + 128 ≤ length work' = omega (arith, f.kept.size) in
    let apart : (j : ℕ) → (j ≡ i' → ⊥) → digest_in work'' j ≡ digest_in work' j =
    λ j d. ap (λ (y : Bytes). digest_in y j) e ∙ slot_apart work' i' 84 x 32 n r (lit≤ tt) j 84 32 d (lit≤ tt) in
    record {
      kept =
          kept_then (columns 84 116 ∷ []) work work' work'' f.kept
          (rw e (kept-written work' i' 84 x 32 n r (lit≤ tt) 84 116 (lit≤ tt) (lit≤ tt)));
      here =
          below_more (λ (k : ℕ). digest_in work'' (from + k) ≡ part digests (32 * k) 32) l
          (λ (k : ℕ) (j : k < l). apart (from + k) (λ (z : from + k ≡ i'). omega arith) ∙ f.here k j)
          (ap (λ (y : Bytes). digest_in y i') e ∙ slot-here work' i' 84 x 32 n r (lit≤ tt));
      others = λ j k.
          apart j (λ (z : j ≡ i'). ⊎_elim (λ (y : j < from). omega arith) (λ (y : from + (l + 1) ≤ j). omega arith) k)
          ∙ f.others j (⊎_elim (λ (y : j < from). inl y) (λ (y : from + (l + 1) ≤ j). inr (omega arith)) k);
    }

pub filling-all : (work work' : Bytes) (from count l : ℕ) (digests : Bytes) → count ≤ l → l ≤ count → Filling work from digests l work' → Filling work from digests count work'
filling-all work work' from count l digests h k f = let e : l ≡ count = omega arith in rw e at f

pub leaves_kept : (work work' : Bytes) (slots : List ℕ) (count from : ℕ) (d : Bytes) → ((l : ℕ) → l < count → part d (32 * l) 32 ≡ leaf_digest work (get_or slots l 0))
    → Filling work from d count work' → LeavesKept work slots count from work'
leaves_kept work work' slots count from d e f = record { kept = f.kept; here = λ l h. f.here l h ∙ e l h; others = f.others }

-- ---- the first of some slots

module _ (slots : List ℕ) (k : ℕ) (h : k ≤ length slots) where
  pub first_number : length (take k slots) ≡ k
  first_number = length-take-le k slots h

  pub first_slots : (work : Bytes) → Slots work slots k → Slots work (take k slots) (length (take k slots))
  first_slots work s =
      record { inside = λ l j. let i : l < k = omega (arith, first_number) in omega (arith, get_or-take k slots l 0 i, s.inside l i) }

  pub first_kept : (work : Bytes) (from : ℕ) (work' : Bytes) → LeavesKept work (take k slots) (length (take k slots)) from work' → LeavesKept work slots k from work'
  first_kept work from work' L =
      record {
        kept = L.kept;
        here = λ l j. L.here l (omega (arith, first_number)) ∙ ap (leaf_digest work) (get_or-take k slots l 0 j);
        others = λ j o. L.others j (⊎_elim (λ (z : j < from). inl z) (λ (z : from + k ≤ j). inr (omega (arith, first_number))) o);
      }
