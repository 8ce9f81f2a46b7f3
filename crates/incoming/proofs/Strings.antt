-- I strings, written piece by piece. Assumes nothing.
use mathlib.Core.Path.{◌≡◌, refl, sym, ap, ap₂, ◌∙◌}
use mathlib.Core.Logic.{⊎_elim}
use mathlib.Core.List.Memᴰ
use mathlib.Core.List.{List, [], ◌∷◌, ◌++◌, map, append_assoc, append-nil, map-append, Memᴰ}
use Prim.Native.Nat.{ℕ, suc, ◌+◌, ◌*◌, ◌^◌, ◌≤◌, ◌<◌}
use native.Mathlib.Nat.{zero-add}
use native.Mathlib.Omega.{arith}
use lib.Dec.{lit≤}
use lib.ListN.{length, take, length-append}
use Rattle.fields.specs.Fields.{encode, part, field, written}
use Rattle.fields.proofs.Numbers.{length-encode, le_or_lt}
use Rattle.fields.proofs.Places.{length_part, take-written, written_none}
use Rattle.sha256.specs.Sha256.{sha256}
use Rattle.model.specs.Numbers.{Bytes, H, joined}
use Rattle.model.specs.Graph.{InEdge, temporal, dependency}
use Rattle.model.specs.Digest.{Link, link, edge_part, links_string, incoming_string}
use Rattle.model.proofs.Strings.{joined-append}
use Rattle.model.proofs.Digests.{edge_part-length}
use Rattle.graph.specs.Table.{absent, present, node_in}
use Rattle.graph.specs.Links.{an_edge, Starts}
use Rattle.graph.proofs.Slots.{wrote, and_behind}
use Rattle.graph.proofs.Nodes.{present-some, present-none, map-length}
use Rattle.graph.proofs.Strings.{encode_byte, start_there, in_edges-are}
use Rattle.incoming.specs.Links.{in_link, in_links, in_parts, incoming_of}
use Rattle.incoming.specs.Groups.{in_count}

-- ---- the parts of links behind one another

in_parts_more : (work : Bytes) (i : ℕ) (es fs : List InEdge) → in_parts work i (es ++ fs) ≡ in_parts work i es ++ in_parts work i fs
unfolding in_parts
in_parts_more work i es fs =
    let f = in_link work i in
    ap (λ (ls : List Link). joined (map edge_part ls)) (map-append f es fs)
    ∙ ap joined (map-append edge_part (map f es) (map f fs))
    ∙ joined-append (map edge_part (map f es)) (map edge_part (map f fs))

in_part_one : (work : Bytes) (i : ℕ) (e : InEdge) → in_parts work i (e ∷ []) ≡ edge_part (in_link work i e)
unfolding in_parts
in_part_one work i e = append-nil (edge_part (in_link work i e))

-- an in-edge that is not there, and one that is
pub in_edge_none : (b work : Bytes) (at i start t k : ℕ) → start ≡ 65535 → b ≡ written b at (in_parts work i (present start (an_edge t k start)))
unfolding absent in_parts
in_edge_none b work at i start t k e =
    rw (present-none start (an_edge t k start) (let z : 65535 ≤ start = omega arith in z)) (sym (written_none b at))

pub in_edge_some : (b b' work : Bytes) (at i start t k : ℕ) → start < absent
    → b' ≡ written b at (edge_part (link (an_edge t k start) (node_in work start) (node_in work i) (part work (128 * start) 32)))
    → b' ≡ written b at (in_parts work i (present start (an_edge t k start)))
unfolding in_link
in_edge_some b b' work at i start t k h e =
    e ∙ ap (written b at) (sym (in_part_one work i (an_edge t k start)) ∙ ap (in_parts work i) (sym (present-some start (an_edge t k start) h)))

in_parts_length : (work : Bytes) (i : ℕ) (es : List InEdge) → ((e : InEdge) → Memᴰ e es → 128 * e.start + 32 ≤ length work)
    → length (in_parts work i es) ≡ 58 * length es
unfolding in_parts in_link
in_parts_length work i [] h = refl
in_parts_length work i (e ∷ es) h =
    length-append (edge_part (in_link work i e)) (in_parts work i es)
    ∙ omega (
      arith,
      edge_part-length (in_link work i e) (length_part work (128 * e.start) 32 (h e (Memᴰ.head refl))),
      in_parts_length work i es (λ x m. h x (Memᴰ.tail m)),
    )

-- ---- how many edges lead into a slot

edge_few : (p : ℕ) (e : InEdge) → length (present p e) ≤ 1
edge_few p e =
    ⊎_elim (λ (z : absent ≤ p). rw (present-none p e z) (lit≤ tt)) (λ (z : p < absent). rw (present-some p e z) (lit≤ tt)) (le_or_lt absent p)

pub no_edge : (p : ℕ) → p ≡ 65535 → (e : InEdge) → 0 ≡ length (present p e)
unfolding absent
no_edge p h e = rw (present-none p e (let z : 65535 ≤ p = omega arith in z)) refl

pub one-edge : (p : ℕ) → p < 2 ^ 16 → (p ≡ 65535 → ⊥) → (e : InEdge) → 1 ≡ length (present p e)
one-edge p h d e = rw (present-some p e (start_there p h d)) refl

pub in_count_is : (work : Bytes) (i p s a b : ℕ) → p ≡ field 2 work (128 * i + 76) → ((e : InEdge) → a ≡ length (present p e)) → s ≡ field 2 work (128 * i + 78)
    → ((e : InEdge) → b ≡ length (present s e)) → a + b ≡ in_count work i
unfolding in_count
in_count_is work i p s a b ep ea es eb =
    let k = field 1 work (128 * i + 80) in
    ap₂ (λ (x y : ℕ). x + y) (ea (temporal p)) (eb (dependency k s)) ∙ sym (length-append (present p (temporal p)) (present s (dependency k s)))
    ∙ ap length (sym (in_edges-are work i p s k ep es refl))

pub in_count_few : (work : Bytes) (i : ℕ) → in_count work i ≤ 2
in_count_few work i =
    let p = field 2 work (128 * i + 76) in
    let s = field 2 work (128 * i + 78) in
    let x = temporal p in
    omega (arith, in_count_is work i p s (length (present p x)) (length (present s x)) refl (λ e. one p x e) refl (λ e. one s x e), edge_few p x, edge_few s x)
  where
    one : (p : ℕ) (x e : InEdge) → length (present p x) ≡ length (present p e)
    one p x e =
        ⊎_elim (λ (z : absent ≤ p). rw (present-none p x z, present-none p e z) refl) (λ (z : p < absent). rw (present-some p x z, present-some p e z) refl) (le_or_lt absent p)

string_text : (work : Bytes) (i : ℕ)
    → incoming_string (in_links work i) ≡ 0x49 ∷ (encode 1 (in_count work i) ++ in_parts work i (node_in work i).in_edges)
unfolding in_links incoming_string links_string in_parts in_count
string_text work i =
    ap (λ (c : ℕ). 0x49 ∷ (encode 1 c ++ in_parts work i (node_in work i).in_edges)) (map-length (in_link work i) (node_in work i).in_edges)

-- two bytes, and two pieces behind them
three_written : (b b1 b2 b3 x y z : Bytes) (at n m : ℕ) → length x ≡ 2 → length y ≡ n → length z ≡ m → at + 2 + n + m ≤ length b
    → b1 ≡ written b at x → b2 ≡ written b1 (at + 2) y → b3 ≡ written b2 (at + 2 + n) z → b3 ≡ written b at (x ++ (y ++ z))
three_written b b1 b2 b3 x y z at n m ex ey ez r e1 e2 e3 =
    let w1 = wrote b at x 2 b1 ex (omega arith) e1 in
    let w2 = and_behind b at x 2 b1 y n (at + 2) b2 w1 refl ey (omega arith) e2 in
    (and_behind b at (x ++ y) (2 + n) b2 z m (at + 2 + n) b3 w2 (omega arith) ez (omega arith) e3).done ∙ ap (written b at) (append_assoc x y z)

module _ (work : Bytes) (i : ℕ) (h : Starts work i) where
  starts_in : (e : InEdge) → Memᴰ e (node_in work i).in_edges → 128 * e.start + 32 ≤ length work
  starts_in e m = omega (arith, h.before e m, h.room)

  pub string-length : length (incoming_string (in_links work i)) ≡ 2 + 58 * in_count work i
  unfolding in_count
  string-length =
      let es = (node_in work i).in_edges in
      ap length (string_text work i) ∙ ap suc (length-append (encode 1 (in_count work i)) (in_parts work i es))
      ∙ omega (arith, length-encode 1 (in_count work i), in_parts_length work i es starts_in)

  pub string-is : (b b1 b2 b3 : Bytes) (at p s k c q : ℕ) → at + 118 ≤ length b → p ≡ field 2 work (128 * i + 76) → s ≡ field 2 work (128 * i + 78)
      → k ≡ field 1 work (128 * i + 80) → c ≡ in_count work i → ((e : InEdge) → q ≡ length (present p e)) → b1 ≡ written b at (0x49 ∷ c ∷ [])
      → b2 ≡ written b1 (at + 2) (in_parts work i (present p (an_edge 0 0 p))) → b3 ≡ written b2 (at + 2 + 58 * q) (in_parts work i (present s (an_edge 1 k s)))
      → b3 ≡ written b at (incoming_string (in_links work i))
  string-is b b1 b2 b3 at p s k c q r ep es ek ec eq e1 e2 e3 =
      let ps = present p (an_edge 0 0 p) in
      let ss = present s (an_edge 1 k s) in
      let edges : (node_in work i).in_edges ≡ ps ++ ss = in_edges-are work i p s k ep es ek in
      let one : q ≡ length ps = eq (an_edge 0 0 p) in
      let long : length (in_parts work i ps) ≡ 58 * q =
      in_parts_length work i ps (λ e m. starts_in e (rw edges (Memᴰ.append_left ss m))) ∙ ap (λ (x : ℕ). 58 * x) (sym one) in
      let last : length (in_parts work i ss) ≡ 58 * length ss = in_parts_length work i ss (λ e m. starts_in e (rw edges (Memᴰ.append_right ps m))) in
      let number : c ∷ [] ≡ encode 1 (in_count work i) = sym (encode_byte c (omega (arith, in_count_few work i))) ∙ ap (encode 1) ec in
      three_written b b1 b2 b3 (0x49 ∷ c ∷ []) (in_parts work i ps) (in_parts work i ss) at (58 * q) (58 * length ss) refl long last
      (omega (arith, edge_few p (an_edge 0 0 p), edge_few s (an_edge 1 k s))) e1 e2 e3
      ∙ ap (written b at)
      (ap₂ (λ (x y : Bytes). 0x49 ∷ (x ++ y)) number (sym (in_parts_more work i ps ss) ∙ ap (in_parts work i) (sym edges)) ∙ sym (string_text work i))

  -- the string at the beginning of b, and its hash
  pub digest-is : (b b1 d : Bytes) (c : ℕ) → c ≡ in_count work i → b1 ≡ written b 0 (incoming_string (in_links work i))
      → d ≡ sha256 (take (2 + 58 * c) b1) → d ≡ incoming_of work i
  unfolding incoming_of H
  digest-is b b1 d c ec e1 ed =
      let x = incoming_string (in_links work i) in
      ed ∙ ap sha256
      (ap₂ (λ (k : ℕ) (y : Bytes). take (2 + 58 * k) y) ec e1
      ∙ ap (λ (k : ℕ). take k (written b 0 x)) (sym (zero-add (2 + 58 * in_count work i)))
      ∙ take-written b 0 x (2 + 58 * in_count work i) (omega arith) string-length)
