-- Groups of slots: which slots fit, their strings and their digests. Assumes nothing.
use mathlib.Core.Path.{◌≡◌, refl, sym, ap, ◌∙◌, subst}
use mathlib.Core.Logic.{◌⊎◌, inl, inr, ⊎_elim}
use mathlib.Core.Bool.{true, false}
use mathlib.Core.List.{List, Memᴰ}
use Prim.Native.Nat.{ℕ, ◌+◌, ◌*◌, ◌≤◌, ◌<◌}
use native.Mathlib.Nat.{eq-or-lt_of_le}
use native.Mathlib.Omega.{arith}
use borrow.Author.Tests.{eqb-true}
use lib.Dec.{eqb, lit≤}
use lib.ListN.{length, get_or, set, replicate, length-set, length-replicate, get_or-replicate}
use lib.Seq.{get_or-set_same, get_or-set_other}
use Rattle.fields.specs.Fields.{part, field, written}
use Rattle.fields.proofs.Numbers.{le_or_lt}
use Rattle.fields.proofs.Places.{length_part, length-written}
use Rattle.lanes.proofs.Messages.{strings-step}
use Rattle.model.specs.Numbers.{Bytes}
use Rattle.model.specs.Graph.{InEdge}
use Rattle.model.specs.Digest.{incoming_string}
use Rattle.graph.specs.Table.{absent, Ready}
use Rattle.graph.proofs.Slots.{kept-none, kept_then}
use Rattle.graph.proofs.Nodes.{each_start, ready-starts}
use Rattle.graph.proofs.Strings.{in_edges-are}
use Rattle.incoming.specs.Links.{in_links}
use Rattle.incoming.specs.Groups.{in_count, Settled, Joins, Fits, entry, member, Taken, Gathered, Grown, Members, StringsPut, DigestsPut}
use Rattle.incoming.proofs.Strings.{in_count_few, string-length}
use Rattle.incoming.proofs.Incoming.{last_or_before, incoming_column, put_kept, put_here, put_apart}

-- ---- which slots fit into a group

pub not_so : {A : Type 0} → false ≡ true → A
not_so e = absurd (let z : ◌≡◌ {A = ℕ} 0 1 = cc in let y : ⊥ = omega arith in y)

pub nothing_settled : (work : Bytes) (first start : ℕ) → start ≡ 65535 → start < absent → Settled work first start
unfolding absent
nothing_settled work first start e h = absurd (let y : ⊥ = omega arith in y)

pub entry_settled : (work : Bytes) (first start c : ℕ) → c ≡ in_count work start → eqb c 0 ≡ true → Settled work first start
entry_settled work first start c ec e = inr (sym ec ∙ eqb-true c 0 e)

pub fits-entry : (work : Bytes) (n first edges i c : ℕ) → i < n → c ≡ in_count work i → c ≡ 0 → Fits work n first edges i
fits-entry work n first edges i c h ec z = entry h (sym ec ∙ z)

pub fits-member : (work : Bytes) (n first edges i c p s : ℕ) → i < n → c ≡ in_count work i → c ≡ edges → p ≡ field 2 work (128 * i + 76)
    → s ≡ field 2 work (128 * i + 78) → (p < absent → Settled work first p) → (s < absent → Settled work first s) → Fits work n first edges i
fits-member work n first edges i c p s h ec ee ep es hp hs =
    let k = field 1 work (128 * i + 80) in
    member
    (record {
      here = h;
      alike = sym ec ∙ ee;
      starts = λ e m.
          each_start (Settled work first) p s k hp hs e (subst (λ (l : List InEdge). Memᴰ e l) (in_edges-are work i p s k ep es refl) m);
    })

pub fits-here : (work : Bytes) (n first edges i : ℕ) → Fits work n first edges i → i < n
fits-here work n first edges i (entry h z) = h
fits-here work n first edges i (member j) = j.here

-- ---- the slots of a group

pub begun : (work : Bytes) (n first edges : ℕ) → Ready work n → first < n → edges ≡ in_count work first
    → Gathered work n first (replicate 8 first) 1 edges (first + 1)
begun work n first edges ready h e =
    record {
      size = length-replicate 8 first;
      few = lit≤ tt;
      narrow = omega (arith, in_count_few work first);
      on = omega arith;
      within = omega arith;
      each = λ l q.
          rw (get_or-replicate 8 l first 0 (omega arith))
          (record { here = h; alike = sym e; starts = λ x m. inl ((ready-starts work n first ready h).before x m) });
      all = λ j p q. inr (record { lane = 0; below = omega arith; here = let z : first ≡ j = omega arith in z });
    }

module _ (work : Bytes) (n first : ℕ) (slots : List ℕ) (count edges i : ℕ) (g : Gathered work n first slots count edges i) (h : i < n) where
  entry_gathered : in_count work i ≡ 0 → Gathered work n first slots count edges (i + 1)
  entry_gathered z =
      record {
        size = g.size;
        few = g.few;
        narrow = g.narrow;
        on = omega (arith, g.on);
        within = omega arith;
        each = g.each;
        all = λ j p q.
            ⊎_elim (λ (e : j ≡ i). inl (ap (in_count work) e ∙ z)) (λ (l : j < i). g.all j p l) (last_or_before j i q);
      }

  member_gathered : count < 8 → Joins work n first edges i → Gathered work n first (set slots count i) (count + 1) edges (i + 1)
  member_gathered f m =
      let same : (l : ℕ) → l < count → get_or (set slots count i) l 0 ≡ get_or slots l 0 = λ l q. get_or-set_other slots count l i 0 (λ e. omega arith) in
      let new : get_or (set slots count i) count 0 ≡ i = get_or-set_same slots count i 0 (omega (arith, g.size)) in
      record {
        size = simp length-set g.size;
        few = omega arith;
        narrow = g.narrow;
        on = omega (arith, g.on);
        within = omega arith;
        each = λ l q.
            ⊎_elim
            (λ (e : l ≡ count). subst (Joins work n first edges) (sym new ∙ ap (λ (x : ℕ). get_or (set slots count i) x 0) (sym e)) m)
            (λ (b : l < count). subst (Joins work n first edges) (sym (same l b)) (g.each l b))
            (last_or_before l count q);
        all = λ j p q.
            ⊎_elim
            (λ (e : j ≡ i). inr (record { lane = count; below = omega arith; here = new ∙ sym e }))
            (λ (l : j < i).
            ⊎_elim
            (λ (z : in_count work j ≡ 0). inl z)
            (λ (t : Taken slots count j). inr (record { lane = t.lane; below = omega (arith, t.below); here = same t.lane t.below ∙ t.here }))
            (g.all j p l))
            (last_or_before j i q);
      }

pub grown-none : (work : Bytes) (slots : List ℕ) (count i c : ℕ) → c ≡ in_count work i → c ≡ 0 → Grown work i slots count slots count
grown-none work slots count i c ec z =
    record { group = λ n first edges g f. entry_gathered work n first slots count edges i g (fits-here work n first edges i f) (sym ec ∙ z) }

pub grown-one : (work : Bytes) (slots : List ℕ) (count i c : ℕ) → count < 8 → c ≡ in_count work i → (c ≡ 0 → ⊥)
    → Grown work i slots count (set slots count i) (count + 1)
grown-one work slots count i c h ec z = record { group = go }
  where
    go : (n first edges : ℕ) → Gathered work n first slots count edges i → Fits work n first edges i
        → Gathered work n first (set slots count i) (count + 1) edges (i + 1)
    go n first edges g (entry l e) = absurd (z (ec ∙ e))
    go n first edges g (member m) = member_gathered work n first slots count edges i g m.here h m

pub members : (work : Bytes) (n first : ℕ) (slots : List ℕ) (count edges end : ℕ) → Ready work n → Gathered work n first slots count edges end
    → Members work slots count
members work n first slots count edges end ready g =
    record { few = g.few; each = λ l h. ready-starts work n (get_or slots l 0) ready (g.each l h).here }

-- ---- its strings

-- those of the first l slots are there
pub record Stringing (work : Bytes) (slots : List ℕ) (count l : ℕ) (b : Bytes) : Type 0 where
  pub few : l ≤ count
  pub put : StringsPut work slots l b

pub strings-none : (work : Bytes) (slots : List ℕ) (count : ℕ) (b : Bytes) → length b ≡ 944 → Stringing work slots count 0 b
strings-none work slots count b h = record { few = omega arith; put = record { size = h; each = λ l q. absurd (let y : ⊥ = omega arith in y) } }

pub strings-more : (work : Bytes) (slots : List ℕ) (count l : ℕ) (b b' : Bytes) → Members work slots count → l < count → Stringing work slots count l b
    → b' ≡ written b (118 * l) (incoming_string (in_links work (get_or slots l 0))) → Stringing work slots count (l + 1) b'
strings-more work slots count l b b' m h s e =
    let j = get_or slots l 0 in
    let str = incoming_string (in_links work j) in
    let long : length str ≡ 2 + 58 * in_count work j = string-length work j (m.each l h) in
    let fits : 118 * l + length str ≤ length b = omega (arith, in_count_few work j, s.put.size, m.few) in
    record {
      few = omega arith;
      put =
          record {
            size = ap length e ∙ length-written b (118 * l) str fits ∙ s.put.size;
            each =
                strings-step 118 (λ (k : ℕ). 2 + 58 * in_count work (get_or slots k 0)) (λ (k : ℕ). incoming_string (in_links work (get_or slots k 0))) l b b'
                (λ k q. omega (arith, in_count_few work (get_or slots k 0))) long (omega arith) e s.put.each;
          };
    }

pub strings-all : (work : Bytes) (slots : List ℕ) (count l : ℕ) (b : Bytes) → count ≤ l → Stringing work slots count l b → StringsPut work slots count b
strings-all work slots count l b h s = subst (λ (k : ℕ). StringsPut work slots k b) (let e : l ≡ count = omega (arith, s.few) in e) s.put

-- ---- its digests

equal_or_not : (j i : ℕ) → (j ≡ i) ⊎ (j ≡ i → ⊥)
equal_or_not j i =
    ⊎_elim (λ (h : j ≤ i). ⊎_elim (λ (e : j ≡ i). inl e) (λ (l : j < i). inr (λ e. omega arith)) (eq-or-lt_of_le h)) (λ (l : i < j). inr (λ e. omega arith)) (le_or_lt j i)

-- those of the first l slots are there
pub record Putting (work work' : Bytes) (slots : List ℕ) (count l : ℕ) (ds : Bytes) : Type 0 where
  pub few : l ≤ count
  pub put : DigestsPut work work' slots l ds

pub digests-none : (work : Bytes) (slots : List ℕ) (count : ℕ) (ds : Bytes) → Putting work work slots count 0 ds
digests-none work slots count ds =
    record {
      few = omega arith;
      put =
          record {
            kept = kept-none incoming_column work;
            right = λ f a j o. ⊎_elim (λ (e : part work (128 * j) 32 ≡ f j). e) (λ (t : Taken slots 0 j). absurd (let y : ⊥ = omega (arith, t.below) in y)) o;
          };
    }

pub digests-more : (work work' work'' : Bytes) (slots : List ℕ) (count l : ℕ) (ds : Bytes) → length ds ≡ 256 → Members work slots count → l < count
    → Putting work work' slots count l ds → work'' ≡ written work' (128 * get_or slots l 0) (part ds (32 * l) 32) → Putting work work'' slots count (l + 1) ds
digests-more work work' work'' slots count l ds size m h p e =
    let i = get_or slots l 0 in
    let d = part ds (32 * l) 32 in
    let long : length d ≡ 32 = length_part ds (32 * l) 32 (omega (arith, m.few)) in
    let room : 128 * i + 128 ≤ length work' = omega (arith, (m.each l h).room, p.put.kept.size) in
    record {
      few = omega arith;
      put =
          record {
            kept = kept_then incoming_column work work' work'' p.put.kept (rw e (put_kept work' i d long room));
            right = λ f a j o.
                ⊎_elim
                (λ (q : j ≡ i). rw (e, q) (put_here work' i d long room ∙ a l (omega arith)))
                (λ (z : j ≡ i → ⊥).
                rw e (put_apart work' i d long room j z)
                ∙ p.put.right f (λ k q. a k (omega arith)) j
                (⊎_elim (λ (s : part work (128 * j) 32 ≡ f j). inl s) (λ (t : Taken slots (l + 1) j). inr (earlier j z t)) o))
                (equal_or_not j i);
          };
    }
  where
    earlier : (j : ℕ) → (j ≡ get_or slots l 0 → ⊥) → Taken slots (l + 1) j → Taken slots l j
    earlier j z t =
        ⊎_elim
        (λ (e : t.lane ≡ l). absurd (z (sym t.here ∙ ap (λ (k : ℕ). get_or slots k 0) e)))
        (λ (b : t.lane < l). record { lane = t.lane; below = b; here = t.here })
        (last_or_before t.lane l t.below)

pub digests-all : (work work' : Bytes) (slots : List ℕ) (count l : ℕ) (ds : Bytes) → count ≤ l → Putting work work' slots count l ds
    → DigestsPut work work' slots count ds
digests-all work work' slots count l ds h p = subst (λ (k : ℕ). DigestsPut work work' slots k ds) (let e : l ≡ count = omega (arith, p.few) in e) p.put
