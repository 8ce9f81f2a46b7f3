-- A list of records T against the true versions G: a record and a version with the same name and path digest have the same links, or two
-- strings collide. Assumes nothing.
use mathlib.Core.Path.{◌≡◌, sym, ap, ◌∙◌, subst}
use mathlib.Core.Logic.{◌⊎◌, inl, inr}
use Prim.Native.Nat.{ℕ, ◌^◌, ◌<◌}
use native.Mathlib.Decide.{dec_lt}
use native.Mathlib.Omega.{arith}
use mathlib.Core.List.Memᴰ
use mathlib.Core.List.{List, []}
use lib.ListN.{length, get_or}
use Rattle.model.specs.Numbers.{Bytes, entity_width, time_width, kind_width, digest_width, H}
use Rattle.model.specs.Graph.{InEdge, VersionNode, node_at, no_version}
use Rattle.model.specs.Digest.{type_width, Link, link, incoming_links, incoming_digests, outgoing_digests}
use Rattle.model.specs.Question.{Way, backward, forward}
use Rattle.model.specs.CheckRows.{path_digests}
use Rattle.model.specs.Exact.{Collision, Exactly}
use Rattle.model.proofs.Strings.{H-length, bytes_discrete}
use Rattle.model.proofs.Lists.{◌among◌, Up, in_map, of_map, place_in, up-places, in_place, up-rising, map_ext}
use Rattle.model.proofs.Digests.{LinkFits, AllLinksFit, Down, links-of, path-string, digest-right, path_string_inj, outs_in, of-outs}
use Rattle.model.specs.Trace.{edges_inside, node_inside, induced_subgraph}

-- ---- a collision, or the true string

pub settle : {B C : List Bytes} (x y : Bytes) → x among B → y among C → H y ≡ H x → (y ≡ x) ⊎ Collision B C
settle {B} {C} x y mx my e = go (bytes_discrete y x)
  where
    go : Dec (y ≡ x) → (y ≡ x) ⊎ Collision B C
    go (yes p) = inl p
    go (no n) = inr (record { x = x; y = y; x_built = mx; y_checked = my; differ = λ q. n (sym q); one_hash = sym e })

pub collision_into : {B C D : List Bytes} → ((y : Bytes) → y among C → y among D) → Collision B C → Collision B D
collision_into f c = record { x = c.x; y = c.y; x_built = c.x_built; y_checked = f c.y c.y_checked; differ = c.differ; one_hash = c.one_hash }

-- ---- what holds of a well-formed graph's versions and of the records that the check reads

pub record Regular (ns : List VersionNode) : Type 0 where
  pub down : Down ns
  pub entities_fit : (j : ℕ) → j < length ns → (node_at ns j).entity < 256 ^ entity_width
  pub times_fit : (j : ℕ) → j < length ns → (node_at ns j).time < 256 ^ time_width
  pub types_fit : (j : ℕ) → j < length ns → (e : InEdge) → e among (node_at ns j).in_edges → e.type < 256 ^ type_width
  pub kinds_fit : (j : ℕ) → j < length ns → (e : InEdge) → e among (node_at ns j).in_edges → e.kind < 256 ^ kind_width
  pub types_rise : (j : ℕ) → j < length ns → Up (λ (e : InEdge). e.type) (node_at ns j).in_edges
  pub times_rise : (i j : ℕ) → i < j → j < length ns → (node_at ns i).time < (node_at ns j).time

-- times tell versions apart
pub one_time : (ns : List VersionNode) → Regular ns → (i j : ℕ) → i < length ns → j < length ns → (node_at ns i).time ≡ (node_at ns j).time → i ≡ j
one_time ns s i j hi hj e = go (dec_lt i j) (dec_lt j i)
  where
    go : Dec (i < j) → Dec (j < i) → i ≡ j
    go (yes p) q = absurd (let r = s.times_rise i j p hj in omega arith)
    go (no p) (yes q) = absurd (let r = s.times_rise j i q hi in omega arith)
    go (no p) (no q) = omega arith

-- times tell their order
pub by_time : (ns : List VersionNode) → Regular ns → (i j : ℕ) → i < length ns → j < length ns → (node_at ns i).time < (node_at ns j).time → i < j
by_time ns s i j hi hj e = go (dec_lt i j) (dec_lt j i)
  where
    go : Dec (i < j) → Dec (j < i) → i < j
    go (yes p) q = p
    go (no p) (yes q) = absurd (let r = s.times_rise j i q hi in omega arith)
    go (no p) (no q) = absurd (let r : i ≡ j = omega arith in let t = ap (λ (k : ℕ). (node_at ns k).time) r in omega arith)

pub digest_wide : (way : Way) (ns : List VersionNode) → Regular ns → (i : ℕ) → i < length ns → length (get_or (path_digests way ns) i []) ≡ digest_width
digest_wide way ns s i h = ap length (digest-right way ns s.down i h) ∙ H-length (path-string way ns i)

pub links_fit : (way : Way) (ns : List VersionNode) → Regular ns → (i : ℕ) → i < length ns → AllLinksFit (links-of way ns i)
unfolding links-of incoming_links path_digests
links_fit backward ns s i h l m =
    let r = of_map (λ (e : InEdge). link e (node_at ns e.start) (node_at ns i) (get_or (incoming_digests ns) e.start [])) (node_at ns i).in_edges m in
    let e = r.0 in
    let b = s.down i h e r.1 in
    let c : e.start < length ns = omega arith in
    subst LinkFits (sym r.2)
    (record {
      type-fits = s.types_fit i h e r.1;
      kind_fits = s.kinds_fit i h e r.1;
      start_entity-fits = s.entities_fit e.start c;
      start_time-fits = s.times_fit e.start c;
      end_entity-fits = s.entities_fit i h;
      end_time-fits = s.times_fit i h;
      digest_wide = digest_wide backward ns s e.start c;
    })
links_fit forward ns s i h l m =
    let r = of-outs ns i l m in
    let j = r.0 in
    let e = r.1 in
    subst LinkFits (sym r.5)
    (record {
      type-fits = s.types_fit j r.2 e r.3;
      kind_fits = s.kinds_fit j r.2 e r.3;
      start_entity-fits = s.entities_fit i h;
      start_time-fits = s.times_fit i h;
      end_entity-fits = s.entities_fit j r.2;
      end_time-fits = s.times_fit j r.2;
      digest_wide = digest_wide forward ns s j r.2;
    })

-- ---- a record and a version that match

pub record Matches (way : Way) (T G : List VersionNode) (i j : ℕ) : Type 0 where
  pub i_in : i < length T
  pub j_in : j < length G
  pub entity-is : (node_at T i).entity ≡ (node_at G j).entity
  pub time-is : (node_at T i).time ≡ (node_at G j).time
  pub digest-is : get_or (path_digests way T) i [] ≡ get_or (path_digests way G) j []

-- two edges that say the same, and whose far ends match
pub record SameEdge (way : Way) (T G : List VersionNode) (e f : InEdge) (i j : ℕ) : Type 0 where
  pub type-is : e.type ≡ f.type
  pub kind-is : e.kind ≡ f.kind
  pub far : Matches way T G i j

-- record i is version j, with a path to or from the found version, and the same links
pub record Entry (way : Way) (T G : List VersionNode) (P : ℕ → Type 0) (i j : ℕ) : Type 0 where
  pub matched : Matches way T G i j
  pub on-path : P j
  pub links : links-of way T i ≡ links-of way G j

module _ (way : Way) (T G : List VersionNode) (r_T : Regular T) (r_G : Regular G) where
  -- matching records have the same links, or two strings collide
  pub same-links : {B C : List Bytes} (i j : ℕ) → path-string way G j among B → path-string way T i among C → Matches way T G i j
      → (links-of way T i ≡ links-of way G j) ⊎ Collision B C
  same-links {B} {C} i j mb mc m =
      go
      (settle (path-string way G j) (path-string way T i) mb mc
      (sym (digest-right way T r_T.down i m.i_in) ∙ m.digest-is ∙ digest-right way G r_G.down j m.j_in))
    where
      go : (path-string way T i ≡ path-string way G j) ⊎ Collision B C → (links-of way T i ≡ links-of way G j) ⊎ Collision B C
      go (inl p) = inl (path_string_inj way T G i j (links_fit way T r_T i m.i_in) (links_fit way G r_G j m.j_in) p)
      go (inr c) = inr c

  pub enter : {B C : List Bytes} (P : ℕ → Type 0) → ((j : ℕ) → j < length G → path-string way G j among B) → ((i : ℕ) → i < length T → path-string way T i among C)
      → (i j : ℕ) → Matches way T G i j → P j → Collision B C ⊎ ((j : ℕ) × Entry way T G P i j)
  enter {B} {C} P built checked i j m p = go (same-links i j (built j m.j_in) (checked i m.i_in) m)
    where
      go : (links-of way T i ≡ links-of way G j) ⊎ Collision B C → Collision B C ⊎ ((j : ℕ) × Entry way T G P i j)
      go (inl e) = inr (j, record { matched = m; on-path = p; links = e })
      go (inr c) = inl c

-- ---- records that are all versions: fs are the versions' places

module _ (way : Way) (T G : List VersionNode) (r_T : Regular T) (r_G : Regular G) {P : ℕ → Type 0}
    (fs : List ℕ) (len : length fs ≡ length T) (entries : (i : ℕ) → i < length T → Entry way T G P i (get_or fs i 0))
  where
    -- a version that matches record i is the one at fs
    pub is_it : (i j : ℕ) → Matches way T G i j → get_or fs i 0 ≡ j
    is_it i j m =
        let r = (entries i m.i_in).matched in
        one_time G r_G (get_or fs i 0) j r.j_in m.j_in (sym r.time-is ∙ m.time-is)

    pub places-up : Up (λ (k : ℕ). k) fs
    places-up =
        up-places fs
        (λ i j h k.
        let a = (entries i (omega arith)).matched in
        let b = (entries j (omega arith)).matched in
        let t = r_T.times_rise i j h (omega arith) in
        by_time G r_G (get_or fs i 0) (get_or fs j 0) a.j_in b.j_in (omega (arith, a.time-is, b.time-is)))

    pub in_places : (i : ℕ) → i < length T → (j : ℕ) → get_or fs i 0 ≡ j → j among fs
    in_places i h j e = Memᴰ.cast (sym e) (place_in fs i 0 (omega arith))

    -- if every version with a path is among them, they are exactly these
    pub exactly_places : ((j : ℕ) → P j → j among fs) → Exactly P fs
    exactly_places closed =
        record {
          rising = up-rising places-up;
          these = λ i. (λ m. let r = in_place m 0 in subst P r.2 (entries r.0 (omega (arith, r.1))).on-path, closed i);
        }

    -- if each record's edges are those of its version that start inside, the records are the subgraph
    pub induced_places : ((i : ℕ) → i < length T → (node_at T i).in_edges ≡ edges_inside fs (node_at G (get_or fs i 0)).in_edges) → T ≡ induced_subgraph G fs
    unfolding induced_subgraph node_inside
    induced_places edges =
        map_ext (node_inside G fs) no_version 0 T fs len
        (λ i h. let m = (entries i h).matched in λ z. record { entity = m.entity-is z; time = m.time-is z; in_edges = edges i h z })

-- ---- edges across

flip : {way : Way} {T G : List VersionNode} {e f : InEdge} {i j : ℕ} → SameEdge way T G e f i j → SameEdge way G T f e j i
flip s =
    record {
      type-is = sym s.type-is;
      kind-is = sym s.kind-is;
      far = record {
        i_in = s.far.j_in;
        j_in = s.far.i_in;
        entity-is = sym s.far.entity-is;
        time-is = sym s.far.time-is;
        digest-is = sym s.far.digest-is;
      };
    }

module _ (T G : List VersionNode) (r_T : Regular T) (r_G : Regular G) where
  -- an edge into record i, by the equality of the links: the edge into version j, and the starts match
  pub in_across : (i j : ℕ) → i < length T → j < length G → links-of backward T i ≡ links-of backward G j → (e : InEdge) → e among (node_at T i).in_edges
      → (f : InEdge) × (f among (node_at G j).in_edges) × SameEdge backward T G e f e.start f.start
  unfolding links-of incoming_links path_digests
  in_across i j hi hj eq e m =
      let l_T : InEdge → Link = λ (e : InEdge). link e (node_at T e.start) (node_at T i) (get_or (incoming_digests T) e.start []) in
      let l_G : InEdge → Link = λ (f : InEdge). link f (node_at G f.start) (node_at G j) (get_or (incoming_digests G) f.start []) in
      let r = of_map l_G (node_at G j).in_edges (subst (λ (ls : List Link). l_T e among ls) eq (in_map l_T m)) in
      let f = r.0 in
      let b = r_T.down i hi e m in
      let c = r_G.down j hj f r.1 in (
        f,
        r.1,
        record {
          type-is = ap (λ (l : Link). l.edge.type) r.2;
          kind-is = ap (λ (l : Link). l.edge.kind) r.2;
          far = record {
            i_in = omega arith;
            j_in = omega arith;
            entity-is = ap (λ (l : Link). l.edge.start_entity) r.2;
            time-is = ap (λ (l : Link). l.edge.start_time) r.2;
            digest-is = ap (λ (l : Link). l.digest) r.2;
          };
        },
      )

  -- an edge from record i to record k: an edge from version j, and the ends match
  pub out_across : (i j : ℕ) → links-of forward T i ≡ links-of forward G j → (k : ℕ) → k < length T → (e : InEdge) → e among (node_at T k).in_edges → e.start ≡ i
      → (q : ℕ) × (f : InEdge) × (f among (node_at G q).in_edges) × (f.start ≡ j) × SameEdge forward T G e f k q
  unfolding path_digests outgoing_digests
  out_across i j eq k hk e m s =
      let l = link e (node_at T e.start) (node_at T k) (get_or (outgoing_digests T) k []) in
      let m' : l among links-of forward T i = subst (λ (z : ℕ). l among links-of forward T z) s (outs_in T r_T.down k hk e m) in
      let r = of-outs G j l (subst (λ (ls : List Link). l among ls) eq m') in (
        r.0,
        r.1,
        r.3,
        r.4,
        record {
          type-is = ap (λ (l : Link). l.edge.type) r.5;
          kind-is = ap (λ (l : Link). l.edge.kind) r.5;
          far = record {
            i_in = hk;
            j_in = r.2;
            entity-is = ap (λ (l : Link). l.edge.end_entity) r.5;
            time-is = ap (λ (l : Link). l.edge.end_time) r.5;
            digest-is = ap (λ (l : Link). l.digest) r.5;
          };
        },
      )

-- and the other way round: an edge into or out of version j
module _ (T G : List VersionNode) (r_T : Regular T) (r_G : Regular G) where
  pub in_back : (i j : ℕ) → i < length T → j < length G → links-of backward T i ≡ links-of backward G j → (f : InEdge) → f among (node_at G j).in_edges
      → (e : InEdge) × (e among (node_at T i).in_edges) × SameEdge backward T G e f e.start f.start
  in_back i j hi hj eq f m = let r = in_across G T r_G r_T j i hj hi (sym eq) f m in (r.0, r.1, flip r.2)

  pub out_back : (i j : ℕ) → links-of forward T i ≡ links-of forward G j → (q : ℕ) → q < length G → (f : InEdge) → f among (node_at G q).in_edges → f.start ≡ j
      → (k : ℕ) × (e : InEdge) × (e among (node_at T k).in_edges) × (e.start ≡ i) × SameEdge forward T G e f k q
  out_back i j eq q hq f m s = let r = out_across G T r_G r_T j i (sym eq) q hq f m s in (r.0, r.1, r.2, r.3, flip r.4)
