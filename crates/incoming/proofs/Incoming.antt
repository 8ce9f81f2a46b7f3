-- Incoming digests: those of slots without in-edges first, then group by group in rising order. Assumes nothing.
use mathlib.Core.Path.{◌≡◌, refl, sym, ap, ◌∙◌, subst}
use mathlib.Core.Logic.{◌⊎◌, inl, inr, ⊎_elim}
use mathlib.Core.List.Memᴰ
use mathlib.Core.List.{List, [], ◌∷◌, map, Memᴰ}
use Prim.Native.Nat.{ℕ, ◌+◌, ◌*◌, ◌≤◌, ◌<◌}
use native.Mathlib.Nat.{add-zero, eq-or-lt_of_le}
use native.Mathlib.Omega.{arith}
use lib.Dec.{lit≤}
use lib.ListN.{length, get_or, take}
use Rattle.fields.specs.Fields.{encode, part, written}
use Rattle.fields.proofs.Numbers.{le_or_lt}
use Rattle.sha256.specs.Sha256.{sha256}
use Rattle.lanes.specs.Lanes.{digests_of}
use Rattle.lanes.proofs.Messages.{digest_at}
use Rattle.model.specs.Numbers.{Bytes, H}
use Rattle.model.specs.Graph.{InEdge, VersionNode, node_at}
use Rattle.model.specs.Digest.{Link, link, links_string, incoming_string, incoming_links, incoming_digests, incoming_string_of}
use Rattle.model.proofs.Strings.{H-length}
use Rattle.model.proofs.Digests.{incoming-right}
use Rattle.model.proofs.Growth.{map_same}
use Rattle.graph.specs.Table.{node_in, nodes_in, Ready, Columns, columns, Kept, IncomingDone}
use Rattle.graph.proofs.Slots.{digest_copied, kept-none, kept_then, kept-written, slot-here, slot_apart}
use Rattle.graph.proofs.Nodes.{length-nodes, node_at_nodes, node_kept, nodes-kept, ready-starts}
use Rattle.incoming.specs.Links.{in_link, in_links, incoming_of}
use Rattle.incoming.specs.Groups.{in_count, no_in_edges, Entries, EntriesDone, Skipped, Right, Turn, InTurn, Taken, Gathered, StringsPut, DigestsPut}

pub last_or_before : (j i : ℕ) → j < i + 1 → (j ≡ i) ⊎ (j < i)
last_or_before j i h = eq-or-lt_of_le (let y : j ≤ i = omega arith in y)

-- ---- a digest that is put

abbrev pub incoming_column : List Columns
incoming_column = columns 0 32 ∷ []

module _ (work : Bytes) (i : ℕ) (d : Bytes) (e : length d ≡ 32) (room : 128 * i + 128 ≤ length work) where
  pub put_kept : Kept incoming_column work (written work (128 * i) d)
  put_kept =
      subst (λ (a : ℕ). Kept incoming_column work (written work a d)) (add-zero (128 * i)) (kept-written work i 0 d 32 e room (lit≤ tt) 0 32 (lit≤ tt) (lit≤ tt))

  pub put_here : part (written work (128 * i) d) (128 * i) 32 ≡ d
  put_here = subst (λ (a : ℕ). part (written work a d) a 32 ≡ d) (add-zero (128 * i)) (slot-here work i 0 d 32 e room (lit≤ tt))

  pub put_apart : (j : ℕ) → (j ≡ i → ⊥) → part (written work (128 * i) d) (128 * j) 32 ≡ part work (128 * j) 32
  put_apart j z =
      subst (λ (a : ℕ). part (written work (128 * i) d) a 32 ≡ part work a 32) (add-zero (128 * j))
      (subst (λ (a : ℕ). part (written work a d) (128 * j + 0) 32 ≡ part work (128 * j + 0) 32) (add-zero (128 * i))
      (slot_apart work i 0 d 32 e room (lit≤ tt) j 0 32 z (lit≤ tt)))

pub incoming_of-length : (work : Bytes) (i : ℕ) → length (incoming_of work i) ≡ 32
unfolding incoming_of
incoming_of-length work i = H-length (incoming_string (in_links work i))

module _ (work work' : Bytes) (kept : Kept incoming_column work work') where
  count_kept : (j : ℕ) → in_count work' j ≡ in_count work j
  unfolding in_count
  count_kept j = ap (λ (x : VersionNode). length x.in_edges) (node_kept incoming_column work work' kept tt j)

  ready-kept : (n : ℕ) → Ready work n → Ready work' n
  ready-kept n r =
      record {
        room = omega (arith, r.room, kept.size);
        few = r.few;
        ordered = rw (nodes-kept incoming_column work work' kept tt n) r.ordered;
      }

-- ---- slots without in-edges

no_in_edges-length : length no_in_edges ≡ 32
unfolding no_in_edges
no_in_edges-length = H-length (incoming_string [])

no_in_edges-string : 0x49 ∷ 0 ∷ [] ≡ incoming_string []
unfolding incoming_string links_string encode
no_in_edges-string = refl

pub no_in_edges-is : (d : Bytes) → d ≡ sha256 (0x49 ∷ 0 ∷ []) → d ≡ no_in_edges
unfolding no_in_edges H
no_in_edges-is d e = e ∙ ap sha256 no_in_edges-string

no_edges : (work : Bytes) (j : ℕ) → in_count work j ≡ 0 → (node_in work j).in_edges ≡ []
unfolding in_count
no_edges work j z = none (node_in work j).in_edges z
  where
    none : (es : List InEdge) → length es ≡ 0 → es ≡ []
    none [] e = refl
    none (x ∷ es) e = absurd (let y : ⊥ = omega arith in y)

no_in_edges-of : (work : Bytes) (j : ℕ) → in_count work j ≡ 0 → incoming_of work j ≡ no_in_edges
unfolding incoming_of in_links no_in_edges
no_in_edges-of work j z = ap (λ (es : List InEdge). H (incoming_string (map (in_link work j) es))) (no_edges work j z)

module _ (work : Bytes) (i c : ℕ) (ec : c ≡ in_count work i) (before : Entries work i) where
  pub entry-none : (c ≡ 0 → ⊥) → EntriesDone work work (i + 1)
  entry-none z =
      record {
        kept = kept-none incoming_column work;
        entries =
            record {
              each = λ j h e.
                  ⊎_elim (λ (q : j ≡ i). absurd (z (ec ∙ ap (in_count work) (sym q) ∙ e))) (λ (l : j < i). before.each j l e)
                  (last_or_before j i h);
            };
      }

  pub entry_put : (work' d : Bytes) → 128 * i + 128 ≤ length work → d ≡ no_in_edges → work' ≡ written work (128 * i) (part d 0 32)
      → EntriesDone work work' (i + 1)
  entry_put work' d room ed ew =
      let e : work' ≡ written work (128 * i) no_in_edges = digest_copied work work' d no_in_edges (128 * i) no_in_edges-length ed ew in
      let kept : Kept incoming_column work work' = rw e (put_kept work i no_in_edges no_in_edges-length room) in
      record {
        kept = kept;
        entries =
            record {
              each = λ j h z.
                  ⊎_elim
                  (λ (q : j ≡ i). rw (e, q) (put_here work i no_in_edges no_in_edges-length room))
                  (λ (l : j < i).
                  rw e (put_apart work i no_in_edges no_in_edges-length room j (λ q. omega arith)) ∙ before.each j l (sym (count_kept work work' kept j) ∙ z))
                  (last_or_before j i h);
            };
      }

-- the first i of n slots are done
pub record Entering (work work' : Bytes) (n i : ℕ) : Type 0 where
  pub few : i ≤ n
  pub done : EntriesDone work work' i

pub entries_none : (work : Bytes) (n : ℕ) → Entering work work n 0
entries_none work n =
    record {
      few = omega arith;
      done = record { kept = kept-none incoming_column work; entries = record { each = λ j h z. absurd (let y : ⊥ = omega arith in y) } };
    }

pub entries-more : (work work' work'' : Bytes) (n i : ℕ) → i < n → Entering work work' n i → EntriesDone work' work'' (i + 1) → Entering work work'' n (i + 1)
entries-more work work' work'' n i h p q =
    record { few = omega arith; done = record { kept = kept_then incoming_column work work' work'' p.done.kept q.kept; entries = q.entries } }

pub entries-all : (work work' : Bytes) (n i : ℕ) → n ≤ i → Entering work work' n i → EntriesDone work work' n
entries-all work work' n i h p = subst (EntriesDone work work') (let e : i ≡ n = omega (arith, p.few) in e) p.done

pub skipped_none : (work : Bytes) (n from : ℕ) → from ≤ n → Skipped work n from from
skipped_none work n from h = record { on = omega arith; within = h; none = λ j p q. absurd (let y : ⊥ = omega arith in y) }

pub skipped_more : (work : Bytes) (n from i c : ℕ) → i < n → c ≡ in_count work i → c ≡ 0 → Skipped work n from i → Skipped work n from (i + 1)
skipped_more work n from i c h ec z s =
    record {
      on = omega (arith, s.on);
      within = omega arith;
      none = λ j p q.
          ⊎_elim (λ (e : j ≡ i). ap (in_count work) e ∙ sym ec ∙ z) (λ (l : j < i). s.none j p l) (last_or_before j i q);
    }

-- ---- a turn

-- the incoming digest of a slot whose edges all start at slots that hold theirs
module _ (work : Bytes) (n : ℕ) (ready : Ready work n) (j : ℕ) (h : j < n)
    (done : (e : InEdge) → Memᴰ e (node_in work j).in_edges → Right work n e.start) where
  the_node : (i : ℕ) → i < n → node_in work i ≡ node_at (nodes_in work n) i
  the_node i q = sym (node_at_nodes work n i q)

  in_links-are : in_links work j ≡ incoming_links (nodes_in work n) (incoming_digests (nodes_in work n)) (node_at (nodes_in work n) j)
  unfolding in_links in_link incoming_links Right
  in_links-are =
      let ns = nodes_in work n in
      let ds = incoming_digests ns in
      map_same (in_link work j) (λ (e : InEdge). link e (node_at ns e.start) (node_at ns j) (get_or ds e.start [])) (node_in work j).in_edges
      (λ e m.
      let b : e.start < n = omega (arith, (ready-starts work n j ready h).before e m) in
      λ k. link e (the_node e.start b k) (the_node j h k) (done e m k))
      ∙ ap (λ (x : VersionNode). map (λ (e : InEdge). link e (node_at ns e.start) (node_at ns j) (get_or ds e.start [])) x.in_edges) (the_node j h)

  pub right-digest : incoming_of work j ≡ get_or (incoming_digests (nodes_in work n)) j []
  unfolding incoming_of incoming_string_of
  right-digest =
      let ns = nodes_in work n in
      ap (λ (ls : List Link). H (incoming_string ls)) in_links-are ∙ sym (incoming-right ns ready.ordered.down j (omega (arith, length-nodes work n)))

hashed : (work : Bytes) (j : ℕ) → sha256 (incoming_string (in_links work j)) ≡ incoming_of work j
unfolding incoming_of H
hashed work j = refl

right_kept : (work work' : Bytes) (n j : ℕ) → Kept incoming_column work work' → part work' (128 * j) 32 ≡ get_or (incoming_digests (nodes_in work n)) j [] → Right work' n j
unfolding Right
right_kept work work' n j kept e =
    e ∙ ap (λ (ns : List VersionNode). get_or (incoming_digests ns) j []) (sym (nodes-kept incoming_column work work' kept tt n))

-- a group is done
pub group-done : (work work' strings ds : Bytes) (n first : ℕ) (slots : List ℕ) (count edges end : ℕ) → Turn work n first
    → Gathered work n first slots count edges end → StringsPut work slots count strings → take (32 * count) ds ≡ digests_of count strings 118 (2 + 58 * edges)
    → DigestsPut work work' slots count ds → InTurn work work' n end × (first < end)
unfolding Right
group-done work work' strings ds n first slots count edges end turn g s e p = (
  record {
    kept = p.kept;
    turn =
        record {
          ready = ready-kept work work' p.kept n turn.ready;
          few = g.within;
          right = λ j h o.
              right_kept work work' n j p.kept
              (p.right digest agree j
              (⊎_elim
              (λ (l : j < end).
              ⊎_elim
              (λ (q : first ≤ j). ⊎_elim (λ (z : in_count work j ≡ 0). inl (turn.right j h (inr z))) (λ (t : Taken slots count j). inr t) (g.all j q l))
              (λ (q : j < first). inl (turn.right j h (inl q)))
              (le_or_lt first j))
              (λ (z : in_count work' j ≡ 0). inl (turn.right j h (inr (sym (count_kept work work' p.kept j) ∙ z))))
              o));
        };
  },
  g.on,
)
  where
    digest : ℕ → Bytes
    digest j = get_or (incoming_digests (nodes_in work n)) j []

    agree : (l : ℕ) → l < count → part ds (32 * l) 32 ≡ digest (get_or slots l 0)
    agree l h =
        let m = g.each l h in
        digest_at strings 118 (2 + 58 * edges) count ds e l h
        ∙ ap sha256 (ap (λ (x : ℕ). part strings (118 * l) (2 + 58 * x)) (sym m.alike) ∙ s.each l h)
        ∙ hashed work (get_or slots l 0)
        ∙ right-digest work n turn.ready (get_or slots l 0) m.here
        (λ x q. turn.right x.start (omega (arith, m.here, (ready-starts work n (get_or slots l 0) turn.ready m.here).before x q)) (m.starts x q))

-- ---- all turns

turn_on : (work : Bytes) (n from r : ℕ) → Turn work n from → Skipped work n from r → Turn work n r
turn_on work n from r t s =
    record {
      ready = t.ready;
      few = s.within;
      right = λ j h o.
          ⊎_elim
          (λ (l : j < r).
          ⊎_elim (λ (q : from ≤ j). t.right j h (inr (s.none j q l))) (λ (q : j < from). t.right j h (inl q)) (le_or_lt from j))
          (λ (z : in_count work j ≡ 0). t.right j h (inr z))
          o;
    }

right-entry : (work : Bytes) (n j : ℕ) → Ready work n → j < n → in_count work j ≡ 0 → part work (128 * j) 32 ≡ no_in_edges → Right work n j
unfolding Right
right-entry work n j ready h z e =
    e ∙ sym (no_in_edges-of work j z)
    ∙ right-digest work n ready j h (λ x m. absurd (Memᴰ.not-nil (subst (λ (es : List InEdge). Memᴰ x es) (no_edges work j z) m)))

-- the loop, and the lent memory in it
pub record Turning (work work' : Bytes) (n i : ℕ) (strings : Bytes) : Type 0 where
  pub turn : InTurn work work' n i
  pub size : length strings ≡ 944

pub turning_none : (work work' strings : Bytes) (n r : ℕ) → Ready work n → EntriesDone work work' n → Skipped work' n 0 r → length strings ≡ 944
    → Turning work' work' n r strings
turning_none work work' strings n r ready d s size =
    let ready' = ready-kept work work' d.kept n ready in
    record {
      turn =
          record {
            kept = kept-none incoming_column work';
            turn =
                turn_on work' n 0 r
                (record {
                  ready = ready';
                  few = omega arith;
                  right = λ j h o.
                      ⊎_elim (λ (l : j < 0). absurd (let y : ⊥ = omega arith in y)) (λ (z : in_count work' j ≡ 0). right-entry work' n j ready' h z (d.entries.each j h z)) o;
                })
                s;
          };
      size = size;
    }

pub turning_more : (work work' work'' strings strings' : Bytes) (n i end r : ℕ) → Turning work work' n i strings → InTurn work' work'' n end → Skipped work'' n end r
    → length strings' ≡ 944 → Turning work work'' n r strings'
turning_more work work' work'' strings strings' n i end r p q s size =
    record {
      turn = record { kept = kept_then incoming_column work work' work'' p.turn.kept q.kept; turn = turn_on work'' n end r q.turn s };
      size = size;
    }

pub turning_all : (work work' work'' strings : Bytes) (n i : ℕ) → EntriesDone work work' n → n ≤ i → Turning work' work'' n i strings → IncomingDone work work'' n
unfolding Right
turning_all work work' work'' strings n i d h p =
    let kept = kept_then incoming_column work work' work'' d.kept p.turn.kept in
    record {
      digests =
          record {
            stored = λ j q.
                ap (λ (a : ℕ). part work'' a 32) (add-zero (128 * j)) ∙ p.turn.turn.right j q (inl (omega arith))
                ∙ ap (λ (ns : List VersionNode). get_or (incoming_digests ns) j []) (nodes-kept incoming_column work work'' kept tt n);
          };
      kept = kept;
    }
