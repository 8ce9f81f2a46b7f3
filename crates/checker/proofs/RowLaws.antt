-- Rows 18 and 22 to 24, which follow the records of a trace. Assumes nothing.
use mathlib.Core.Path.{◌≡◌, refl, sym, ap, ap₂, ◌∙◌, subst}
use mathlib.Core.Bool.{Bool, true, false, ◌&&◌}
use mathlib.Core.Option.{Option}
use mathlib.Core.List.{List, [], ◌∷◌}
use Prim.Native.Nat.{ℕ, ◌+◌, ◌-◌, ◌*◌, ◌≤◌, ◌<◌}
use native.Mathlib.Nat.{zero-add}
use native.Mathlib.Omega.{arith}
use borrow.Author.Tests.{eq-eqb, ne_eqb}
use lib.Dec.{eqb, lit≤}
use lib.ListN.{length, get_or, take, drop, length-drop}
use Rattle.std.specs.Prelude.{None, Some, Ok, Err}
use Rattle.std.specs.Prelude as std
use Rattle.outcome.specs.declared.Row.TheVariants.{BytesAfterEnd, RecordUnreferenced, FoundRecordDiffers, PathDigestDiffers}
use Rattle.outcome.specs.declared.Refusal.{Refusal}
use Rattle.outcome.specs.Outcomes.{told}
use Rattle.proof_reader.proofs.Strings.{Made, refused-as}
use Rattle.fields.specs.Fields.{part, field, equal}
use Rattle.model.specs.Numbers.{Bytes}
use Rattle.model.specs.Result.{Result, ◌>>=◌, need}
use Rattle.model.specs.Graph.{VersionNode, node_at}
use Rattle.model.specs.Accumulator.{Leaf}
use Rattle.model.specs.Question as question
use Rattle.model.specs.CheckRows.{leaf_in, unreferenced, is_none, the_place, found_position, path_digests, leaf_digest, trace_rows}
use Rattle.question.specs.declared.Way.{Way}
use Rattle.question.specs.declared.Way.TheVariants.{Backward, Forward}
use Rattle.question.specs.Ways.{way_of}
use Rattle.graph.specs.Table.{version, node_in, nodes_in, columns, Ready, IncomingDone, OutgoingDone}
use Rattle.graph.proofs.Slots.{field-within}
use Rattle.graph.proofs.Nodes.{length-nodes, node_at_nodes, nodes-kept, map_counting_at, map_counting_same}
use Rattle.proof_reader.proofs.Strings.{incoming_at, outgoing_at}
use Rattle.trace_reader.specs.Records.{place_in, places_in}
use Rattle.checker.specs.Runs.{leaf_in_answer, Lowest, digest_column, PathDigests, trace_in, found_rows}
use Rattle.checker.proofs.Referring.{there, below, nowhere}

-- ---- of either way

pub column_B : (way : Way) → way ≡ Backward → 0 ≡ digest_column (way_of way)
unfolding way_of digest_column
column_B way e = sym (ap (λ (w : Way). digest_column (way_of w)) e)

pub column_F : (way : Way) → way ≡ Forward → 32 ≡ digest_column (way_of way)
unfolding way_of digest_column
column_F way e = sym (ap (λ (w : Way). digest_column (way_of w)) e)

pub found-last : (way : Way) (n : ℕ) → 0 < n → way ≡ Backward → (n - 1 < n) × ((ns : List VersionNode) → length ns ≡ n → n - 1 ≡ found_position (way_of way) ns)
unfolding way_of found_position
found-last way n h e = (omega arith, λ ns l. sym (ap (λ (w : Way). found_position (way_of w) ns) e ∙ ap (λ (k : ℕ). k - 1) l))

pub found_first : (way : Way) (n : ℕ) → 0 < n → way ≡ Forward → (0 < n) × ((ns : List VersionNode) → length ns ≡ n → 0 ≡ found_position (way_of way) ns)
unfolding way_of found_position
found_first way n h e = (h, λ ns l. sym (ap (λ (w : Way). found_position (way_of w) ns) e))

pub digests_B : (way : Way) (work work' : Bytes) (n : ℕ) → way ≡ Backward → IncomingDone work work' n → PathDigests (way_of way) work work' n
unfolding way_of digest_column path_digests
digests_B way work work' n e d =
    subst (λ (w : Way). PathDigests (way_of w) work work' n) (sym e) (record { size = d.kept.size; digests = d.digests })

pub digests_F : (way : Way) (work work' : Bytes) (n : ℕ) → way ≡ Forward → OutgoingDone work work' n → PathDigests (way_of way) work work' n
unfolding way_of digest_column path_digests
digests_F way work work' n e d =
    subst (λ (w : Way). PathDigests (way_of w) work work' n) (sym e) (record { size = d.kept.size; digests = d.digests })

-- ---- places

pub record_place_is : (work : Bytes) (start i x : ℕ) → x ≡ field 4 work (128 * i + 96) → start + x ≡ place_in work start i
unfolding place_in
record_place_is work start i x e = ap (λ (k : ℕ). start + k) e

place_at : (work : Bytes) (start n i : ℕ) → i < n → get_or (places_in work start n) i 0 ≡ place_in work start i
unfolding places_in
place_at work start n i h = map_counting_at (place_in work start) 0 n i 0 h ∙ ap (place_in work start) (zero-add i)

-- ---- 23

module _ (work answer : Bytes) (i leaf e : ℕ) (le : e ≡ (leaf_in (take 77 (drop leaf answer))).entity) (a : ℕ) (x : Bool) (ea : a ≡ field 4 work (128 * i + 72))
    (h : x ≡ eqb a e)
  where
    entity_test : eqb (node_in work i).entity (leaf_in_answer answer leaf).entity ≡ x
    unfolding leaf_in_answer node_in version
    entity_test = ap₂ eqb (sym ea) (sym le) ∙ sym h

    abbrev Same : Bool → Type 0
    Same y = y ≡ (eqb (node_in work i).entity (leaf_in_answer answer leaf).entity && eqb (node_in work i).time (leaf_in_answer answer leaf).time)

    pub entity-same : x ≡ true → (t b : ℕ) (y : Bool) → t ≡ (leaf_in (take 77 (drop leaf answer))).time → b ≡ field 8 work (128 * i + 64) → y ≡ eqb b t → Same y
    unfolding leaf_in_answer node_in version
    entity-same s t b y lt eb g =
        g ∙ ap₂ eqb eb lt ∙ sym (ap (λ (z : Bool). z && eqb (node_in work i).time (leaf_in_answer answer leaf).time) (entity_test ∙ s))

    pub entity_differs : x ≡ false → Same x
    entity_differs d = d ∙ sym (ap (λ (z : Bool). z && eqb (node_in work i).time (leaf_in_answer answer leaf).time) (entity_test ∙ d))

-- ---- 24

leaf_digest_at : (way : question.Way) (answer : Bytes) (leaf : ℕ) → leaf + 77 ≤ length answer
    → leaf_digest way (leaf_in_answer answer leaf) ≡ part answer (leaf + 13 + digest_column way) 32
unfolding leaf_digest leaf_in_answer digest_column
leaf_digest_at question.backward answer leaf h = incoming_at answer leaf h ∙ ap (λ (k : ℕ). part answer k 32) (let z : leaf + 13 ≡ leaf + 13 + 0 = omega arith in z)
leaf_digest_at question.forward answer leaf h = outgoing_at answer leaf h ∙ ap (λ (k : ℕ). part answer k 32) (let z : leaf + 45 ≡ leaf + 13 + 32 = omega arith in z)

column_small : (way : question.Way) → digest_column way ≤ 32
unfolding digest_column
column_small question.backward = omega arith
column_small question.forward = omega arith

pub column_few : (way : question.Way) (column : ℕ) → column ≡ digest_column way → column ≤ 32
column_few way column e = omega (arith, column_small way)

module _ (way : question.Way) (work work' answer : Bytes) (n i leaf column : ℕ) (e : column ≡ digest_column way) where
  pub digest-same : PathDigests way work work' n → i < n → leaf + 77 ≤ length answer → (r : Bool)
      → r ≡ equal (part work' (128 * i + column) 32) (part answer (leaf + 13 + column) 32)
      → r ≡ equal (get_or (path_digests way (nodes_in work n)) i []) (leaf_digest way (leaf_in_answer answer leaf))
  digest-same d h g r q =
      q
      ∙ ap₂ equal
      (ap (λ (c : ℕ). part work' (128 * i + c) 32) e ∙ d.digests.stored i h)
      (ap (λ (c : ℕ). part answer (leaf + 13 + c) 32) e ∙ sym (leaf_digest_at way answer leaf g))

-- ---- 23 and 24

module _ (way : Way) (l : Leaf) (work : Bytes) (start n i position : ℕ) (h : i < n)
    (f : (ns : List VersionNode) → length ns ≡ n → i ≡ found_position (way_of way) ns) (p : position ≡ place_in work start i)
    (v : Bool) (ev : v ≡ (eqb (node_in work i).entity l.entity && eqb (node_in work i).time l.time)) where
  at_place : (a b : Bool) (k q : ℕ) → Result (Unit {0})
  at_place a b k q = need a 23 q >>= λ _. need b 24 q

  by_tests : found_rows (way_of way) l (nodes_in work n) (places_in work start n)
      ≡ at_place v (equal (get_or (path_digests (way_of way) (nodes_in work n)) i []) (leaf_digest (way_of way) l)) i position
  unfolding found_rows at_place
  by_tests =
      let ns = nodes_in work n in
      let g : found_position (way_of way) ns ≡ i = sym (f ns (length-nodes work n)) in
      let q : get_or (places_in work start n) i 0 ≡ position = place_at work start n i h ∙ sym p in
      ap (λ (k : ℕ). need (eqb (node_at ns k).entity l.entity && eqb (node_at ns k).time l.time) 23 (get_or (places_in work start n) k 0) >>= λ _.
      need (equal (get_or (path_digests (way_of way) ns) k []) (leaf_digest (way_of way) l)) 24 (get_or (places_in work start n) k 0)) g
      ∙ ap₂ (λ (b : Bool) (k : ℕ). need b 23 k >>= λ _. need (equal (get_or (path_digests (way_of way) ns) i []) (leaf_digest (way_of way) l)) 24 k)
      (ap (λ (x : VersionNode). eqb x.entity l.entity && eqb x.time l.time) (node_at_nodes work n i h) ∙ sym ev) q

  abbrev Here : std.Result (Unit {0}) Refusal → Type 0
  Here r = told r ≡ found_rows (way_of way) l (nodes_in work n) (places_in work start n)

  pub version_differs : v ≡ false → (r : Refusal) → Made FoundRecordDiffers position r → Here (Err r)
  unfolding at_place need ◌>>=◌
  version_differs z r made =
      sym
      (refused-as _ FoundRecordDiffers position
      (by_tests ∙ ap (λ (b : Bool). at_place b (equal (get_or (path_digests (way_of way) (nodes_in work n)) i []) (leaf_digest (way_of way) l)) i position) z) r made)

  module _ (d : Bool) (ed : d ≡ equal (get_or (path_digests (way_of way) (nodes_in work n)) i []) (leaf_digest (way_of way) l)) (y : v ≡ true) where
    pub digest_differs : d ≡ false → (r : Refusal) → Made PathDigestDiffers position r → Here (Err r)
    unfolding at_place need ◌>>=◌
    digest_differs z r made = sym (refused-as _ PathDigestDiffers position (by_tests ∙ ap₂ (λ (a b : Bool). at_place a b i position) y (sym ed ∙ z)) r made)

    pub both_pass : d ≡ true → Here (Ok tt)
    unfolding at_place need ◌>>=◌
    both_pass z = sym (by_tests ∙ ap₂ (λ (a b : Bool). at_place a b i position) y (sym ed ∙ z))

-- ---- 18 and 22 before them

module _ (way : question.Way) (l : Leaf) (answer work : Bytes) (start n end : ℕ) (inside : end ≤ length answer) where
  rows_from : (t u : Bool) (q : ℕ) → Result (Unit {0})
  rows_from t u q = need t 18 end >>= λ _. need u 22 q >>= λ _. found_rows way l (nodes_in work n) (places_in work start n)

  idle : Option ℕ
  idle = unreferenced way (nodes_in work n)

  rows_are : trace_rows way l (trace_in answer work start n end)
      ≡ rows_from (eqb (length (drop end answer)) 0) (is_none idle) (the_place (places_in work start n) idle)
  unfolding trace_rows trace_in rows_from found_rows idle
  rows_are = refl

  abbrev Rows : std.Result (Unit {0}) Refusal → Type 0
  Rows r = told r ≡ trace_rows way l (trace_in answer work start n end)

  pub more_bytes : end < length answer → (r : Refusal) → Made BytesAfterEnd end r → Rows (Err r)
  unfolding rows_from need ◌>>=◌
  more_bytes h r made =
      sym
      (refused-as _ BytesAfterEnd end
      (rows_are
      ∙ ap (λ (b : Bool). rows_from b (is_none idle) (the_place (places_in work start n) idle))
      (ne_eqb (length (drop end answer)) 0 (λ e. omega (arith, length-drop end answer, e))))
      r made)

  module _ (h : length answer ≤ end) (w1 : Bytes) (low : std.Option ℕ) (lowest : Lowest way work w1 n low) where
    at_end : eqb (length (drop end answer)) 0 ≡ true
    at_end = eq-eqb (length (drop end answer)) 0 (omega (arith, length-drop end answer))

    place_kept : (j : ℕ) → place_in w1 start j ≡ place_in work start j
    unfolding place_in
    place_kept j = ap (λ (k : ℕ). start + k) (field-within (columns 81 82 ∷ []) work w1 j 96 4 96 4 lowest.kept tt (lit≤ tt) (lit≤ tt))

    places-kept : places_in w1 start n ≡ places_in work start n
    unfolding places_in
    places-kept = map_counting_same (place_in w1 start) (place_in work start) 0 n (λ j _ _. place_kept j)

  module _ (h : length answer ≤ end) (w1 : Bytes) where
    pub idle_record : (low : ℕ) → Lowest way work w1 n (Some low) → (position : ℕ) → position ≡ place_in w1 start low
        → (r : Refusal) → Made RecordUnreferenced position r → Rows (Err r)
    unfolding rows_from need ◌>>=◌ idle
    idle_record low lowest position e r made =
        sym
        (refused-as _ RecordUnreferenced position
        (rows_are
        ∙ ap₂ (λ (b : Bool) (o : Option ℕ). rows_from b (is_none o) (the_place (places_in work start n) o)) (at_end h w1 (Some low) lowest) (there way work n low lowest.is)
        ∙ ap (λ (q : ℕ). rows_from true false q) (place_at work start n low (below way work n low lowest.is) ∙ sym (e ∙ place_kept h w1 (Some low) lowest low)))
        r made)

    pub rows_go_on : Lowest way work w1 n None → (r : std.Result (Unit {0}) Refusal) → told r ≡ found_rows way l (nodes_in w1 n) (places_in w1 start n) → Rows r
    unfolding rows_from need ◌>>=◌ idle
    rows_go_on lowest r e =
        e
        ∙ ap₂ (λ (ns : List VersionNode) (ps : List ℕ). found_rows way l ns ps) (nodes-kept (columns 81 82 ∷ []) work w1 lowest.kept tt n) (places-kept h w1 None lowest)
        ∙ sym
        (rows_are
        ∙ ap₂ (λ (t u : Bool). rows_from t u (the_place (places_in work start n) idle)) (at_end h w1 None lowest) (nowhere way work n lowest.is))

module _ (way : question.Way) (work w1 : Bytes) (n : ℕ) (r : Ready work n) where
  pub ready-kept : Lowest way work w1 n None → Ready w1 n
  ready-kept l =
      record { room = omega (arith, r.room, l.kept.size); few = r.few; ordered = rw (nodes-kept (columns 81 82 ∷ []) work w1 l.kept tt n) r.ordered }

  -- the slot of the lowest one is there
  pub lowest-there : (low : ℕ) → Lowest way work w1 n (Some low) → 128 * low + 128 ≤ length w1
  lowest-there low l = omega (arith, r.room, l.kept.size, below way work n low l.is)
