-- Row 22: which records no later one refers to, by marks put from the last record to the first. Assumes nothing.
use mathlib.Core.Path.{◌≡◌, refl, sym, ap, ap₂, ◌∙◌, subst}
use mathlib.Core.Bool.{Bool, true, false, cond, ◌||◌, or_comm}
use mathlib.Core.Option.{Option, none, some}
use mathlib.Core.List.{List, [], ◌∷◌}
use Prim.Native.Nat.{ℕ, suc, ◌+◌, ◌-◌, ◌*◌, ◌≤◌, ◌<◌}
use native.Mathlib.Omega.{arith}
use lib.ListN.{length, drop, drop_of_length-le}
use lib.Seq.{drop-cons}
use Rattle.std.specs.Prelude.{None, Some}
use Rattle.std.specs.Prelude as std
use Rattle.model.specs.Numbers.{Bytes}
use Rattle.model.specs.Graph.{VersionNode, node_at, no_version}
use Rattle.model.specs.Question.{Way, backward, forward}
use Rattle.model.specs.Trace.{refers}
use Rattle.model.specs.CheckRows.{referred_to, first_unreferenced, unreferenced, is_none}
use Rattle.question.specs.declared.Way.{Way as Declared}
use Rattle.question.specs.declared.Way.TheVariants.{Backward, Forward}
use Rattle.question.specs.Ways.{way_of}
use Rattle.graph.specs.Table.{node_in, nodes_in, Kept, Ready}
use Rattle.graph.specs.Links.{Starts}
use Rattle.graph.proofs.Slots.{kept-none, kept_then}
use Rattle.graph.proofs.Nodes.{length-nodes, nodes-kept, at_node, starts}
use Rattle.marks.specs.Marks.{mark_column, is_marked, Unmarked, StartsMarked}
use Rattle.checker.specs.Runs.{place_of, Lowest}

-- ---- marks

-- the records from the i-th on are taken: which of those before have a mark, and the lowest so far
pub record Referring (work work' : Bytes) (n i : ℕ) (lowest : std.Option ℕ) : Type 0 where
  pub below : i < n
  pub kept : Kept mark_column work work'
  pub marks : (j : ℕ) → j < i → is_marked work' j ≡ referred_to j (drop i (nodes_in work n))
  pub lowest_is : lowest ≡ place_of (first_unreferenced i (drop i (nodes_in work n)))

module _ (work : Bytes) (n : ℕ) where
  from : (i : ℕ) → i < n → drop i (nodes_in work n) ≡ node_at (nodes_in work n) i ∷ drop (suc i) (nodes_in work n)
  from i h = drop-cons (nodes_in work n) i no_version (omega (arith, length-nodes work n))

  beyond : (i : ℕ) → n ≤ i → drop i (nodes_in work n) ≡ []
  beyond i h = drop_of_length-le (nodes_in work n) {i = i} (omega (arith, length-nodes work n))

  -- one record more: what has a mark then
  marks_more : (w1 w2 : Bytes) (i : ℕ) → i < n → Kept mark_column work w1 → StartsMarked w1 w2 i → (j : ℕ)
      → is_marked w1 j ≡ referred_to j (drop (suc i) (nodes_in work n)) → is_marked w2 j ≡ referred_to j (drop i (nodes_in work n))
  unfolding referred_to
  marks_more w1 w2 i h k s j e =
      s.is j
      ∙ or_comm (is_marked w1 j) (refers j (node_in w1 i).in_edges)
      ∙ ap₂ (λ (x : VersionNode) (b : Bool). refers j x.in_edges || b) (at_node mark_column work w1 k tt n i h) e
      ∙ sym (ap (referred_to j) (from i h))

  place-cond : (b : Bool) (o : Option ℕ) (i : ℕ) → cond b (place_of o) (Some i) ≡ place_of (cond b o (some i))
  place-cond true o i = refl
  place-cond false o i = refl

  lowest_more : (i : ℕ) → suc i < n
      → first_unreferenced i (drop i (nodes_in work n))
      ≡ cond (referred_to i (drop (suc i) (nodes_in work n))) (first_unreferenced (suc i) (drop (suc i) (nodes_in work n))) (some i)
  unfolding first_unreferenced
  lowest_more i h =
      let ns = nodes_in work n in
      ap (first_unreferenced i) (from i (omega arith) ∙ ap (λ (l : List VersionNode). node_at ns i ∷ l) (from (suc i) h))
      ∙ sym (ap (λ (l : List VersionNode). cond (referred_to i l) (first_unreferenced (suc i) l) (some i)) (from (suc i) h))

  step : (w1 w2 : Bytes) (i : ℕ) (lowest low : std.Option ℕ) → Referring work w1 n (suc i) lowest → low ≡ cond (is_marked w1 i) lowest (Some i) → StartsMarked w1 w2 i → Referring work w2 n i low
  step w1 w2 i lowest low r e s =
      let h : suc i < n = r.below in
      let g : i < n = omega arith in
      record {
        below = g;
        kept = kept_then mark_column work w1 w2 r.kept s.kept;
        marks = λ j l. marks_more w1 w2 i g r.kept s j (r.marks j (omega arith));
        lowest_is =
            e ∙ ap₂ (λ (b : Bool) (x : std.Option ℕ). cond b x (Some i)) (r.marks i (omega arith)) r.lowest_is
            ∙ place-cond (referred_to i (drop (suc i) (nodes_in work n))) (first_unreferenced (suc i) (drop (suc i) (nodes_in work n))) i
            ∙ ap place_of (sym (lowest_more i h));
      }

  pub cleared-starts : (w1 : Bytes) → Ready work n → 0 < n → Unmarked work w1 n → Starts w1 (n - 1)
  cleared-starts w1 r h c = starts mark_column work w1 c.kept tt n (n - 1) (omega arith) r

  referring_last : (w1 w2 : Bytes) → 0 < n → Unmarked work w1 n → StartsMarked w1 w2 (n - 1) → Referring work w2 n (n - 1) None
  unfolding referred_to first_unreferenced
  referring_last w1 w2 h c s =
      let g : n - 1 < n = omega arith in
      let e : suc (n - 1) ≡ n = omega arith in
      let z : drop (suc (n - 1)) (nodes_in work n) ≡ [] = beyond (suc (n - 1)) (omega arith) in
      record {
        below = g;
        kept = kept_then mark_column work w1 w2 c.kept s.kept;
        marks = λ j l. marks_more w1 w2 (n - 1) g c.kept s j (c.none j (omega arith) ∙ sym (ap (referred_to j) z));
        lowest_is =
            sym
            (ap (λ (l : List VersionNode). place_of (first_unreferenced (n - 1) l))
            (from (n - 1) g ∙ ap (λ (l : List VersionNode). node_at (nodes_in work n) (n - 1) ∷ l) z));
      }

  module _ (w1 : Bytes) (i : ℕ) (lowest : std.Option ℕ) (r : Referring work w1 n i lowest) where
    pub turn-starts : Ready work n → 0 < i → Starts w1 (i - 1)
    turn-starts ready h = starts mark_column work w1 r.kept tt n (i - 1) (omega (arith, r.below)) ready

    pub referring_more : (w2 : Bytes) (low : std.Option ℕ) → 0 < i → low ≡ cond (is_marked w1 (i - 1)) lowest (Some (i - 1)) → StartsMarked w1 w2 (i - 1) → Referring work w2 n (i - 1) low
    referring_more w2 low h e s =
        step w1 w2 (i - 1) lowest low (subst (λ (k : ℕ). Referring work w1 n k lowest) (let z : i ≡ suc (i - 1) = omega arith in z) r) e s

    referring_all : i ≤ 0 → Lowest backward work w1 n lowest
    unfolding unreferenced
    referring_all h =
        let z : i ≡ 0 = omega arith in
        record { kept = r.kept; is = r.lowest_is ∙ ap (λ (k : ℕ). place_of (first_unreferenced k (drop k (nodes_in work n)))) z }

-- the table as the loop finds it: marks apart, it is the one handed in
pub record Begun (work w2 : Bytes) (n : ℕ) : Type 0 where
  pub kept : Kept mark_column work w2
  pub first : Referring w2 w2 n (n - 1) None
  pub ready : Ready w2 n

pub begun : (work w1 w2 : Bytes) (n : ℕ) → Ready work n → 0 < n → Unmarked work w1 n → StartsMarked w1 w2 (n - 1) → Begun work w2 n
begun work w1 w2 n ready h c s =
    let r = referring_last work n w1 w2 h c s in
    let e : nodes_in w2 n ≡ nodes_in work n = nodes-kept mark_column work w2 r.kept tt n in
    record {
      kept = r.kept;
      first =
          record {
            below = r.below;
            kept = kept-none mark_column w2;
            marks = λ j l. r.marks j l ∙ sym (ap (λ (ns : List VersionNode). referred_to j (drop (n - 1) ns)) e);
            lowest_is = r.lowest_is ∙ sym (ap (λ (ns : List VersionNode). place_of (first_unreferenced (n - 1) (drop (n - 1) ns))) e);
          };
      ready = record { room = omega (arith, ready.room, r.kept.size); few = ready.few; ordered = rw e ready.ordered };
    }

pub lowest_all : (work w2 w3 : Bytes) (n i : ℕ) (lowest : std.Option ℕ) → Begun work w2 n → Referring w2 w3 n i lowest → i ≤ 0 → Lowest backward work w3 n lowest
lowest_all work w2 w3 n i lowest b r h =
    let l = referring_all w2 n w3 i lowest r h in
    record {
      kept = kept_then mark_column work w2 w3 b.kept l.kept;
      is = l.is ∙ ap (λ (ns : List VersionNode). place_of (unreferenced backward ns)) (nodes-kept mark_column work w2 b.kept tt n);
    }

-- ---- either way

pub lowest_backward : (way : Declared) (work work' : Bytes) (n : ℕ) (r : std.Option ℕ) → way ≡ Backward → Lowest backward work work' n r → Lowest (way_of way) work work' n r
unfolding way_of
lowest_backward way work work' n r e l = subst (λ (w : Declared). Lowest (way_of w) work work' n r) (sym e) l

pub lowest_forward : (way : Declared) (work : Bytes) (n : ℕ) → way ≡ Forward → Lowest (way_of way) work work n None
unfolding way_of unreferenced
lowest_forward way work n e =
    subst (λ (w : Declared). Lowest (way_of w) work work n None) (sym e) (record { kept = kept-none mark_column work; is = refl })

-- ---- what the place says

Below : Option ℕ → ℕ → Type 0
Below none m = Unit {0}
Below (some k) m = k < m

first_below : (i m : ℕ) (ns : List VersionNode) → i + length ns ≤ m → Below (first_unreferenced i ns) m
unfolding first_unreferenced Below
first_below i m [] h = tt
first_below i m (x ∷ []) h = tt
first_below i m (x ∷ y ∷ ns) h =
    go (referred_to i (y ∷ ns)) (first_unreferenced (suc i) (y ∷ ns)) (first_below (suc i) m (y ∷ ns) (let z : suc i + suc (length ns) ≤ m = omega arith in z)) (omega arith)
  where
    go : (b : Bool) (o : Option ℕ) → Below o m → i < m → Below (cond b o (some i)) m
    go true o p q = p
    go false o p q = q

module _ (way : Way) (work : Bytes) (n : ℕ) where
  inside : Below (unreferenced way (nodes_in work n)) n
  unfolding unreferenced Below
  inside = go way
    where
      go : (w : Way) → Below (unreferenced w (nodes_in work n)) n
      go backward = first_below 0 n (nodes_in work n) (let z : 0 + length (nodes_in work n) ≤ n = omega (arith, length-nodes work n) in z)
      go forward = tt

  pub there : (i : ℕ) → Some i ≡ place_of (unreferenced way (nodes_in work n)) → unreferenced way (nodes_in work n) ≡ some i
  there i = go (unreferenced way (nodes_in work n))
    where
      go : (o : Option ℕ) → Some i ≡ place_of o → o ≡ some i
      go none q = cc
      go (some k) q = cc

  pub below : (i : ℕ) → Some i ≡ place_of (unreferenced way (nodes_in work n)) → i < n
  unfolding Below
  below i e = subst (λ (o : Option ℕ). Below o n) (there i e) inside

  pub nowhere : None ≡ place_of (unreferenced way (nodes_in work n)) → is_none (unreferenced way (nodes_in work n)) ≡ true
  nowhere = go (unreferenced way (nodes_in work n))
    where
      go : (o : Option ℕ) → None ≡ place_of o → is_none o ≡ true
      go none q = refl
      go (some k) q = cc
