-- The edges of a slot by the places of their starts: whether they start inside. Assumes nothing.
use mathlib.Core.Path.{◌≡◌, refl, sym, ap, ap₂, ◌∙◌}
use mathlib.Core.Bool.{Bool, true, false, cond, ◌&&◌, ◌||◌, or-false, or_assoc}
use mathlib.Core.List.{List, [], ◌∷◌, ◌++◌}
use Prim.Native.Nat.{ℕ, ◌+◌, ◌*◌, ◌≤◌, ◌<◌}
use native.Mathlib.Omega.{arith}
use borrow.Author.Tests.{ltb-true, lt-ltb, le-ltb}
use lib.Dec.{ltb}
use lib.ListN.{length}
use Rattle.fields.specs.Fields.{field}
use Rattle.model.specs.Numbers.{Bytes, elem}
use Rattle.model.specs.Graph.{InEdge, temporal, dependency}
use Rattle.model.specs.Trace.{refers, starts_in, edges_inside}
use Rattle.model.proofs.Inside.{moved}
use Rattle.graph.specs.Table.{absent, present, node_in}
use Rattle.graph.specs.Links.{Starts}
use Rattle.graph.proofs.Slots.{kept-none}
use Rattle.graph.proofs.Strings.{in_edges-are, previous-before, source-before}
use Rattle.marks.specs.Marks.{mark_column, is_marked, Stands, StartsMarked}
use Rattle.trace_writer.specs.Marks.{is_inside, starts_inside, Spread}

abbrev previous_in : Bytes → ℕ → ℕ
previous_in work i = field 2 work (128 * i + 76)

abbrev source_in : Bytes → ℕ → ℕ
source_in work i = field 2 work (128 * i + 78)

-- ---- the starts of a marked slot's edges

pub spread_marked : (work work' : Bytes) (i : ℕ) (b : Bool) → b ≡ is_marked work i → b ≡ true → StartsMarked work work' i → Spread work work' i
spread_marked work work' i b e t m =
    record { kept = m.kept; is = λ j. m.is j ∙ ap (λ (x : Bool). is_marked work j || (x && refers j (node_in work i).in_edges)) (sym t ∙ e) }

pub spread_none : (work : Bytes) (i : ℕ) (b : Bool) → b ≡ is_marked work i → b ≡ false → Spread work work i
spread_none work i b e f =
    record {
      kept = kept-none mark_column work;
      is = λ j. sym (or-false (is_marked work j)) ∙ ap (λ (x : Bool). is_marked work j || (x && refers j (node_in work i).in_edges)) (sym f ∙ e);
    }

-- ---- whether an edge starts inside

pub inside-absent : (work : Bytes) (p : ℕ) → p ≡ 65535 → false ≡ is_inside work p
unfolding is_inside absent
inside-absent work p e = ap (λ (b : Bool). b && is_marked work p) (sym (le-ltb p 65535 (omega arith)))

pub inside-present : (work : Bytes) (p : ℕ) (b : Bool) → p < absent → b ≡ is_marked work p → b ≡ is_inside work p
unfolding is_inside
inside-present work p b h e = e ∙ ap (λ (x : Bool). x && is_marked work p) (sym (lt-ltb p absent h))

pub and_left : (b c : Bool) → (b && c) ≡ true → b ≡ true
and_left true c e = refl
and_left false c e = e

pub inside-there : (work : Bytes) (p : ℕ) (b : Bool) → Stands work p → b ≡ is_inside work p → b ≡ true → 128 * p + 128 ≤ length work
unfolding is_inside
inside-there work p b s e t = s.room (ltb-true p absent (and_left (ltb p absent) (is_marked work p) (sym e ∙ t)))

module _ (work : Bytes) (i p s : ℕ) (b c : Bool) (ep : p ≡ field 2 work (128 * i + 76)) (eb : b ≡ is_inside work p) where
  pub previous-inside : b ≡ true → true ≡ starts_inside work i
  unfolding starts_inside
  previous-inside t = ap (λ (x : Bool). x || is_inside work (source_in work i)) (sym t ∙ eb ∙ ap (is_inside work) ep)

  pub source-inside : b ≡ false → s ≡ field 2 work (128 * i + 78) → c ≡ is_inside work s → c ≡ starts_inside work i
  unfolding starts_inside
  source-inside f es ec = ec ∙ ap (is_inside work) es ∙ ap (λ (x : Bool). x || is_inside work (source_in work i)) (sym f ∙ eb ∙ ap (is_inside work) ep)

-- ---- the same by the versions of a trace

starts-append : (ms : List ℕ) (a b : List InEdge) → starts_in ms (a ++ b) ≡ (starts_in ms a || starts_in ms b)
unfolding starts_in
starts-append ms [] b = refl
starts-append ms (e ∷ a) b = ap (λ (x : Bool). elem e.start ms || x) (starts-append ms a b) ∙ sym (or_assoc (elem e.start ms) (starts_in ms a) (starts_in ms b))

starts-present : (ms : List ℕ) (p : ℕ) (e : InEdge) → e.start ≡ p → starts_in ms (present p e) ≡ (ltb p absent && elem p ms)
unfolding starts_in present
starts-present ms p e h = go (ltb p absent)
  where
    go : (b : Bool) → starts_in ms (cond b (e ∷ []) []) ≡ (b && elem p ms)
    go true = or-false (elem e.start ms) ∙ ap (λ (x : ℕ). elem x ms) h
    go false = refl

edges-append : (ms : List ℕ) (a b : List InEdge) → edges_inside ms (a ++ b) ≡ edges_inside ms a ++ edges_inside ms b
unfolding edges_inside
edges-append ms [] b = refl
edges-append ms (e ∷ a) b = go (elem e.start ms) (edges-append ms a b)
  where
    go : (c : Bool) → edges_inside ms (a ++ b) ≡ edges_inside ms a ++ edges_inside ms b
        → cond c (moved ms e ∷ edges_inside ms (a ++ b)) (edges_inside ms (a ++ b)) ≡ cond c (moved ms e ∷ edges_inside ms a) (edges_inside ms a) ++ edges_inside ms b
    go true h = ap {B = List InEdge} (λ (l : List InEdge). moved ms e ∷ l) h
    go false h = h

edges-present : (ms : List ℕ) (p : ℕ) (e : InEdge) → e.start ≡ p → edges_inside ms (present p e) ≡ cond (ltb p absent && elem p ms) (moved ms e ∷ []) []
unfolding edges_inside present
edges-present ms p e h = go (ltb p absent)
  where
    go : (b : Bool) → edges_inside ms (cond b (e ∷ []) []) ≡ cond (b && elem p ms) (moved ms e ∷ []) []
    go true = ap (λ (x : ℕ). cond (elem x ms) (moved ms e ∷ []) []) h
    go false = refl

-- marks below i say what is in ms
module _ (work : Bytes) (i : ℕ) (st : Starts work i) (ms : List ℕ) (agree : (j : ℕ) → j < i → is_marked work j ≡ elem j ms) where
  inside-elem : (p : ℕ) → (p < absent → p < i) → is_inside work p ≡ (ltb p absent && elem p ms)
  unfolding is_inside
  inside-elem p h = go (ltb p absent) (λ e. agree p (h (ltb-true p absent e)))
    where
      go : (b : Bool) → (b ≡ true → is_marked work p ≡ elem p ms) → (b && is_marked work p) ≡ (b && elem p ms)
      go true f = f refl
      go false f = refl

  previous-elem : is_inside work (previous_in work i) ≡ (ltb (previous_in work i) absent && elem (previous_in work i) ms)
  previous-elem = inside-elem (previous_in work i) (previous-before work i st (previous_in work i) refl)

  source-elem : is_inside work (source_in work i) ≡ (ltb (source_in work i) absent && elem (source_in work i) ms)
  source-elem = inside-elem (source_in work i) (source-before work i st (source_in work i) refl)

  pub starts_agree : starts_inside work i ≡ starts_in ms (node_in work i).in_edges
  unfolding starts_inside
  starts_agree =
      let p = previous_in work i in
      let s = source_in work i in
      let k = field 1 work (128 * i + 80) in
      ap₂ (λ (x y : Bool). x || y) (previous-elem ∙ sym (starts-present ms p (temporal p) refl)) (source-elem ∙ sym (starts-present ms s (dependency k s) refl))
      ∙ sym (starts-append ms (present p (temporal p)) (present s (dependency k s)))
      ∙ ap (starts_in ms) (sym (in_edges-are work i p s k refl refl refl))

  pub edges_agree : edges_inside ms (node_in work i).in_edges
      ≡ cond (is_inside work (previous_in work i)) (moved ms (temporal (previous_in work i)) ∷ []) []
      ++ cond (is_inside work (source_in work i)) (moved ms (dependency (field 1 work (128 * i + 80)) (source_in work i)) ∷ []) []
  edges_agree =
      let p = previous_in work i in
      let s = source_in work i in
      let k = field 1 work (128 * i + 80) in
      ap (edges_inside ms) (in_edges-are work i p s k refl refl refl)
      ∙ edges-append ms (present p (temporal p)) (present s (dependency k s))
      ∙ ap₂ (λ (x y : List InEdge). x ++ y)
      (edges-present ms p (temporal p) refl ∙ ap (λ (b : Bool). cond b (moved ms (temporal p) ∷ []) []) (sym previous-elem))
      (edges-present ms s (dependency k s) refl ∙ ap (λ (b : Bool). cond b (moved ms (dependency k s) ∷ []) []) (sym source-elem))
