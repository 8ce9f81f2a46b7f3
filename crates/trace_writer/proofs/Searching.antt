-- The search over the slots: falling for the versions that reach v, rising for those that it reaches. Assumes nothing.
use mathlib.Core.Path.{◌≡◌, refl, sym, ap, ap₂, ◌∙◌, subst}
use mathlib.Core.Bool.{Bool, true, false, cond, ◌&&◌, ◌||◌, or-false, or_comm, or_assoc, and-false}
use mathlib.Core.List.Memᴰ
use mathlib.Core.List.{List, [], ◌∷◌, ◌++◌}
use mathlib.Core.Logic.{◌⊎◌, inl, inr}
use Prim.Native.Nat.{ℕ, suc, ◌+◌, ◌-◌, ◌*◌, ◌≤◌, ◌<◌}
use native.Mathlib.Decide.{ℕ_discrete}
use native.Mathlib.Numerals.{add-one}
use native.Mathlib.Omega.{arith}
use borrow.Author.Tests.{eq-eqb, ne_eqb}
use lib.Dec.{T, eqb}
use lib.ListN.{length, drop, drop_of_length-le}
use lib.Seq.{drop-cons}
use Rattle.model.specs.Numbers.{Bytes, elem}
use Rattle.model.specs.Graph.{VersionNode, node_at, no_version}
use Rattle.model.specs.Question as question
use Rattle.model.specs.Question.{backward, forward, trace_of}
use Rattle.model.specs.Trace.{refers, referred, add_ancestors, ancestors, starts_in, add_descendants, descendants, trace_versions}
use Rattle.model.specs.Exact.{Exactly, Reached}
use Rattle.model.proofs.Lists.{◌among◌, rising-up, in_elem}
use Rattle.model.proofs.Paths.{path-from, path_to}
use Rattle.model.proofs.Search.{refers_in, search_exact_down}
use Rattle.question.specs.declared.Way.{Way}
use Rattle.question.specs.declared.Way.TheVariants.{Backward, Forward}
use Rattle.question.specs.Ways.{way_of}
use Rattle.graph.specs.Table.{node_in, nodes_in, Ready, Columns, outside, Kept}
use Rattle.graph.specs.Links.{Starts}
use Rattle.graph.proofs.Slots.{kept-none, kept_then}
use Rattle.graph.proofs.Nodes.{length-nodes, node_at_nodes, node_kept, nodes-kept, starts}
use Rattle.marks.specs.Marks.{mark_column, is_marked, MarkSet, StartsMarked}
use Rattle.trace_writer.specs.Marks.{starts_inside, OnlyMarked, Spread, MarksDone}
use Rattle.trace_writer.proofs.Marking.{no_T, members-are}
use Rattle.trace_writer.proofs.Edges.{starts_agree}

-- ---- a table that is ready

pub ready-kept : (cs : List Columns) (work work' : Bytes) (n : ℕ) → T (outside cs 64 17) → Kept cs work work' → Ready work n → Ready work' n
ready-kept cs work work' n t k r =
    record { room = omega (arith, r.room, k.size); few = r.few; ordered = rw (nodes-kept cs work work' k t n) r.ordered }

pub starts_at : (work : Bytes) (n i : ℕ) → i < n → Ready work n → Starts work i
starts_at work n i h r = starts [] work work (kept-none [] work) tt n i h r

-- no edge of slot i starts from i on
refers-later : (work : Bytes) (i j : ℕ) → Starts work i → i ≤ j → refers j (node_in work i).in_edges ≡ false
refers-later work i j s h =
    no_T (refers j (node_in work i).in_edges) (λ t. let r = refers_in j (node_in work i).in_edges t in let b = s.before r.0 r.1 in let e = r.2 in omega arith)

elem-none : (j : ℕ) (ms : List ℕ) → ((m : ℕ) → m among ms → m ≡ j → ⊥) → elem j ms ≡ false
elem-none j ms h = no_T (elem j ms) (λ t. h j (in_elem j ms t) refl)

-- ---- marks that say which versions are in the trace

reached-there : (way : question.Way) (ns : List VersionNode) (v : ℕ) (ms : List ℕ) → Exactly (Reached ns v (trace_of way)) ms → (x : ℕ) → x among ms → x < length ns
reached-there backward ns v ms e x m = path-from ((e.these x).0 m)
reached-there forward ns v ms e x m = path_to ((e.these x).0 m)

marks_done : (way : question.Way) (work work' : Bytes) (n v : ℕ) (ms : List ℕ) → Kept mark_column work work' → Ready work' n → v < n
    → ms ≡ trace_versions way (nodes_in work' n) v → ((j : ℕ) → j < n → is_marked work' j ≡ elem j ms) → MarksDone way work work' n v
marks_done way work work' n v ms kept ready h e marks =
    let ns = nodes_in work' n in
    let exact = search_exact_down ns ready.ordered.down way v (omega (arith, length-nodes work' n)) in
    record {
      kept = kept;
      versions =
          members-are work' n (trace_versions way ns v) (rising-up exact.rising)
          (λ x m. omega (arith, reached-there way ns v (trace_versions way ns v) exact x m, length-nodes work' n)) (λ j q. marks j q ∙ ap (elem j) e)
          ∙ ap (λ (l : List VersionNode). trace_versions way l v) (nodes-kept mark_column work work' kept tt n);
    }

-- ---- backward

-- the slots from i on are done: ms are those of them that reach v, and below i just the starts of their edges are marked
pub record BackTurn (w0 work : Bytes) (n v i : ℕ) : Type 0 where
  pub ready : Ready work n
  pub here : v < n
  pub few : i ≤ v
  pub kept : Kept mark_column w0 work
  pub ms : List ℕ
  pub rest : add_ancestors (nodes_in work n) i ms ≡ ancestors (nodes_in work n) v
  pub high : (m : ℕ) → m among ms → i ≤ m
  pub done : (j : ℕ) → i ≤ j → j < n → is_marked work j ≡ elem j ms
  pub due : (j : ℕ) → j < i → is_marked work j ≡ referred (nodes_in work n) j ms

only_marked_ready : (work w1 : Bytes) (n v : ℕ) → Ready work n → OnlyMarked work w1 n v → Ready w1 n
only_marked_ready work w1 n v r b = ready-kept mark_column work w1 n tt b.kept r

pub only_marked_starts : (work w1 : Bytes) (n v : ℕ) → Ready work n → v < n → OnlyMarked work w1 n v → Starts w1 v
only_marked_starts work w1 n v r h b = starts_at w1 n v h (only_marked_ready work w1 n v r b)

pub back_none : (work w1 w2 : Bytes) (n v : ℕ) → Ready work n → v < n → OnlyMarked work w1 n v → StartsMarked w1 w2 v → BackTurn w2 w2 n v v
unfolding ancestors referred
back_none work w1 w2 n v r h b s =
    record {
      ready = ready-kept mark_column w1 w2 n tt s.kept r1;
      here = h;
      few = omega arith;
      kept = kept-none mark_column w2;
      ms = v ∷ [];
      rest = refl;
      high = λ m k. let e = Memᴰ.eq_of_singleton k in omega arith;
      done = λ j k l. s.is j ∙ ap₂ (λ (x y : Bool). x || y) (b.only j l) (refers-later w1 v j (starts_at w1 n v h r1) k);
      due = λ j k.
          s.is j
          ∙ ap (λ (x : Bool). x || refers j (node_in w1 v).in_edges) (b.only j (omega arith) ∙ ne_eqb j v (λ e. omega arith))
          ∙ ap (λ (x : VersionNode). refers j x.in_edges) (sym (node_kept mark_column w1 w2 s.kept tt v) ∙ sym (node_at_nodes w2 n v h))
          ∙ sym (or-false (refers j (node_at (nodes_in w2 n) v).in_edges));
    }
  where
    r1 : Ready w1 n
    r1 = only_marked_ready work w1 n v r b

absorb : (b c : Bool) → (b || (b && c)) ≡ b
absorb true c = refl
absorb false c = refl

module _ (w0 w w' : Bytes) (n v k : ℕ) (t : BackTurn w0 w n v (suc k)) (s : Spread w w' k) where
  ns : List VersionNode
  ns = nodes_in w n

  b : Bool
  unfolding ns
  b = referred ns k t.ms

  more_ms : List ℕ
  unfolding b
  more_ms = cond b (k ∷ t.ms) t.ms

  inside : k < n
  inside = omega (arith, t.few, t.here)

  st : Starts w k
  st = starts_at w n k inside t.ready

  is_b : is_marked w k ≡ b
  unfolding b ns
  is_b = t.due k (omega arith)

  same_nodes : nodes_in w' n ≡ ns
  unfolding ns
  same_nodes = nodes-kept mark_column w w' s.kept tt n

  high' : (m : ℕ) → m among more_ms → k ≤ m
  unfolding more_ms
  high' m = go b
    where
      cons : (m ≡ k) ⊎ (m among t.ms) → k ≤ m
      cons (inl e) = omega arith
      cons (inr q) = let r = t.high m q in omega arith

      go : (c : Bool) → m among cond c (k ∷ t.ms) t.ms → k ≤ m
      go true q = cons (Memᴰ.cases_cons q)
      go false q = let r = t.high m q in omega arith

  done' : (j : ℕ) → k ≤ j → j < n → is_marked w' j ≡ elem j more_ms
  unfolding more_ms
  done' j h l = go (ℕ_discrete j k)
    where
      at_k : (c : Bool) → c ≡ elem k (cond c (k ∷ t.ms) t.ms)
      at_k true = sym (ap (λ (x : Bool). x || elem k t.ms) (eq-eqb k k refl))
      at_k false = sym (elem-none k t.ms (λ m q e. let r = t.high m q in omega arith))

      above_k : (c : Bool) → (j ≡ k → ⊥) → elem j t.ms ≡ elem j (cond c (k ∷ t.ms) t.ms)
      above_k true d = sym (ap (λ (x : Bool). x || elem j t.ms) (ne_eqb j k d))
      above_k false d = refl

      go : Dec (j ≡ k) → is_marked w' j ≡ elem j (cond b (k ∷ t.ms) t.ms)
      go (yes e) =
          ap (is_marked w') e ∙ s.is k ∙ absorb (is_marked w k) (refers k (node_in w k).in_edges) ∙ is_b ∙ at_k b
          ∙ ap (λ (x : ℕ). elem x (cond b (k ∷ t.ms) t.ms)) (sym e)
      go (no d) =
          s.is j
          ∙ ap (λ (x : Bool). is_marked w j || (is_marked w k && x)) (refers-later w k j st h)
          ∙ ap (λ (x : Bool). is_marked w j || x) (and-false (is_marked w k)) ∙ or-false (is_marked w j)
          ∙ t.done j (omega arith) l ∙ above_k b d

  due' : (j : ℕ) → j < k → is_marked w' j ≡ referred ns j more_ms
  unfolding more_ms ns referred
  due' j h =
      s.is j
      ∙ ap₂ (λ (x y : Bool). x || (y && refers j (node_in w k).in_edges)) (t.due j (omega arith)) is_b
      ∙ ap (λ (x : VersionNode). referred (nodes_in w n) j t.ms || (b && refers j x.in_edges)) (sym (node_at_nodes w n k inside))
      ∙ go b
    where
      go : (c : Bool) → (referred (nodes_in w n) j t.ms || (c && refers j (node_at (nodes_in w n) k).in_edges)) ≡ referred (nodes_in w n) j (cond c (k ∷ t.ms) t.ms)
      go true = or_comm (referred (nodes_in w n) j t.ms) (refers j (node_at (nodes_in w n) k).in_edges)
      go false = or-false (referred (nodes_in w n) j t.ms)

  back_step : BackTurn w0 w' n v k
  unfolding more_ms b ns add_ancestors
  back_step =
      record {
        ready = ready-kept mark_column w w' n tt s.kept t.ready;
        here = t.here;
        few = omega (arith, t.few);
        kept = kept_then mark_column w0 w w' t.kept s.kept;
        ms = more_ms;
        rest = subst (λ (l : List VersionNode). add_ancestors l k more_ms ≡ ancestors l v) (sym same_nodes) t.rest;
        high = high';
        done = done';
        due = λ j h. subst (λ (l : List VersionNode). is_marked w' j ≡ referred l j more_ms) (sym same_nodes) (due' j h);
      }

pub back_starts : (w0 w : Bytes) (n v i : ℕ) → BackTurn w0 w n v i → 0 < i → Starts w (i - 1)
back_starts w0 w n v i t h = starts_at w n (i - 1) (omega (arith, t.few, t.here)) t.ready

pub back_more : (w0 w w' : Bytes) (n v i : ℕ) → BackTurn w0 w n v i → 0 < i → Spread w w' (i - 1) → BackTurn w0 w' n v (i - 1)
back_more w0 w w' n v i t h s = back_step w0 w w' n v (i - 1) (subst (BackTurn w0 w n v) (let z : i ≡ suc (i - 1) = omega arith in z) t) s

pub back_all : (work w1 w0 w : Bytes) (n v i : ℕ) → OnlyMarked work w1 n v → StartsMarked w1 w0 v → i ≤ 0 → BackTurn w0 w n v i → MarksDone backward work w n v
unfolding add_ancestors trace_versions
back_all work w1 w0 w n v i b s h t =
    let e : i ≡ 0 = omega arith in
    marks_done backward work w n v t.ms
    (kept_then mark_column work w1 w b.kept (kept_then mark_column w1 w0 w s.kept t.kept)) t.ready t.here
    (subst (λ (x : ℕ). add_ancestors (nodes_in w n) x t.ms ≡ ancestors (nodes_in w n) v) e t.rest) (λ j q. t.done j (omega arith) q)

-- ---- forward

-- the slots below i are done: ms are those of them that v reaches
pub record ForTurn (w0 work : Bytes) (n v i : ℕ) : Type 0 where
  pub ready : Ready work n
  pub few : i ≤ n
  pub low : v < i
  pub kept : Kept mark_column w0 work
  pub ms : List ℕ
  pub rest : add_descendants i ms (drop i (nodes_in work n)) ≡ descendants (nodes_in work n) v
  pub below : (m : ℕ) → m among ms → m < i
  pub done : (j : ℕ) → j < i → is_marked work j ≡ elem j ms

pub for_none : (work w1 : Bytes) (n v : ℕ) → Ready work n → v < n → OnlyMarked work w1 n v → ForTurn w1 w1 n v (v + 1)
unfolding descendants
for_none work w1 n v r h b =
    record {
      ready = only_marked_ready work w1 n v r b;
      few = omega arith;
      low = omega arith;
      kept = kept-none mark_column w1;
      ms = v ∷ [];
      rest = ap (λ (k : ℕ). add_descendants k (v ∷ []) (drop k (nodes_in w1 n))) (add-one v);
      below = λ m k. let e = Memᴰ.eq_of_singleton k in omega arith;
      done = λ j k. b.only j (omega arith) ∙ sym (or-false (eqb j v));
    }

pub for_starts : (w0 w : Bytes) (n v i : ℕ) → ForTurn w0 w n v i → i < n → Starts w i
for_starts w0 w n v i t h = starts_at w n i h t.ready

pub for_room : (w0 w : Bytes) (n v i : ℕ) → ForTurn w0 w n v i → i < n → 128 * i + 128 ≤ length w
for_room w0 w n v i t h = (for_starts w0 w n v i t h).room

elem_snoc : (j i : ℕ) (l : List ℕ) → elem j (l ++ (i ∷ [])) ≡ (elem j l || eqb j i)
elem_snoc j i [] = or-false (eqb j i)
elem_snoc j i (y ∷ l) = ap (λ (x : Bool). eqb j y || x) (elem_snoc j i l) ∙ sym (or_assoc (eqb j y) (elem j l) (eqb j i))

module _ (w0 w w' : Bytes) (n v i : ℕ) (r : Bool) (t : ForTurn w0 w n v i) (h : i < n) (er : r ≡ starts_inside w i) (m : MarkSet w w' i r) where
  reaches : Bool
  reaches = starts_in t.ms (node_at (nodes_in w n) i).in_edges

  reaches_is : r ≡ reaches
  unfolding reaches
  reaches_is = er ∙ starts_agree w i (starts_at w n i h t.ready) t.ms t.done ∙ ap (λ (x : VersionNode). starts_in t.ms x.in_edges) (sym (node_at_nodes w n i h))

  with_i : Bool → List ℕ
  with_i c = cond c (t.ms ++ (i ∷ [])) t.ms

  below' : (q : ℕ) (c : Bool) → q among with_i c → q < i + 1
  unfolding with_i
  below' q true k = snoc (Memᴰ.append_cases t.ms k)
    where
      snoc : (q among t.ms) ⊎ (q among i ∷ []) → q < i + 1
      snoc (inl k) = let z = t.below q k in omega arith
      snoc (inr k) = let e = Memᴰ.eq_of_singleton k in omega arith
  below' q false k = let z = t.below q k in omega arith

  not_before : elem i t.ms ≡ false
  not_before = elem-none i t.ms (λ q k e. let z = t.below q k in omega arith)

  at_i : (c : Bool) → c ≡ elem i (with_i c)
  unfolding with_i
  at_i true = sym (elem_snoc i i t.ms ∙ ap₂ (λ (x y : Bool). x || y) not_before (eq-eqb i i refl))
  at_i false = sym not_before

  below-i : (j : ℕ) → (j ≡ i → ⊥) → (c : Bool) → elem j t.ms ≡ elem j (with_i c)
  unfolding with_i
  below-i j d true = sym (elem_snoc j i t.ms ∙ ap (λ (x : Bool). elem j t.ms || x) (ne_eqb j i d) ∙ or-false (elem j t.ms))
  below-i j d false = refl

  done'' : (j : ℕ) → j < i + 1 → Dec (j ≡ i) → is_marked w' j ≡ elem j (with_i reaches)
  done'' j k (yes e) = ap (is_marked w') e ∙ m.here ∙ reaches_is ∙ at_i reaches ∙ ap (λ (x : ℕ). elem x (with_i reaches)) (sym e)
  done'' j k (no d) = m.others j d ∙ t.done j (omega arith) ∙ below-i j d reaches

  rest' : add_descendants (i + 1) (with_i reaches) (drop (i + 1) (nodes_in w n)) ≡ descendants (nodes_in w n) v
  unfolding add_descendants with_i reaches
  rest' =
      ap (λ (k : ℕ). add_descendants k (with_i reaches) (drop k (nodes_in w n))) (add-one i)
      ∙ sym (ap (add_descendants i t.ms) (drop-cons (nodes_in w n) i no_version (omega (arith, length-nodes w n)))) ∙ t.rest

  pub for_more : ForTurn w0 w' n v (i + 1)
  for_more =
      record {
        ready = ready-kept mark_column w w' n tt m.kept t.ready;
        few = omega arith;
        low = omega (arith, t.low);
        kept = kept_then mark_column w0 w w' t.kept m.kept;
        ms = with_i reaches;
        rest =
            subst (λ (l : List VersionNode). add_descendants (i + 1) (with_i reaches) (drop (i + 1) l) ≡ descendants l v)
            (sym (nodes-kept mark_column w w' m.kept tt n)) rest';
        below = λ q k. below' q reaches k;
        done = λ j k. done'' j k (ℕ_discrete j i);
      }

pub for_all : (work w0 w : Bytes) (n v i : ℕ) → OnlyMarked work w0 n v → n ≤ i → ForTurn w0 w n v i → MarksDone forward work w n v
unfolding add_descendants trace_versions
for_all work w0 w n v i b h t =
    marks_done forward work w n v t.ms (kept_then mark_column work w0 w b.kept t.kept) t.ready (omega (arith, t.low, t.few))
    (sym (ap (add_descendants i t.ms) (drop_of_length-le (nodes_in w n) {i = i} (omega (arith, length-nodes w n)))) ∙ t.rest)
    (λ j q. t.done j (omega arith))

-- ---- either way

pub done-backward : (way : Way) (work work' : Bytes) (n v : ℕ) → way ≡ Backward → MarksDone backward work work' n v → MarksDone (way_of way) work work' n v
unfolding way_of
done-backward way work work' n v e d = subst (λ (x : Way). MarksDone (way_of x) work work' n v) (sym e) d

pub done-forward : (way : Way) (work work' : Bytes) (n v : ℕ) → way ≡ Forward → MarksDone forward work work' n v → MarksDone (way_of way) work work' n v
unfolding way_of
done-forward way work work' n v e d = subst (λ (x : Way). MarksDone (way_of x) work work' n v) (sym e) d
