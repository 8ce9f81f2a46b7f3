-- The records of a trace, one after the other. Assumes nothing.
use mathlib.Core.Path.{◌≡◌, refl, sym, ap, ap₂, ◌∙◌}
use mathlib.Core.List.{List, [], ◌∷◌, ◌++◌, map}
use mathlib.Core.Option.{Option, some}
use Prim.Native.Nat.{ℕ, suc, ◌+◌, ◌-◌, ◌*◌, ◌≤◌, ◌<◌}
use native.Mathlib.Nat.{zero-add}
use native.Mathlib.Numerals.{add-one}
use native.Mathlib.Omega.{arith}
use borrow.Author.Tests.{ne_eqb}
use lib.ListN.{length, get_or, drop}
use lib.Seq.{drop-drop}
use Rattle.fields.proofs.Places.{field-drop}
use Rattle.model.specs.Numbers.{Bytes, counting}
use Rattle.model.specs.Result.{Result, ok, refuse, ◌>>=◌}
use Rattle.model.specs.Graph.{VersionNode}
use Rattle.model.specs.Trace.{letter_width}
use Rattle.model.specs.Question.{Way}
use Rattle.model.specs.CheckRows.{shown_record, read_record, last_shown, read_records}
use Rattle.model.proofs.Outcomes.{bind_eq, bind_refused}
use Rattle.model.proofs.CheckSteps.{records-end, records-step}
use Rattle.model.proofs.TraceReading.{last_shown_snoc}
use Rattle.graph.specs.Table.{nodes_in}
use Rattle.graph.proofs.Nodes.{length-nodes, map_counting_more, map_counting_same, nodes-more, nodes-same}
use Rattle.outcome.specs.declared.Refusal.{Refusal}
use Rattle.outcome.specs.Outcomes.{number_of}
use Rattle.trace_reader.specs.declared.Step.{Step}
use Rattle.trace_reader.specs.Records.{before_of, RecordInSlot, Taken, place_in, places_in, InTable}
use Rattle.trace_reader.proofs.Letters.{width_most}

-- ---- one slot more

module _ (work work' : Bytes) (i : ℕ) (n : VersionNode) (place : ℕ) (put : RecordInSlot work work' i n place) where
  nodes_then : nodes_in work' (i + 1) ≡ nodes_in work i ++ (n ∷ [])
  nodes_then =
      nodes-more work' i
      ∙ ap₂ (λ (a : List VersionNode) (b : VersionNode). a ++ (b ∷ [])) (nodes-same work work' i (λ j q. put.nodes j (λ e. omega arith))) put.node

  places_then : (start at : ℕ) → start + place ≡ at → places_in work' start (i + 1) ≡ places_in work start i ++ (at ∷ [])
  unfolding places_in place_in
  places_then start at h =
      ap (λ (k : ℕ). map (place_in work' start) (counting 0 k)) (add-one i)
      ∙ map_counting_more (place_in work' start) 0 i
      ∙ ap₂ (λ (a : List ℕ) (b : ℕ). a ++ (b ∷ []))
      (map_counting_same (place_in work' start) (place_in work start) 0 i (λ j p q. ap (λ (x : ℕ). start + x) (put.places j (λ e. omega arith))))
      (ap (place_in work' start) (zero-add i) ∙ ap (λ (x : ℕ). start + x) put.placed ∙ h)

-- ---- records read

-- i records of the trace are in the table, and the rest begins at byte `at`
pub record ReadTo (way : Way) (count : ℕ) (answer : Bytes) (start i last : ℕ) (work : Bytes) (at : ℕ) : Type 0 where
  pub rest : read_records way count [] [] (start + 5) (drop (start + 5) answer) ≡ read_records way (count - i) (nodes_in work i) (places_in work start i) at (drop at answer)
  pub before : last_shown (nodes_in work i) ≡ before_of i last
  pub inside : at ≤ length answer
  pub begun : start ≤ at
  pub near : at ≤ start + 5 + 22 * i

pub none_read : (way : Way) (count : ℕ) (answer : Bytes) (start : ℕ) (work : Bytes) → start + 5 ≤ length answer → ReadTo way count answer start 0 0 work (start + 5)
unfolding before_of last_shown nodes_in places_in
none_read way count answer start work h =
    let all : count ≡ count - 0 = omega arith in
    record { rest = ap (λ (k : ℕ). read_records way k [] [] (start + 5) (drop (start + 5) answer)) all; before = refl; inside = h; begun = omega arith; near = omega arith }

module _ (way : Way) (count : ℕ) (answer : Bytes) (start i last : ℕ) (work : Bytes) (at : ℕ) (R : ReadTo way count answer start i last work at) (more : i < count) where
  next : (m : Result VersionNode) → read_record way i (before_of i last) at (drop at answer) ≡ m
      → read_record way (length (nodes_in work i)) (last_shown (nodes_in work i)) at (drop at answer) ≡ m
  next m e = ap₂ (λ (k : ℕ) (b : Option ℕ). read_record way k b at (drop at answer)) (length-nodes work i) R.before ∙ e

  left : count - i ≡ suc (count - (i + 1))
  left = omega arith

  one-step : read_records way count [] [] (start + 5) (drop (start + 5) answer)
      ≡ (read_record way (length (nodes_in work i)) (last_shown (nodes_in work i)) at (drop at answer) >>= λ r.
      read_records way (count - (i + 1)) (nodes_in work i ++ (r ∷ [])) (places_in work start i ++ (at ∷ [])) (at + letter_width (get_or (drop at answer) 0 0)) (drop (letter_width (get_or (drop at answer) 0 0)) (drop at answer)))
  one-step =
      R.rest ∙ ap (λ (k : ℕ). read_records way k (nodes_in work i) (places_in work start i) at (drop at answer)) left
      ∙ records-step way (count - (i + 1)) (nodes_in work i) (places_in work start i) at (drop at answer)

  pub stops-there : (e : Refusal) → read_record way i (before_of i last) at (drop at answer) ≡ refuse (number_of e.row) e.position
      → read_records way count [] [] (start + 5) (drop (start + 5) answer) ≡ refuse (number_of e.row) e.position
  stops-there e h = one-step ∙ bind_refused _ _ (number_of e.row) e.position (next (refuse (number_of e.row) e.position) h)

  module _ (work' : Bytes) (step : Step) (T : Taken way i last answer at work work' (at - start) step) where
    abbrev w : ℕ
    w = step.width

    abbrev t : ℕ
    t = step.time.0

    abbrev n : VersionNode
    n = shown_record T.letter (drop at answer)

    width_is : letter_width (get_or (drop at answer) 0 0) ≡ w
    width_is = ap letter_width (sym T.shown.letter_is) ∙ sym T.width_is

    time-is : n.time ≡ t
    unfolding shown_record
    time-is = field-drop at answer 8 5 ∙ sym T.time_is

    last_is : last_shown (nodes_in work' (i + 1)) ≡ before_of (i + 1) t
    unfolding before_of
    last_is =
        ap last_shown (nodes_then work work' i n (at - start) T.put) ∙ last_shown_snoc (nodes_in work i) n ∙ ap some time-is
        ∙ sym (simp (ne_eqb (i + 1) 0 (λ e. omega arith)))

    pub goes_on : ReadTo way count answer start (i + 1) step.time.0 work' (at + step.width)
    goes_on =
        let from = R.begun in
        let near = R.near in
        record {
          rest =
              one-step
              ∙ bind_eq _ _ n (next (ok n) T.shown.is)
              ∙ ap₂ (λ (a : List VersionNode) (b : List ℕ). read_records way (count - (i + 1)) a b (at + letter_width (get_or (drop at answer) 0 0)) (drop (letter_width (get_or (drop at answer) 0 0)) (drop at answer)))
              (sym (nodes_then work work' i n (at - start) T.put)) (sym (places_then work work' i n (at - start) T.put start at (omega arith)))
              ∙ ap (λ (v : ℕ). read_records way (count - (i + 1)) (nodes_in work' (i + 1)) (places_in work' start (i + 1)) (at + v) (drop v (drop at answer))) width_is
              ∙ ap (read_records way (count - (i + 1)) (nodes_in work' (i + 1)) (places_in work' start (i + 1)) (at + w)) (drop-drop w at answer);
          before = last_is;
          inside = omega (arith, T.shown.inside, T.width_is);
          begun = omega arith;
          near = omega (arith, width_most T.letter, T.width_is);
        }

pub all_read : (way : Way) (count : ℕ) (answer : Bytes) (start i last : ℕ) (work : Bytes) (at : ℕ) → ReadTo way count answer start i last work at → i ≡ count
    → InTable (read_records way count [] [] (start + 5) (drop (start + 5) answer)) answer start count work at
all_read way count answer start i last work at R same =
    let none : count - i ≡ 0 = omega arith in
    record {
      is =
          R.rest
          ∙ ap (λ (k : ℕ). read_records way k (nodes_in work i) (places_in work start i) at (drop at answer)) none
          ∙ records-end way (nodes_in work i) (places_in work start i) at (drop at answer)
          ∙ ap (λ (k : ℕ). ok (record { records = nodes_in work k; places = places_in work start k; pos = at; rest = drop at answer })) same;
      inside = R.inside;
    }
