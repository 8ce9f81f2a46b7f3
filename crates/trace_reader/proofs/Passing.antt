-- The rows 15, 16, 15, 20, 21 of a record by the reader's tests. Assumes nothing.
use mathlib.Core.Path.{◌≡◌, refl, sym, ap, ◌∙◌}
use mathlib.Core.Bool.{Bool, true, false, ◌&&◌}
use Prim.Native.Nat.{ℕ, ◌+◌, ◌-◌, ◌≤◌, ◌<◌}
use native.Mathlib.Omega.{arith}
use borrow.Author.Tests.{le-leb, lt-leb, eq-eqb, ne_eqb}
use lib.Dec.{ltb}
use lib.ListN.{length, get_or, drop, length-drop}
use Rattle.fields.specs.Fields.{field}
use Rattle.fields.proofs.Places.{field-drop, first-left, some_left}
use Rattle.model.specs.Numbers.{Bytes, above}
use Rattle.model.specs.Result.{Result, ◌>>=◌, need, ok, refuse}
use Rattle.model.specs.Graph.{VersionNode}
use Rattle.model.specs.Trace.{letter_width}
use Rattle.model.specs.Question.{Way}
use Rattle.outcome.specs.declared.Row.TheVariants.{AnswerCut, LetterNotDue, PositionNotBelow, TraceTimeNotAbove}
use Rattle.outcome.specs.declared.Refusal.{Refusal}
use Rattle.outcome.specs.Outcomes.{number_of, told}
use Rattle.std.specs.Prelude.{Ok, Err}
use Rattle.model.specs.CheckRows.{due, shown_edges, shown_record, all_below, read_record}
use Rattle.trace_reader.specs.Records.{before_of, values_row, Shown}

-- ---- row 20

and_true : (b : Bool) → (b && true) ≡ b
and_true true = refl
and_true false = refl

pub same_test : (n f i : ℕ) → n ≡ f → ltb n i ≡ ltb f i
same_test n f i e = ap (λ (m : ℕ). ltb m i) e

module _ (answer : Bytes) (at c i : ℕ) where
  module _ (v : c ≡ 86) (b : Bool) (h : b ≡ ltb (field 4 answer (at + 14)) i) where
    pub both_below : (d : Bool) → b ≡ true → d ≡ ltb (field 4 answer (at + 18)) i → d ≡ all_below i (shown_edges c (drop at answer))
    unfolding all_below shown_edges
    both_below d e g = simp (eq-eqb c 86 v, field-drop, sym h ∙ e, and_true) g

    pub first_not_below : b ≡ false → false ≡ all_below i (shown_edges c (drop at answer))
    unfolding all_below shown_edges
    first_not_below e = simp (eq-eqb c 86 v, field-drop, sym h ∙ e)

  module _ (v : c ≡ 86 → ⊥) where
    pub one_below_D : c ≡ 68 → (b : Bool) → b ≡ ltb (field 4 answer (at + 14)) i → b ≡ all_below i (shown_edges c (drop at answer))
    unfolding all_below shown_edges
    one_below_D d b h = simp (ne_eqb c 86 v, eq-eqb c 68 d, field-drop, and_true) h

    pub one_below_T : (c ≡ 68 → ⊥) → c ≡ 84 → (b : Bool) → b ≡ ltb (field 4 answer (at + 13)) i → b ≡ all_below i (shown_edges c (drop at answer))
    unfolding all_below shown_edges
    one_below_T d t b h = simp (ne_eqb c 86 v, ne_eqb c 68 d, eq-eqb c 84 t, field-drop, and_true) h

    pub none_below : (c ≡ 68 → ⊥) → (c ≡ 84 → ⊥) → true ≡ all_below i (shown_edges c (drop at answer))
    unfolding all_below shown_edges
    none_below d t = simp (ne_eqb c 86 v, ne_eqb c 68 d, ne_eqb c 84 t)

-- ---- row 21

pub first-later : (i last t : ℕ) → i ≡ 0 → true ≡ above (before_of i last) t
unfolding before_of
first-later i last t e = simp (eq-eqb i 0 e)

pub then_later : (i last t : ℕ) (b : Bool) → (i ≡ 0 → ⊥) → b ≡ ltb last t → b ≡ above (before_of i last) t
unfolding before_of
then_later i last t b h e = simp (ne_eqb i 0 h) e

-- ---- both

-- turned away by r, which is e
pub turned : {A : Type 0} (m : Result A) (e : Refusal) → m ≡ refuse (number_of e.row) e.position → (r : Refusal) → r ≡ e → m ≡ refuse (number_of r.row) r.position
turned m e h r k = h ∙ ap (λ (x : Refusal). refuse (number_of x.row) x.position) (sym k)

module _ (answer : Bytes) (at c i last : ℕ) (b : Bool) (low : b ≡ all_below i (shown_edges c (drop at answer))) where
  pub meets_20 : b ≡ false → (r : Refusal) → r ≡ record { row = PositionNotBelow; position = at } → told {A = Unit {0}} (Err r) ≡ values_row i last at (shown_record c (drop at answer))
  unfolding values_row shown_record need ◌>>=◌
  meets_20 e r k = sym (turned _ (record { row = PositionNotBelow; position = at }) (simp (sym low ∙ e)) r k)

  module _ (pass : b ≡ true) (t : ℕ) (time : t ≡ field 8 answer (at + 5)) (d : Bool) (high : d ≡ above (before_of i last) t) where
    time_test : above (before_of i last) (field 8 (drop at answer) 5) ≡ d
    time_test = ap (above (before_of i last)) (field-drop at answer 8 5 ∙ sym time) ∙ sym high

    pub meets_neither : d ≡ true → told {A = Unit {0}} (Ok tt) ≡ values_row i last at (shown_record c (drop at answer))
    unfolding values_row shown_record need ◌>>=◌
    meets_neither e = simp (sym low ∙ pass, time_test ∙ e)

    pub meets_21 : d ≡ false → (r : Refusal) → r ≡ record { row = TraceTimeNotAbove; position = at } → told {A = Unit {0}} (Err r) ≡ values_row i last at (shown_record c (drop at answer))
    unfolding values_row shown_record need ◌>>=◌
    meets_21 e r k = sym (turned _ (record { row = TraceTimeNotAbove; position = at }) (simp (sym low ∙ pass, time_test ∙ e)) r k)

-- ---- all rows of a record

rows_together : (b d : Bool) (pos : ℕ) (n : VersionNode) → (need b 20 pos >>= λ _. need d 21 pos >>= λ _. ok n) ≡ ((need b 20 pos >>= λ _. need d 21 pos) >>= λ _. ok n)
unfolding need ◌>>=◌
rows_together true d pos n = refl
rows_together false d pos n = refl

low_then : (b : Bool) (pos : ℕ) (f : Result (Unit {0})) → (need b 20 pos >>= λ _. f) ≡ ok tt → b ≡ true
unfolding need ◌>>=◌
low_then true pos f e = refl
low_then false pos f e = cc

module _ (way : Way) (i last : ℕ) (answer : Bytes) (at : ℕ) where
  abbrev pub Turns : Refusal → Type 0
  Turns r = read_record way i (before_of i last) at (drop at answer) ≡ refuse (number_of r.row) r.position

  pub no_byte : length answer - at ≡ 0 → (r : Refusal) → r ≡ record { row = AnswerCut; position = at } → Turns r
  unfolding read_record need ◌>>=◌
  no_byte e = turned _ (record { row = AnswerCut; position = at }) (simp (lt-leb 1 (length (drop at answer)) (omega (arith, length-drop at answer))))

  module _ (more : length answer - at ≡ 0 → ⊥) (b : Bool) (test : b ≡ due way i (get_or answer at 0)) where
    pub not_due : b ≡ false → (r : Refusal) → r ≡ record { row = LetterNotDue; position = at } → Turns r
    unfolding read_record need ◌>>=◌
    not_due e = turned _ (record { row = LetterNotDue; position = at }) (simp (some_left at answer more, first-left at answer 0, sym test ∙ e))

    module _ (is-due : b ≡ true) (w : ℕ) (width : w ≡ letter_width (get_or answer at 0)) where
      pub too_short : length answer - at < w → (r : Refusal) → r ≡ record { row = AnswerCut; position = at } → Turns r
      unfolding read_record need ◌>>=◌
      too_short h =
          turned _ (record { row = AnswerCut; position = at })
          (simp (some_left at answer more, first-left at answer 0, sym test ∙ is-due, lt-leb (letter_width (get_or answer at 0)) (length (drop at answer)) (omega (arith, length-drop at answer))))

      module _ (fits : w ≤ length answer - at) where
        abbrev pub n : VersionNode
        n = shown_record (get_or answer at 0) (drop at answer)

        rows_left : read_record way i (before_of i last) at (drop at answer) ≡ (values_row i last at n >>= λ _. ok n)
        unfolding read_record values_row need ◌>>=◌
        rows_left =
            simp (some_left at answer more, first-left at answer 0, sym test ∙ is-due, le-leb (letter_width (get_or answer at 0)) (length (drop at answer)) (omega (arith, length-drop at answer)))
            (rows_together (all_below i n.in_edges) (above (before_of i last) n.time) at n)

        pub record_passes : at ≤ length answer → told {A = Unit {0}} (Ok tt) ≡ values_row i last at n → Shown way i last answer at (get_or answer at 0)
        unfolding values_row shown_record ◌>>=◌
        record_passes inside e =
            record {
              is = rows_left ∙ ap (λ (m : Result (Unit {0})). m >>= λ _. ok n) (sym e);
              letter_is = sym (first-left at answer 0);
              inside = omega arith;
              below = low_then (all_below i n.in_edges) at _ (sym e);
            }

        pub values_refused : (e : Refusal) → told {A = Unit {0}} (Err e) ≡ values_row i last at n → Turns e
        unfolding ◌>>=◌
        values_refused e h = rows_left ∙ ap (λ (m : Result (Unit {0})). m >>= λ _. ok n) (sym h)
