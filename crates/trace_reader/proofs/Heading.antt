-- The header of a trace. Assumes nothing.
use mathlib.Core.Path.{◌≡◌, sym, ap, ◌∙◌}
use mathlib.Core.Bool.{true}
use mathlib.Core.List.{[]}
use Prim.Native.Nat.{ℕ, ◌+◌, ◌-◌, ◌*◌, ◌≤◌, ◌<◌}
use native.Mathlib.Omega.{arith}
use borrow.Author.Tests.{le-leb, lt-leb, eq-eqb, ne_eqb}
use lib.Dec.{eqb, leb}
use lib.ListN.{length, get_or, drop, length-drop}
use lib.Seq.{drop-drop}
use Rattle.fields.specs.Fields.{field}
use Rattle.fields.proofs.Places.{field-drop, first-left, some_left}
use Rattle.model.specs.Numbers.{Bytes}
use Rattle.model.specs.Result.{◌>>=◌, need, refuse}
use Rattle.model.specs.Log.{record_limit}
use Rattle.model.specs.Trace.{trace_letter}
use Rattle.model.specs.Question as question
use Rattle.model.specs.CheckRows.{enough, read_records, read_trace}
use Rattle.outcome.specs.declared.Row.TheVariants.{AnswerCut, LetterNotDue, CountOutOfRange, WorkAreaShort}
use Rattle.outcome.specs.declared.Refusal.{Refusal}
use Rattle.outcome.specs.Outcomes.{number_of}
use Rattle.trace_reader.specs.Records.{Counts}
use Rattle.trace_reader.proofs.Passing.{turned}
use Rattle.trace_reader.proofs.Slotting.{absent-is}

-- ---- the rows of the header

module _ (way : question.Way) (size : ℕ) (answer : Bytes) (at : ℕ) where
  abbrev pub Turns : Refusal → Type 0
  Turns r = read_trace way size at (drop at answer) ≡ refuse (number_of r.row) r.position

  pub no_header : length answer - at ≡ 0 → (r : Refusal) → r ≡ record { row = AnswerCut; position = at } → Turns r
  unfolding read_trace need ◌>>=◌
  no_header e = turned _ (record { row = AnswerCut; position = at }) (simp (lt-leb 1 (length (drop at answer)) (omega (arith, length-drop at answer))))

  module _ (more : length answer - at ≡ 0 → ⊥) (letter : ℕ) (due : letter ≡ trace_letter way) where
    pub other-trace : (get_or answer at 0 ≡ letter → ⊥) → (r : Refusal) → r ≡ record { row = LetterNotDue; position = at } → Turns r
    unfolding read_trace need ◌>>=◌
    other-trace h = turned _ (record { row = LetterNotDue; position = at }) (simp (some_left at answer more, first-left at answer 0, ne_eqb (get_or answer at 0) (trace_letter way) (λ e. h (e ∙ sym due))))

    module _ (same : get_or answer at 0 ≡ letter) where
      letter_due : eqb (get_or (drop at answer) 0 0) (trace_letter way) ≡ true
      letter_due = eq-eqb (get_or (drop at answer) 0 0) (trace_letter way) (first-left at answer 0 ∙ same ∙ due)

      pub header-cut : length answer - at < 5 → (r : Refusal) → r ≡ record { row = AnswerCut; position = at } → Turns r
      unfolding read_trace need ◌>>=◌
      header-cut h = turned _ (record { row = AnswerCut; position = at }) (simp (some_left at answer more, letter_due, lt-leb 5 (length (drop at answer)) (omega (arith, length-drop at answer))))

      module _ (fits : 5 ≤ length answer - at) (count : ℕ) (field_is : count ≡ field 4 answer (at + 1)) where
        all_there : leb 5 (length (drop at answer)) ≡ true
        all_there = le-leb 5 (length (drop at answer)) (omega (arith, length-drop at answer))

        count_is : field 4 (drop at answer) 1 ≡ count
        count_is = field-drop at answer 4 1 ∙ sym field_is

        pub no_record : count < 1 → (r : Refusal) → r ≡ record { row = CountOutOfRange; position = at } → Turns r
        unfolding read_trace need ◌>>=◌
        no_record h = turned _ (record { row = CountOutOfRange; position = at }) (simp (some_left at answer more, letter_due, all_there, count_is, lt-leb 1 count h))

        module _ (one : 1 ≤ count) where
          pub too_many : 65535 < count → (r : Refusal) → r ≡ record { row = CountOutOfRange; position = at } → Turns r
          unfolding read_trace need ◌>>=◌
          too_many h = turned _ (record { row = CountOutOfRange; position = at }) (simp (some_left at answer more, letter_due, all_there, count_is, le-leb 1 count one, lt-leb count record_limit h))

          module _ (few : count ≤ 65535) where
            pub work-short : size < 128 * count → (r : Refusal) → r ≡ record { row = WorkAreaShort; position = 0 } → Turns r
            unfolding read_trace need enough ◌>>=◌
            work-short h =
                turned _ (record { row = WorkAreaShort; position = 0 }) (simp (some_left at answer more, letter_due, all_there, count_is, le-leb 1 count one, le-leb count record_limit few, lt-leb (128 * count) size h))

            pub header_passes : at ≤ length answer → 128 * count ≤ size → Counts way size answer at count
            unfolding read_trace need enough ◌>>=◌
            header_passes inside room =
                record {
                  is =
                      simp (some_left at answer more, letter_due, all_there, count_is, le-leb 1 count one, le-leb count record_limit few, le-leb (128 * count) size room)
                      (ap (read_records way count [] [] (at + 5)) (drop-drop 5 at answer));
                  inside = omega arith;
                  some_record = one;
                  few = omega (arith, absent-is);
                  room = room;
                }
