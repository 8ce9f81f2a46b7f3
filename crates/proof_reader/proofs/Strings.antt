-- One string of a proof: the rows 15 to 17 by the reader's tests, and the fields of a string at their places in the answer. Assumes nothing.
use mathlib.Core.Path.{◌≡◌, refl, sym, ap, ap₂, ◌∙◌, subst}
use mathlib.Core.Bool.{Bool, true, false}
use Prim.Native.Nat.{ℕ, ◌+◌, ◌-◌, ◌≤◌, ◌<◌}
use native.Mathlib.Omega.{arith}
use borrow.Author.Tests.{le-leb, lt-leb, eq-eqb, ne_eqb}
use lib.Dec.{eqb, leb}
use lib.ListN.{length, take, drop, get_or, length-drop}
use Rattle.fields.specs.Fields.{part, field, equal}
use Rattle.fields.proofs.Places.{part-all, part-take, field-take, part-drop, field-drop, first-left, some_left}
use Rattle.sha256.specs.Sha256.{sha256}
use Rattle.model.specs.Numbers.{Bytes, H}
use Rattle.model.specs.Result.{Result, refuse, ◌>>=◌, need}
use Rattle.model.specs.Accumulator.{Subtree}
use Rattle.model.specs.CheckRows.{take_string, subtree_in, leaf_in}
use Rattle.model.proofs.Strings.{H-length}
use Rattle.std.specs.Prelude.{Ok, Err}
use Rattle.std.specs.Prelude as std
use Rattle.outcome.specs.declared.Row.{Row}
use Rattle.outcome.specs.declared.Row.TheVariants.{AnswerCut, LetterNotDue, DigestNotDue}
use Rattle.outcome.specs.declared.Refusal.{Refusal}
use Rattle.outcome.specs.Outcomes.{number_of}
use Rattle.proof_reader.specs.declared.Opening.TheVariants.{Leaf as LeafTaken, Inner as InnerTaken}
use Rattle.proof_reader.specs.Walks.{RefusedBy, Passes, Takes, taken, cut, string_due, Opens, at_leaf, at_inner, unopened}

-- ---- a refusal that was made

abbrev pub Made : Row → ℕ → Refusal → Type 0
Made row position r = r ≡ record { row = row; position = position }

pub refused-as : {A : Type 0} (m : Result A) (row : Row) (p : ℕ) → m ≡ refuse (number_of row) p → (r : Refusal) → Made row p r → RefusedBy m r
refused-as m row p h r e = h ∙ ap (λ (x : Refusal). refuse (number_of x.row) x.position) (sym e)

-- ---- 15 (no byte), 16, 15 (width), 17

module _ (answer : Bytes) (at letter width : ℕ) (due : Bytes) where
  abbrev string : Result Bytes
  string = take_string letter width due at (drop at answer)

  turned : (row : Row) → string ≡ refuse (number_of row) at → (r : Refusal) → Made row at r → Takes answer at letter width due (Err r)
  turned row h r e = cut r (refused-as _ row at h r e)

  pub no_byte : length answer - at ≡ 0 → (r : Refusal) → Made AnswerCut at r → Takes answer at letter width due (Err r)
  unfolding take_string need ◌>>=◌
  no_byte e = turned AnswerCut (simp (lt-leb 1 (length (drop at answer)) (omega (arith, length-drop at answer))))

  module _ (more : length answer - at ≡ 0 → ⊥) where
    pub other-letter : (get_or answer at 0 ≡ letter → ⊥) → (r : Refusal) → Made LetterNotDue at r → Takes answer at letter width due (Err r)
    unfolding take_string need ◌>>=◌
    other-letter h = turned LetterNotDue (simp (some_left at answer more, first-left at answer 0, ne_eqb (get_or answer at 0) letter h))

    module _ (same : get_or answer at 0 ≡ letter) where
      letter_due : eqb (get_or (drop at answer) 0 0) letter ≡ true
      letter_due = eq-eqb (get_or (drop at answer) 0 0) letter (first-left at answer 0 ∙ same)

      pub too_short : length answer - at < width → (r : Refusal) → Made AnswerCut at r → Takes answer at letter width due (Err r)
      unfolding take_string need ◌>>=◌
      too_short h = turned AnswerCut (simp (some_left at answer more, letter_due, lt-leb width (length (drop at answer)) (omega (arith, length-drop at answer))))

      module _ (fits : width ≤ length answer - at) (d : Bytes) (hashed : d ≡ sha256 (take (at + width - at) (drop at answer))) (b : Bool) (compared : b ≡ equal (part d 0 32) due) where
        all_there : leb width (length (drop at answer)) ≡ true
        all_there = le-leb width (length (drop at answer)) (omega (arith, length-drop at answer))

        hash_is : d ≡ H (take width (drop at answer))
        unfolding H
        hash_is = hashed ∙ ap (λ (n : ℕ). sha256 (take n (drop at answer))) (let e : at + width - at ≡ width = omega arith in e)

        test_is : equal (H (take width (drop at answer))) due ≡ b
        test_is =
            ap (λ (x : Bytes). equal x due) (sym (part-all d 32 (ap length hash_is ∙ H-length (take width (drop at answer))) ∙ hash_is))
            ∙ sym compared

        pub string_passes : at ≤ length answer → b ≡ true → Takes answer at letter width due (Ok tt)
        unfolding take_string need ◌>>=◌
        string_passes inside e =
            taken (record { inside = omega arith; is = simp (some_left at answer more, letter_due, all_there, test_is ∙ e) })

        pub other-digest : b ≡ false → (r : Refusal) → Made DigestNotDue at r → Takes answer at letter width due (Err r)
        unfolding take_string need ◌>>=◌
        other-digest e = turned DigestNotDue (simp (some_left at answer more, letter_due, all_there, test_is ∙ e))

-- ---- the string of a known subtree

pub passed : {answer : Bytes} {at letter width : ℕ} {due : Bytes} {u : Unit {0}} → Takes answer at letter width due (Ok u) → Passes answer at letter width due
passed (taken p) = p

pub not_passed : {answer : Bytes} {at letter width : ℕ} {due : Bytes} {e : Refusal} → Takes answer at letter width due (Err e)
    → RefusedBy (take_string letter width due at (drop at answer)) e
not_passed (cut _ h) = h

module _ (leaf width inner : ℕ) (answer : Bytes) (at known least greatest : ℕ) (l : least ≡ field 8 answer known) (g : greatest ≡ field 8 answer (known + 8)) where
  keys_are : eqb (subtree_in answer known).least (subtree_in answer known).greatest ≡ eqb least greatest
  unfolding subtree_in
  keys_are = ap₂ eqb (sym l) (sym g)

  digest_at : part answer (known + 16) 32 ≡ (subtree_in answer known).digest
  unfolding subtree_in
  digest_at = ap (λ (p : ℕ). part answer p 32) (let e : known + 16 ≡ known + 8 + 8 = omega arith in e)

  due-is : (letter w : ℕ) (r : std.Result (Unit {0}) Refusal) → Takes answer at letter w (part answer (known + 16) 32) r → Takes answer at letter w (subtree_in answer known).digest r
  due-is letter w r t = subst (λ (d : Bytes). Takes answer at letter w d r) digest_at t

  module _ (same : least ≡ greatest) where
    one_key : eqb (subtree_in answer known).least (subtree_in answer known).greatest ≡ true
    one_key = keys_are ∙ eq-eqb least greatest same

    pub leaf-opened : (u : Unit {0}) → Takes answer at leaf width (part answer (known + 16) 32) (Ok u) → Opens leaf width inner answer at (subtree_in answer known) (Ok LeafTaken)
    leaf-opened u t = at_leaf one_key (passed (due-is leaf width (Ok u) t))

    pub leaf-refused : (e : Refusal) → Takes answer at leaf width (part answer (known + 16) 32) (Err e) → Opens leaf width inner answer at (subtree_in answer known) (Err e)
    unfolding string_due
    leaf-refused e t = unopened e (simp (one_key) (not_passed (due-is leaf width (Err e) t)))

  module _ (apart : least ≡ greatest → ⊥) where
    two_keys : eqb (subtree_in answer known).least (subtree_in answer known).greatest ≡ false
    two_keys = keys_are ∙ ne_eqb least greatest apart

    pub inner_opened : (u : Unit {0}) → Takes answer at inner 97 (part answer (known + 16) 32) (Ok u) → Opens leaf width inner answer at (subtree_in answer known) (Ok InnerTaken)
    inner_opened u t = at_inner two_keys (passed (due-is inner 97 (Ok u) t))

    pub inner_refused : (e : Refusal) → Takes answer at inner 97 (part answer (known + 16) 32) (Err e) → Opens leaf width inner answer at (subtree_in answer known) (Err e)
    unfolding string_due
    inner_refused e t = unopened e (simp (two_keys) (not_passed (due-is inner 97 (Err e) t)))

-- ---- what stands in a string, by its place in the answer

module _ (answer : Bytes) (at width : ℕ) (h : at + width ≤ length answer) where
  field_at : (w k p : ℕ) → k + w ≤ width → p ≡ at + k → field w (take width (drop at answer)) k ≡ field w answer p
  field_at w k p f e =
      field-take width (drop at answer) w k f (omega (arith, length-drop at answer)) ∙ field-drop at answer w k ∙ ap (field w answer) (sym e)

  part_at : (w k p : ℕ) → k + w ≤ width → p ≡ at + k → part (take width (drop at answer)) k w ≡ part answer p w
  part_at w k p f e =
      part-take width (drop at answer) k w f (omega (arith, length-drop at answer)) ∙ part-drop at answer k w ∙ ap (λ (q : ℕ). part answer q w) (sym e)

  -- a subtree
  pub subtree_at : (k p : ℕ) → k + 48 ≤ width → p ≡ at + k → subtree_in (take width (drop at answer)) k ≡ subtree_in answer p
  unfolding subtree_in
  subtree_at k p f e =
      ap₂ {C = Subtree} (λ (a b : ℕ). record { least = a; greatest = b; digest = part (take width (drop at answer)) (k + 8 + 8) 32 })
      (field_at 8 k p (omega arith) e) (field_at 8 (k + 8) (p + 8) (omega arith) (omega arith))
      ∙ ap {B = Subtree} (λ (d : Bytes). record { least = field 8 answer p; greatest = field 8 answer (p + 8); digest = d })
      (part_at 32 (k + 8 + 8) (p + 8 + 8) (omega arith) (omega arith))

-- the leaf L: its keys, and where its two digests stand
module _ (answer : Bytes) (leaf : ℕ) (h : leaf + 77 ≤ length answer) where
  pub entity_at : (r : ℕ) → r ≡ field 4 answer (leaf + 1) → r ≡ (leaf_in (take 77 (drop leaf answer))).entity
  unfolding leaf_in
  entity_at r e = e ∙ sym (field_at answer leaf 77 h 4 1 (leaf + 1) (omega arith) refl)

  pub time_at : (r : ℕ) → r ≡ field 8 answer (leaf + 5) → r ≡ (leaf_in (take 77 (drop leaf answer))).time
  unfolding leaf_in
  time_at r e = e ∙ sym (field_at answer leaf 77 h 8 5 (leaf + 5) (omega arith) refl)

  pub incoming_at : (leaf_in (take 77 (drop leaf answer))).incoming ≡ part answer (leaf + 13) 32
  unfolding leaf_in
  incoming_at = part_at answer leaf 77 h 32 13 (leaf + 13) (omega arith) refl

  pub outgoing_at : (leaf_in (take 77 (drop leaf answer))).outgoing ≡ part answer (leaf + 45) 32
  unfolding leaf_in
  outgoing_at = part_at answer leaf 77 h 32 45 (leaf + 45) (omega arith) refl
