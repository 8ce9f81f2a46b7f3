-- The part that each direction asks for, and what one that was read asks. Assumes nothing.
use mathlib.Core.Path.{◌≡◌, refl, sym, ap, ◌∙◌, subst}
use mathlib.Core.Bool.{Bool, true, false}
use Prim.Native.Nat.{ℕ, ◌+◌, ◌-◌, ◌≤◌, ◌<◌}
use native.Mathlib.Omega.{arith}
use borrow.Author.Tests.{ltb-true, ltb-false}
use lib.Dec.{ltb}
use Rattle.model.specs.Result as M
use Rattle.model.specs.Result.{ok, refuse, ◌>>=◌}
use Rattle.model.specs.Question as model
use Rattle.model.specs.Question.{question}
use Rattle.model.proofs.Asking as asking
use Rattle.std.specs.Prelude.{Option, None, Some, Result, Ok, Err}
use Rattle.question.specs.declared.Way.{Way}
use Rattle.question.specs.declared.Way.TheVariants.{Backward, Forward}
use Rattle.question.specs.declared.Relation.TheVariants.{AtOrBefore, AtOrAfter}
use Rattle.question.specs.declared.EntityKey.{EntityKey}
use Rattle.question.specs.declared.TimeKey.{TimeKey}
use Rattle.question.specs.declared.Query.{Query}
use Rattle.question.specs.declared.Query.TheVariants.{One, All}
use Rattle.question.specs.Ways.{way_of}
use Rattle.question.specs.Directions.{relation_of, part_of, query_of, PartIs, AskedIs}
use Rattle.outcome.specs.declared.Row.TheVariants.{TimesReversed, DirectionUnknown}
use Rattle.outcome.specs.declared.Refusal.{Refusal}
use Rattle.outcome.specs.Outcomes.{number_of, told}

-- ---- the part

module _ (n : ℕ) where
  is : (d : ℕ) (p : Option Way) → n ≡ d → PartIs d p → PartIs n p
  is d p e h = subst (λ (x : ℕ). PartIs x p) (sym e) h

  pub version_only : n ≡ 0 → PartIs n None
  unfolding question part_of
  version_only e = is 0 None e (record { before = λ s t t2. refl; after = λ s t t2. refl })

  pub backward : n ≡ 1 → PartIs n (Some Backward)
  unfolding question part_of way_of
  backward e = is 1 (Some Backward) e (record { before = λ s t t2. refl; after = λ s t t2. refl })

  pub forward : n < 3 → (n ≡ 0 → ⊥) → (n ≡ 1 → ⊥) → PartIs n (Some Forward)
  unfolding question part_of way_of
  forward h a b = is 2 (Some Forward) (omega arith) (record { before = λ s t t2. refl; after = λ s t t2. refl })

-- ---- the question

-- turned away by r, which is e
refused-as : (m : M.Result model.Question) (r e : Refusal) → r ≡ e → m ≡ refuse (number_of e.row) e.position → m ≡ (told {A = Query} (Err r) >>= λ q. ok (query_of q))
unfolding ◌>>=◌
refused-as m r e k h = h ∙ ap (λ (x : Refusal). refuse (number_of x.row) x.position) (sym k)

module _ (entity : EntityKey) (from to : TimeKey) (b : Bool) (before : b ≡ ltb to.0 from.0) where
  pub times_reversed : b ≡ true → (r : Refusal) → r ≡ record { row = TimesReversed; position = 0 } → AskedIs 6 entity.0 from.0 to.0 (Err r)
  unfolding ◌>>=◌
  times_reversed e r k = refused-as _ r _ k (asking.reversed entity.0 from.0 to.0 (ltb-true to.0 from.0 (sym before ∙ e)))

  pub asks_all : b ≡ false → AskedIs 6 entity.0 from.0 to.0 (Ok (All (record { entity = entity; from = from; to = to })))
  unfolding ◌>>=◌
  asks_all e = asking.known_span entity.0 from.0 to.0 (ltb-false to.0 from.0 (sym before ∙ e))

module _ (direction : ℕ) (entity : EntityKey) (time until : TimeKey) where
  abbrev Asks : Result Query Refusal → Type 0
  Asks = AskedIs direction entity.0 time.0 until.0

  pub in_span : direction ≡ 6 → (a : Result Query Refusal) → AskedIs 6 entity.0 time.0 until.0 a → Asks a
  in_span e a h = subst (λ (d : ℕ). AskedIs d entity.0 time.0 until.0 a) (sym e) h

  pub looks_back : (p : Option Way) → PartIs direction p → Asks (Ok (One (record { relation = AtOrBefore; trace = p; entity = entity; time = time })))
  unfolding relation_of ◌>>=◌
  looks_back p h = h.before entity.0 time.0 until.0

  pub looks_ahead : (p : Option Way) → 3 ≤ direction → PartIs (direction - 3) p → Asks (Ok (One (record { relation = AtOrAfter; trace = p; entity = entity; time = time })))
  unfolding relation_of ◌>>=◌
  looks_ahead p a h =
      ap (λ (d : ℕ). question d entity.0 time.0 until.0) (let e : direction ≡ direction - 3 + 3 = omega arith in e)
      ∙ h.after entity.0 time.0 until.0

  pub none : (direction ≡ 6 → ⊥) → 6 ≤ direction → (r : Refusal) → r ≡ record { row = DirectionUnknown; position = 0 } → Asks (Err r)
  unfolding ◌>>=◌
  none d h r k = refused-as _ r _ k (asking.unknown direction entity.0 time.0 until.0 (let e : 6 < direction = omega arith in e))

module _ (direction s t t2 : ℕ) (a : Result Query Refusal) (h : AskedIs direction s t t2 a) where
  pub query-asked : (q : Query) → a ≡ Ok q → question direction s t t2 ≡ ok (query_of q)
  unfolding ◌>>=◌
  query-asked q e = h ∙ ap (λ (r : Result Query Refusal). told r >>= λ x. ok (query_of x)) e

  pub asking-refused : (e : Refusal) → a ≡ Err e → question direction s t t2 ≡ refuse (number_of e.row) e.position
  unfolding ◌>>=◌
  asking-refused e p = h ∙ ap (λ (r : Result Query Refusal). told r >>= λ x. ok (query_of x)) p
