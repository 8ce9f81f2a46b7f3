-- A question and its direction, as documents 01 and 02 have them. Assumes nothing.
use Rattle.std.specs.Prelude.{◌≡◌, ℕ, ◌+◌, Option, None, Some, Result}
use Rattle.model.specs.Result.{ok, ◌>>=◌}
use Rattle.model.specs.Question as model
use Rattle.question.specs.declared.Relation.{Relation}
use Rattle.question.specs.declared.Relation.TheVariants.{AtOrBefore, AtOrAfter}
use Rattle.question.specs.declared.Question.{Question}
use Rattle.question.specs.declared.SpanQuestion.{SpanQuestion}
use Rattle.question.specs.declared.Query.{Query}
use Rattle.question.specs.declared.Query.TheVariants.{One, All}
use Rattle.question.specs.declared.Way.{Way}
use Rattle.question.specs.Ways.{way_of}
use Rattle.outcome.specs.declared.Refusal.{Refusal}
use Rattle.outcome.specs.Outcomes.{told}

-- the version only, or a trace too
unfoldable pub part_of : Option Way → model.Part
part_of None = model.version_only
part_of (Some way) = model.trace_of (way_of way)

unfoldable pub relation_of : Relation → model.Relation
relation_of AtOrBefore = model.at_or_before
relation_of AtOrAfter = model.at_or_after

abbrev pub question_of : Question → model.VersionQuestion
question_of q = model.asked (relation_of q.relation) (part_of q.trace) q.entity.0 q.time.0

abbrev pub span_of : SpanQuestion → model.SpanQuestion
span_of p = model.spanned p.entity.0 p.from.0 p.to.0

abbrev pub query_of : Query → model.Question
query_of (One q) = model.one (question_of q)
query_of (All p) = model.all (span_of p)

-- "Directions 3, 4 and 5 are 0, 1 and 2 for the version with the least time at or after t": the part of n and of n + 3
pub record PartIs (n : ℕ) (p : Option Way) : Type 0 where
  pub before : (s t t2 : ℕ) → model.question n s t t2 ≡ ok (model.one (model.asked model.at_or_before (part_of p) s t))
  pub after : (s t t2 : ℕ) → model.question (n + 3) s t t2 ≡ ok (model.one (model.asked model.at_or_after (part_of p) s t))

-- what a direction asks of an entity and two times, or row 25 or 11
abbrev pub AskedIs : ℕ → ℕ → ℕ → ℕ → Result Query Refusal → Type 0
AskedIs direction s t t2 r = model.question direction s t t2 ≡ (told r >>= λ q. ok (query_of q))
