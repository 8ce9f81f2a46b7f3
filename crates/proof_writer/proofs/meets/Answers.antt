use Rattle.question.specs.Directions.{span_of}
use Rattle.question.proofs.Keys.{key_below, key_at_most}
use Rattle.proof_writer.proofs.Spans.{meets_not, meets_by}
use native.Mathlib.Omega.{arith}
use Rattle.proof_writer.proofs.meets.Goals as goal

pub time_at-requires : goal.time_at-requires
time_at-requires c =
    (c.requires.0, omega (arith, c.requires.1.some, c.requires.1.inside))

pub returns-then-lt : goal.returns-then-lt
returns-then-lt c =
    meets_not c.args.work.now c.args.ranks c.args.leaves (span_of c.args.span) c.requires.1.some _ _ c.time_at.ensures (key_below _ _ _ c.lt.ensures) c.if-lt.true

pub overflow_sub-leaves : goal.overflow_sub-leaves
overflow_sub-leaves c =
    omega (arith, c.requires.1.some)

pub overflow_add-leaves : goal.overflow_add-leaves
overflow_add-leaves c =
    omega (arith, c.requires.1.some, c.requires.1.inside, c.requires.0.few)

pub time_at-requires-2 : goal.time_at-requires-2
time_at-requires-2 c =
    (c.requires.0, omega (arith, c.requires.1.some, c.requires.1.inside))

pub returns : goal.returns
returns c =
    meets_by c.args.work.now c.args.ranks c.args.leaves (span_of c.args.span) c.requires.1.some _ _ _ _ c.time_at.ensures (key_below _ _ _ c.lt.ensures) c.if-lt.false c.time_at-2.ensures (key_at_most _ _ _ c.le.ensures)
