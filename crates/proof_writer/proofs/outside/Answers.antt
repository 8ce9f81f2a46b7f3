use Rattle.question.proofs.Keys.{key_below}
use Rattle.proof_writer.proofs.Seeking.{outside_low, outside_high}
use native.Mathlib.Omega.{arith}
use Rattle.proof_writer.proofs.outside.Goals as goal

pub entity_at-requires : goal.entity_at-requires
entity_at-requires c =
    (c.requires.0, omega (arith, c.requires.1.some, c.requires.1.inside))

pub returns-then-lt : goal.returns-then-lt
returns-then-lt c =
    outside_low c.args.work.now c.args.ranks c.args.leaves c.args.entity.0 c.requires.1.some _ _ c.entity_at.ensures (key_below _ _ _ c.lt.ensures) c.if-lt.true

pub overflow_sub-leaves : goal.overflow_sub-leaves
overflow_sub-leaves c =
    omega (arith, c.requires.1.some)

pub overflow_add-leaves : goal.overflow_add-leaves
overflow_add-leaves c =
    omega (arith, c.requires.1.some, c.requires.1.inside, c.requires.0.fewer, c.requires.0.few)

pub entity_at-requires-2 : goal.entity_at-requires-2
entity_at-requires-2 c =
    (c.requires.0, omega (arith, c.requires.1.some, c.requires.1.inside))

pub returns : goal.returns
returns c =
    outside_high c.args.work.now c.args.ranks c.args.leaves c.args.entity.0 c.requires.1.some _ _ _ _ c.entity_at.ensures (key_below _ _ _ c.lt.ensures) c.if-lt.false c.entity_at-2.ensures (key_below _ _ _ c.lt-2.ensures)
