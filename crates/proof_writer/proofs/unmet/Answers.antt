use Rattle.question.proofs.Keys.{key_below}
use Rattle.proof_writer.proofs.Seeking.{unmet_back, unmet_ahead}
use native.Mathlib.Omega.{arith}
use Rattle.proof_writer.proofs.unmet.Goals as goal

pub time_at-requires : goal.time_at-requires
time_at-requires c =
    (c.requires.0, omega (arith, c.requires.1.some, c.requires.1.inside))

pub overflow_sub-leaves : goal.overflow_sub-leaves
overflow_sub-leaves c =
    omega (arith, c.requires.1.some)

pub overflow_add-leaves : goal.overflow_add-leaves
overflow_add-leaves c =
    omega (arith, c.requires.1.some, c.requires.1.inside, c.requires.0.few)

pub time_at-requires-in-AtOrAfter : goal.time_at-requires-in-AtOrAfter
time_at-requires-in-AtOrAfter c =
    (c.requires.0, omega (arith, c.requires.1.some, c.requires.1.inside))

pub returns-in-AtOrBefore : goal.returns-in-AtOrBefore
returns-in-AtOrBefore c =
    unmet_back c.args.work.now c.args.ranks c.args.leaves c.args.relation c.args.time.0 c.requires.1.some _ _ c.in-AtOrBefore.is c.time_at.ensures (key_below _ _ _ c.lt.ensures)

pub returns-in-AtOrAfter : goal.returns-in-AtOrAfter
returns-in-AtOrAfter c =
    unmet_ahead c.args.work.now c.args.ranks c.args.leaves c.args.relation c.args.time.0 c.requires.1.some _ _ c.in-AtOrAfter.is c.time_at-in-AtOrAfter.ensures (key_below _ _ _ c.lt-in-AtOrAfter.ensures)
