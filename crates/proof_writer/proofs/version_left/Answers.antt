use Rattle.question.proofs.Keys.{key_below, key_at_most}
use Rattle.proof_writer.proofs.Seeking.{left_back, left_ahead}
use native.Mathlib.Omega.{arith}
use Rattle.proof_writer.proofs.version_left.Goals as goal

pub overflow_add-leaves : goal.overflow_add-leaves
overflow_add-leaves c =
    omega (arith, c.requires.3, c.requires.1.inside, c.requires.0.few)

pub time_at-requires : goal.time_at-requires
time_at-requires c =
    (c.requires.0, omega (arith, c.requires.3, c.requires.1.inside))

pub overflow_sub-k : goal.overflow_sub-k
overflow_sub-k c =
    omega (arith, c.requires.2)

pub overflow_add-leaves-in-AtOrAfter : goal.overflow_add-leaves-in-AtOrAfter
overflow_add-leaves-in-AtOrAfter c =
    omega (arith, c.requires.2, c.requires.3, c.requires.1.inside, c.requires.0.few)

pub time_at-requires-in-AtOrAfter : goal.time_at-requires-in-AtOrAfter
time_at-requires-in-AtOrAfter c =
    (c.requires.0, omega (arith, c.requires.2, c.requires.3, c.requires.1.inside))

pub returns-in-AtOrBefore : goal.returns-in-AtOrBefore
returns-in-AtOrBefore c =
    left_back c.args.work.now c.args.ranks c.args.leaves c.args.k c.requires.2 c.requires.3 c.args.relation c.args.time.0 _ _ c.in-AtOrBefore.is c.time_at.ensures (key_below _ _ _ c.lt.ensures)

pub returns-in-AtOrAfter : goal.returns-in-AtOrAfter
returns-in-AtOrAfter c =
    left_ahead c.args.work.now c.args.ranks c.args.leaves c.args.k c.requires.2 c.requires.3 c.args.relation c.args.time.0 _ _ c.in-AtOrAfter.is c.time_at-in-AtOrAfter.ensures (key_at_most _ _ _ c.le.ensures)
