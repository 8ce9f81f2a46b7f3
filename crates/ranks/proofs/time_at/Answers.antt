use native.Mathlib.Omega.{arith}
use mathlib.Core.Path.{ap, ◌∙◌}
use Rattle.graph.specs.Table.{time_in}
use Rattle.ranks.proofs.time_at.Goals as goal

pub slot_at-requires : goal.slot_at-requires
slot_at-requires c = omega (arith, c.requires.1, c.requires.0.room)

pub time_of-requires : goal.time_of-requires
time_of-requires c =
    omega (arith, c.requires.0.slots c.args.rank c.requires.1, c.slot_at.ensures)

pub returns : goal.returns
returns c = c.time_of.ensures ∙ ap (time_in c.args.work.now) c.slot_at.ensures
