use native.Mathlib.Omega.{arith}
use Rattle.kept_trees.proofs.Rows.{entity-inside, version-keeps, entity-keeps}
use Rattle.kept_trees.proofs.slot_of.Goals as goal

pub first_at-requires : goal.first_at-requires
first_at-requires c =
    let h = entity-inside c.args.row c.args.ranks c.args.i c.in-Entities.is c.requires.1 in
    (c.requires.0, omega arith)

pub returns-in-Versions : goal.returns-in-Versions
returns-in-Versions c =
    version-keeps c.args.row c.args.work.now c.args.ranks c.args.i c.in-Versions.is

pub returns-in-Entities : goal.returns-in-Entities
returns-in-Entities c =
    entity-keeps c.args.row c.args.work.now c.args.ranks c.args.i _ c.in-Entities.is c.first_at.ensures
