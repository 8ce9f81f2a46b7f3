use Rattle.kept_trees.proofs.Rows.{version-inside, entity-inside, version-key, entity-key}
use Rattle.kept_trees.proofs.key_at.Goals as goal

pub time_at-requires : goal.time_at-requires
time_at-requires c =
    (c.requires.0, version-inside c.args.row c.args.ranks c.args.i c.in-Versions.is c.requires.1)

pub entity_at-requires : goal.entity_at-requires
entity_at-requires c =
    (c.requires.0, entity-inside c.args.row c.args.ranks c.args.i c.in-Entities.is c.requires.1)

pub returns-in-Versions : goal.returns-in-Versions
returns-in-Versions c =
    version-key c.args.row c.args.work.now c.args.ranks c.args.i _ c.in-Versions.is c.time_at.ensures

pub returns-in-Entities : goal.returns-in-Entities
returns-in-Entities c =
    entity-key c.args.row c.args.work.now c.args.ranks c.args.i _ c.in-Entities.is c.entity_at.ensures
