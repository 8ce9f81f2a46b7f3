use Rattle.kept_trees.proofs.Rows.{version-inside, entity-inside, leaf-version, leaf-entity}
use Rattle.kept_trees.proofs.leaf_at.Goals as goal

pub version_at-requires : goal.version_at-requires
version_at-requires c =
    ((c.requires.0.0, version-inside c.args.row c.args.ranks c.args.i c.in-Versions.is c.requires.0.1), c.requires.1)

pub versions_tree-versions-requires : goal.versions_tree-versions-requires
versions_tree-versions-requires c =
    ((c.requires.0.0, entity-inside c.args.row c.args.ranks c.args.i c.in-Entities.is c.requires.0.1), c.requires.1)

pub entity_at-requires : goal.entity_at-requires
entity_at-requires c =
    (c.requires.0.0, entity-inside c.args.row c.args.ranks c.args.i c.in-Entities.is c.requires.0.1)

pub group-leaf-requires : goal.group-leaf-requires
group-leaf-requires c = c.requires.1

pub returns-in-Versions : goal.returns-in-Versions
returns-in-Versions c =
    λ _. leaf-version c.args.row c.args.work.now c.args.ranks c.args.i _ c.in-Versions.is c.version_at.ensures

pub returns-in-Entities : goal.returns-in-Entities
returns-in-Entities c =
    leaf-entity c.args.row c.args.work.now c.args.ranks c.args.i _ _ _ c.in-Entities.is c.entity_at.ensures c.versions_tree-versions.ensures c.group-leaf.ensures
