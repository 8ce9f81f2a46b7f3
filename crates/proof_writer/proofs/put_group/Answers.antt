use Rattle.proof_writer.proofs.Writing.{group-is}
use native.Mathlib.Omega.{arith}
use Rattle.proof_writer.proofs.put_group.Goals as goal

pub versions_tree-versions-requires : goal.versions_tree-versions-requires
versions_tree-versions-requires c =
    let P = c.requires.0.0.path in
    ((P.ranked.ranked, P.inside), c.requires.1)

pub entity_at-entity-requires : goal.entity_at-entity-requires
entity_at-entity-requires c =
    let P = c.requires.0.0.path in
    (P.ranked.ranked, P.inside)

pub put_group-requires : goal.put_group-requires
put_group-requires c =
    omega (arith, c.requires.0.1)

pub returns : goal.returns
returns c =
    let a = c.args in
    λ ns G I. group-is a.work.now _ ns G a.path I _ a.at _ a.out.now _ c.entity_at-entity.ensures (c.versions_tree-versions.ensures I.kept.versions) c.put_group.ensures
