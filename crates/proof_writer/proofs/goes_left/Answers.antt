use Rattle.question.proofs.Keys.{key_at_most}
use Rattle.proof_writer.proofs.Seeking.{among-entity, among-version, entity-left, left-entity, left-version}
use native.Mathlib.Omega.{arith}
use Rattle.proof_writer.proofs.goes_left.Goals as goal

pub overflow_sub-k : goal.overflow_sub-k
overflow_sub-k c =
    omega (arith, c.requires.2)

pub overflow_add-leaves : goal.overflow_add-leaves
overflow_add-leaves c =
    let A = among-entity c.args.descent c.args.work.now c.args.ranks c.args.leaves _ c.in-ByEntity.is c.requires.1 in
    omega (arith, c.requires.2, c.requires.3, A.inside, c.requires.0.fewer, c.requires.0.few)

pub entity_at-requires : goal.entity_at-requires
entity_at-requires c =
    let A = among-entity c.args.descent c.args.work.now c.args.ranks c.args.leaves _ c.in-ByEntity.is c.requires.1 in
    (c.requires.0, omega (arith, c.requires.2, c.requires.3, A.inside))

pub version_left-requires : goal.version_left-requires
version_left-requires c =
    (c.requires.0, among-version c.args.descent c.args.work.now c.args.ranks c.args.leaves _ _ c.in-ByTime.is c.requires.1, c.requires.2, c.requires.3)

pub returns-in-ByEntity : goal.returns-in-ByEntity
returns-in-ByEntity c =
    left-entity c.args.descent c.args.work.now c.args.ranks c.args.leaves.from c.args.leaves.n c.args.k _ _ c.in-ByEntity.is
    (entity-left c.args.work.now c.args.ranks c.args.leaves c.args.k c.requires.2 c.requires.3 _ _ _ c.entity_at.ensures (key_at_most _ _ _ c.le.ensures))

pub returns-in-ByTime : goal.returns-in-ByTime
returns-in-ByTime c =
    left-version c.args.descent c.args.work.now c.args.ranks c.args.leaves.from c.args.leaves.n c.args.k _ _ _ c.in-ByTime.is c.version_left.ensures
