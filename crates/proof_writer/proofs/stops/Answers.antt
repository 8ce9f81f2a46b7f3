use Rattle.proof_writer.proofs.Seeking.{among-entity, among-version, stops-entity, stops-version}
use Rattle.proof_writer.proofs.stops.Goals as goal

pub outside-requires : goal.outside-requires
outside-requires c =
    (c.requires.0, among-entity c.args.descent c.args.work.now c.args.ranks c.args.leaves _ c.in-ByEntity.is c.requires.1)

pub unmet-requires : goal.unmet-requires
unmet-requires c =
    (c.requires.0, among-version c.args.descent c.args.work.now c.args.ranks c.args.leaves _ _ c.in-ByTime.is c.requires.1)

pub returns-in-ByEntity : goal.returns-in-ByEntity
returns-in-ByEntity c =
    stops-entity c.args.descent c.args.work.now c.args.ranks c.args.leaves.from c.args.leaves.n _ _ c.in-ByEntity.is c.outside.ensures

pub returns-in-ByTime : goal.returns-in-ByTime
returns-in-ByTime c =
    stops-version c.args.descent c.args.work.now c.args.ranks c.args.leaves.from c.args.leaves.n _ _ _ c.in-ByTime.is c.unmet.ensures
