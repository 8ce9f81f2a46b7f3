use Rattle.leaves.proofs.Keeping.{kept_leaf-read}
use Rattle.leaves.proofs.kept_leaf.Goals as goal

pub returns : goal.returns
returns c = kept_leaf-read c.args.work.now c.args.i _ _ c.time_of-time.ensures c.kept_digest-digest.ensures
