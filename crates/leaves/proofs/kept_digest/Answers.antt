use mathlib.Core.Path.{refl}
use Rattle.leaves.proofs.Keeping.{digest-read}
use Rattle.leaves.proofs.kept_digest.Goals as goal

pub returns : goal.returns
returns c = digest-read c.args.work.now _ _ c.args.i refl c.requires c.copy.ensures
