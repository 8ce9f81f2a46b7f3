use Rattle.fields.proofs.Slices.{copied}
use Rattle.fields.proofs.copy.Goals as goal

pub returns : goal.returns
returns c = copied _ _ _ _ _ _ c.requires.1 c.copy_from_slice.ensures.after
