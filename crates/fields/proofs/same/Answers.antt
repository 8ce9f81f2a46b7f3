use Rattle.fields.proofs.Slices.{compared}
use Rattle.fields.proofs.same.Goals as goal

pub returns : goal.returns
returns c = compared _ _ _ _ _ _ c.eq.ensures
