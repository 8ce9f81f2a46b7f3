use Rattle.std.proofs.Common.{refl}
use Rattle.sha256.proofs.Messages.{held_none}
use Rattle.sha256.proofs.new.Goals as goal

pub returns : goal.returns
returns c = record { held = held_none _ _ c.initial.ensures; count = refl }
