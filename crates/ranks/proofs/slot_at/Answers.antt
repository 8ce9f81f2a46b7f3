use Rattle.ranks.proofs.Reading.{slot_read}
use Rattle.ranks.proofs.slot_at.Goals as goal

pub returns : goal.returns
returns c = slot_read c.args.work.now _ _ c.get_u16.ensures
