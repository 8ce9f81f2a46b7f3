use Rattle.checker.proofs.RowLaws.{record_place_is}
use Rattle.checker.proofs.record_place.Goals as goal

pub returns : goal.returns
returns c = search record_place_is
