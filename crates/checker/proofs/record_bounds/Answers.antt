use native.Mathlib.Omega.{arith}
use Rattle.model.specs.Calls.{records_call}
use Rattle.model.proofs.CallLaws.{area_cleared}
use Rattle.checker.proofs.record_bounds.Goals as goal

pub returns-clause-cleared : goal.returns-clause-cleared
unfolding records_call
returns-clause-cleared c = area_cleared c.args.work.now c.bounds_asked-bounds.new.work _ (omega arith) c.clear.ensures
