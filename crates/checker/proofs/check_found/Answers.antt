use Rattle.checker.proofs.Running.{found-only, found-trace}
use Rattle.checker.proofs.check_found.Goals as goal

pub returns-in-None : goal.returns-in-None
returns-in-None c = found-only _ _ _ _ _ _ _ c.in-None.is c.leaf_time-time.ensures c.end_here.ensures

pub returns-in-Some : goal.returns-in-Some
returns-in-Some c = found-trace _ _ _ _ _ _ _ c.in-Some.is c.check_trace.ensures
