use native.Mathlib.Omega.{arith}
use Rattle.model.specs.Calls.{check_call}
use Rattle.model.proofs.CallLaws.{area_cleared}
use Rattle.checker.proofs.Calls.{call_result, call_output}
use Rattle.checker.proofs.check.Goals as goal

pub returns : goal.returns
unfolding check_call
returns c =
    let a = c.args in
    let r = c.check_asked-checking in
    record {
      result = call_result _ _ _ _ _ _ _ a.work.now _ _ r.ensures;
      output = call_output _ _ _ _ _ _ _ a.work.now _ _ r.ensures;
      cleared = area_cleared a.work.now r.new.work _ (omega arith) c.clear.ensures;
    }
