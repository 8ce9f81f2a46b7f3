use native.Mathlib.Omega.{arith}
use Rattle.std.proofs.lemmas.Result.{err_from_is_err_and}
use Rattle.trace_reader.proofs.Slotting.{absent-is}
use Rattle.trace_reader.proofs.Sequence.{none_read, stops-there, goes_on, all_read}
use Rattle.trace_reader.proofs.read_records.Goals as goal

pub loop-i-init : goal.loop-i-init
loop-i-init c = none_read _ _ _ _ _ c.requires.0

pub read_record-requires : goal.read_record-requires
read_record-requires c =
    let r = c.loop-i.invariant in
    (r.inside, omega arith, omega arith, omega (arith, absent-is))

pub returns-in_err-step : goal.returns-in_err-step
returns-in_err-step c =
    let p = err_from_is_err_and c.from_residual.result c.from_residual.ensures.1 in
    rw (p.1, p.2) (stops-there _ _ _ _ _ _ _ _ c.loop-i.invariant c.loop-i-test.true _ c.in_err-step.ensures)

pub loop-i-preserved : goal.loop-i-preserved
loop-i-preserved c = goes_on _ _ _ _ _ _ _ _ c.loop-i.invariant c.loop-i-test.true _ _ c.in_ok-step.ensures

pub returns : goal.returns
returns c = all_read _ _ _ _ _ _ _ _ c.loop-i.invariant (omega arith)
