use native.Mathlib.Omega.{arith}
use Rattle.round_constants.proofs.Filling.{filled_none, next-there, next_six, filled_more, filled-all}
use Rattle.round_constants.proofs.work_out.Goals as goal

pub loop-i-init : goal.loop-i-init
loop-i-init c = filled_none

pub strike_multiples-requires : goal.strike_multiples-requires
strike_multiples-requires c = (c.loop-i.invariant.sieved.size, (omega (arith, c.next_prime-q.ensures.low), next-there _ _ _ _ _ _ c.loop-i.invariant c.loop-i-test.true c.next_prime-q.ensures))

pub fraction-requires : goal.fraction-requires
fraction-requires c = next_six _ _ _ _ _ _ _ c.loop-i.invariant c.loop-i-test.true c.next_prime-q.ensures c.raised_root-c.ensures.0

pub loop-i-preserved : goal.loop-i-preserved
loop-i-preserved c = filled_more _ _ _ _ _ _ _ _ _ c.loop-i.invariant c.loop-i-test.true c.next_prime-q.ensures c.strike_multiples.ensures c.raised_root-c.ensures.0 c.fraction.ensures

pub returns : goal.returns
returns c = search filled-all
