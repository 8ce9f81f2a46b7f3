use Prim.Native.Nat.{◌-◌}
use Rattle.round_constants.proofs.Sieve.{Striking}
use Rattle.round_constants.proofs.strike_multiples.Given as goal

abbrev pub invariant-loop-m : goal.invariant-loop-m
invariant-loop-m l = Striking l.p l.initial.marks l.marks l.m

abbrev pub decreases-loop-m : goal.decreases-loop-m
decreases-loop-m l = 312 - l.m
