use native.Mathlib.Omega.{arith}
use mathlib.Core.Path.{ap₂}
use Prim.Native.Nat.{◌+◌, ◌-◌}
use Rattle.ranks.specs.Ranked.{count_in}
use Rattle.ranks.proofs.count_at.Goals as goal

pub overflow_sub-result : goal.overflow_sub-result
overflow_sub-result c =
    let g = c.args.g in
    omega (arith, c.requires.0.rise g (g + 1) (omega arith) (omega (arith, c.requires.1)), c.first_at-next.ensures, c.first_at.ensures)

pub returns : goal.returns
unfolding count_in
returns c = ap₂ ◌-◌ c.first_at-next.ensures c.first_at.ensures
