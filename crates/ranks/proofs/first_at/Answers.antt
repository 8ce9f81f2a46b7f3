use native.Mathlib.Omega.{arith}
use Rattle.ranks.proofs.Reading.{first_below, first-end}
use Rattle.ranks.proofs.first_at.Goals as goal

pub overflow_mul-g : goal.overflow_mul-g
overflow_mul-g c =
    let R = c.requires.0 in
    omega (arith, c.if-g-ranks.true, R.fewer, R.few)

pub overflow_add-g : goal.overflow_add-g
overflow_add-g c =
    let R = c.requires.0 in
    omega (arith, c.if-g-ranks.true, R.fewer, R.few)

pub get_u16-requires : goal.get_u16-requires
get_u16-requires c =
    let R = c.requires.0 in
    omega (arith, c.if-g-ranks.true, R.fewer, R.room)

pub returns-then-g-ranks : goal.returns-then-g-ranks
returns-then-g-ranks c =
    let a = c.args in
    first_below a.work.now a.ranks a.g _ c.if-g-ranks.true c.get_u16.ensures

pub returns : goal.returns
returns c =
    let a = c.args in
    first-end a.work.now a.ranks a.g c.if-g-ranks.false
