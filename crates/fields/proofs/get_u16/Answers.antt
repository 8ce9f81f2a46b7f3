use native.Mathlib.Omega.{arith}
use Rattle.fields.proofs.Numbers.{octets}
use Rattle.fields.proofs.Places.{field_below}
use Rattle.fields.proofs.get_u16.Goals as goal

pub overflow_cast-result : goal.overflow_cast-result
overflow_cast-result c =
    let a = c.args in
    omega (arith, field_below 2 a.s.now a.at (octets a.s.now (λ j. (c.type_inv.s j).fits)))
