use Rattle.accumulator.specs.Trees.{header_of}
use Rattle.proof_writer.proofs.Writing.{entity-is}
use native.Mathlib.Omega.{arith}
use Rattle.proof_writer.proofs.put_entity.Goals as goal

pub put_front-requires : goal.put_front-requires
put_front-requires c =
    ((c.requires.0.0, omega (arith, c.requires.0.1)), c.requires.1)

pub overflow_mul-path : goal.overflow_mul-path
overflow_mul-path c =
    let P = c.requires.0.0.path in
    omega (arith, P.shallow)

pub overflow_add-path : goal.overflow_add-path
overflow_add-path c =
    let P = c.requires.0.0.path in
    omega (arith, P.shallow)

pub put_group-requires : goal.put_group-requires
put_group-requires c =
    ((c.requires.0.0, omega (arith, c.requires.0.1, c.out-1.given)), c.requires.1)

pub returns : goal.returns
returns c =
    let a = c.args in
    λ ns G I. entity-is a.work.now _ ns G a.path I (header_of a.header) a.out.now _ _ c.requires.0.1 (c.put_front.ensures ns G I) (c.put_group.ensures ns G I)
