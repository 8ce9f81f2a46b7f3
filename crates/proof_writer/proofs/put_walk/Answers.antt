use Rattle.accumulator.specs.Trees.{header_of}
use Rattle.proof_writer.proofs.Writing.{walk_is}
use native.Mathlib.Omega.{arith}
use Rattle.proof_writer.proofs.put_walk.Goals as goal

pub put_entity-requires : goal.put_entity-requires
put_entity-requires c =
    let H = c.requires.0.0 in
    ((record { graph = H.graph; path = H.path }, omega (arith, c.requires.0.1)), c.requires.1)

pub overflow_mul-path : goal.overflow_mul-path
overflow_mul-path c =
    let P = c.requires.0.0.path in
    omega (arith, P.shallow)

pub overflow_add-path : goal.overflow_add-path
overflow_add-path c =
    let P = c.requires.0.0.path in
    omega (arith, P.shallow)

pub put_versions-requires : goal.put_versions-requires
put_versions-requires c =
    ((c.requires.0.0, omega (arith, c.requires.0.1, c.out-1.given)), c.requires.1)

pub returns : goal.returns
returns c =
    let a = c.args in
    λ ns G I Q. walk_is a.work.now _ ns G a.path I a.way Q (header_of a.header) a.out.now _ _ c.requires.0.1 (c.put_entity.ensures ns G I) (c.put_versions.ensures ns G I)
