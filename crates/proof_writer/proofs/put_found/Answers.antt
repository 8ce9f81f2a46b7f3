use Rattle.accumulator.specs.Trees.{header_of}
use Rattle.proof_writer.proofs.Writing.{found-is}
use native.Mathlib.Omega.{arith}
use Rattle.proof_writer.proofs.put_found.Goals as goal

pub put_walk-requires : goal.put_walk-requires
put_walk-requires c =
    ((c.requires.0.0, omega (arith, c.requires.0.2)), c.requires.1)

pub overflow_mul-path : goal.overflow_mul-path
overflow_mul-path c =
    let P = c.requires.0.0.path in
    omega (arith, P.shallow)

pub overflow_add-path : goal.overflow_add-path
overflow_add-path c =
    let P = c.requires.0.0.path in
    omega (arith, P.shallow)

pub overflow_mul-way : goal.overflow_mul-way
overflow_mul-way c =
    let H = c.requires.0.0 in
    omega (arith, H.way.shallow)

pub overflow_add-path-2 : goal.overflow_add-path-2
overflow_add-path-2 c =
    let H = c.requires.0.0 in
    omega (arith, H.path.shallow, H.way.shallow)

pub put_version-requires : goal.put_version-requires
put_version-requires c =
    (c.requires.0.0.graph, c.requires.0.1, omega (arith, c.requires.0.2, c.out-1.given))

pub returns : goal.returns
returns c =
    let a = c.args in
    λ ns G I Q. found-is a.work.now _ ns G a.path I a.way Q a.slot c.requires.0.1 (header_of a.header) a.out.now _ _ c.requires.0.2 (c.put_walk.ensures ns G I Q) (c.put_version.ensures ns G)
