use Rattle.proof_writer.proofs.Planning.{reached-number, reached_range, reached-kept}
use Rattle.proof_writer.proofs.Writing.{versions-is}
use native.Mathlib.Omega.{arith}
use Rattle.proof_writer.proofs.put_versions.Goals as goal

pub overflow_add-leaves : goal.overflow_add-leaves
overflow_add-leaves c =
    let H = c.requires.0.0 in
    let v = c.reached_versions-leaves.ensures in
    let b = reached_range c.args.work.now _ H.graph.ns H.graph.graphed c.args.path H.path _ _ v.from v.number in
    let n = reached-number c.args.work.now _ H.graph.ns H.graph.graphed c.args.path H.path _ _ v.from v.number in
    omega (arith, b.1, n, H.way.inside, H.path.ranked.ranked.few)

pub put_way-requires : goal.put_way-requires
put_way-requires c =
    let H = c.requires.0.0 in
    let v = c.reached_versions-leaves.ensures in
    let b = reached_range c.args.work.now _ H.graph.ns H.graph.graphed c.args.path H.path _ _ v.from v.number in
    let n = reached-number c.args.work.now _ H.graph.ns H.graph.graphed c.args.path H.path _ _ v.from v.number in
    ((H.path.ranked.ranked, record { some = b.0; inside = b.1 }, omega arith, omega (arith, n, H.way.inside), c.requires.0.1), c.requires.1)

pub returns : goal.returns
returns c =
    let a = c.args in
    let v = c.reached_versions-leaves.ensures in
    λ ns G I.
    versions-is a.work.now _ ns G a.path I a.way _ _ a.at a.out.now _ v.from v.number
    (c.put_way.ensures tt (reached-kept a.work.now _ ns G a.path I _ _ v.from v.number))
