use Rattle.question.specs.Directions.{span_of}
use Rattle.accumulator.specs.Trees.{header_of}
use Rattle.proof_writer.proofs.Planning.{reached_range, reached-kept, list_put, list_space, list_room}
use Rattle.proof_writer.proofs.Writing.{list_is}
use native.Mathlib.Omega.{arith}
use Rattle.proof_writer.proofs.put_listed.Goals as goal

pub put_entity-requires : goal.put_entity-requires
put_entity-requires c =
    let H = c.requires.0 in
    ((record { graph = H.graph; path = H.path }, omega (arith, H.space)), c.requires.1)

pub put_span-requires : goal.put_span-requires
put_span-requires c =
    let a = c.args in
    let H = c.requires.0 in
    let v = c.reached_versions-leaves.ensures in
    let b = reached_range a.work.now _ H.graph.ns H.graph.graphed a.path H.path _ _ v.from v.number in (
      record {
        ns = H.graph.ns;
        graphed = H.graph.graphed;
        ranked = H.path.ranked;
        among = record { some = b.0; inside = b.1 };
        space = list_space a.work.now _ H.graph.ns H.graph.graphed a.path H.path _ _ v.from v.number a.span _ _ H.space c.out-1.given;
      },
      c.requires.1,
    )

pub returns : goal.returns
returns c =
    let a = c.args in
    let v = c.reached_versions-leaves.ensures in
    λ ns G I.
    list_is a.work.now _ ns G a.path I (span_of a.span) (header_of a.header) a.out.now _ _
    (list_room a.work.now _ _ ns a.path (span_of a.span) c.requires.0 G)
    (c.put_entity.ensures ns G I)
    (list_put a.work.now _ ns G a.path I _ _ v.from v.number a.span _ _ _
    (c.put_span.ensures.strings ns G I.ranked (reached-kept a.work.now _ ns G a.path I _ _ v.from v.number)))
