use borrow.Author.Rules.{rules}
use mathlib.Core.Path.{refl}
use lib.ListN.{length}
use Rattle.question.specs.Directions.{span_of}
use Rattle.accumulator.proofs.Splitting.{split_bounds}
use Rattle.kept_trees.specs.Leaves.{versions_row}
use Rattle.kept_trees.proofs.Building.{kept_halves}
use Rattle.proof_writer.proofs.Spans.{shut_size, shut_put, leaf-size, leaf_put, branch-size, branch_put, room_for}
use native.Mathlib.Omega.{arith}
use Rattle.proof_writer.proofs.+put_span.Goals as goal

pub meets-requires : goal.meets-requires
meets-requires t c =
    let F = c.requires.0 in
    (F.ranked.ranked, F.among)

pub returns-then-not-meets : goal.returns-then-not-meets
returns-then-not-meets t c =
    let a = c.args in
    let A = c.requires.0.among in record {
      end = λ ns G R. omega (arith, shut_size ns a.work.now (span_of a.span) _ G a.ranks R a.leaves.from a.leaves.n A.some A.inside _ c.meets.ensures c.if-not-meets.true);
      strings = λ ns G R T. shut_put ns a.work.now (span_of a.span) _ G a.ranks R a.leaves.from a.leaves.n A.some A.inside _ c.meets.ensures c.if-not-meets.true a.out.now a.at;
    }

pub slot_at-requires : goal.slot_at-requires
slot_at-requires t c =
    let F = c.requires.0 in
    omega (arith, F.among.some, F.among.inside, F.ranked.ranked.room)

pub put_version-requires : goal.put_version-requires
put_version-requires t c =
    let a = c.args in
    let F = c.requires.0 in
    let z = leaf-size F.ns a.work.now (span_of a.span) _ F.graphed a.ranks F.ranked a.leaves.from a.leaves.n F.among.some F.among.inside _ c.meets.ensures c.if-not-meets.false c.if-leaves-le1.true in
    let i = F.ranked.inside a.leaves.from (omega (arith, F.among.some, F.among.inside)) in
    (record { ns = F.ns; graphed = F.graphed }, omega (arith, i, c.slot_at.ensures, F.graphed.number), omega (arith, z, F.space))

pub overflow_add-result : goal.overflow_add-result
overflow_add-result t c =
    let a = c.args in
    let F = c.requires.0 in
    let z = leaf-size F.ns a.work.now (span_of a.span) _ F.graphed a.ranks F.ranked a.leaves.from a.leaves.n F.among.some F.among.inside _ c.meets.ensures c.if-not-meets.false c.if-leaves-le1.true in
    let y = F.space in
    search rules

pub returns-then-leaves-le1 : goal.returns-then-leaves-le1
returns-then-leaves-le1 t c =
    let a = c.args in
    let A = c.requires.0.among in record {
      end = λ ns G R. omega (arith, leaf-size ns a.work.now (span_of a.span) _ G a.ranks R a.leaves.from a.leaves.n A.some A.inside _ c.meets.ensures c.if-not-meets.false c.if-leaves-le1.true);
      strings = λ ns G R T. leaf_put ns a.work.now (span_of a.span) _ G a.ranks R a.leaves.from a.leaves.n A.some A.inside _ c.meets.ensures c.if-not-meets.false c.if-leaves-le1.true a.out.now _ a.at _ c.slot_at.ensures (c.put_version.ensures ns G);
    }

pub put_node-requires : goal.put_node-requires
put_node-requires t c =
    let a = c.args in
    let F = c.requires.0 in
    let b = split_bounds a.leaves.n c.if-leaves-le1.false in
    let e = c.split-k.ensures in
    let z = branch-size F.ns a.work.now (span_of a.span) _ F.graphed a.ranks F.ranked a.leaves.from a.leaves.n F.among.some F.among.inside _ c.meets.ensures _ c.if-leaves-le1.false e c.if-not-meets.false in
    ((F.ranked.ranked, F.among, omega (arith, b.0), omega (arith, b.1), omega (arith, z, F.space)), c.requires.1)

pub overflow_add-right : goal.overflow_add-right
overflow_add-right t c =
    let a = c.args in
    let F = c.requires.0 in
    omega (arith, (split_bounds a.leaves.n c.if-leaves-le1.false).1, c.split-k.ensures, F.among.inside, F.ranked.ranked.few)

pub overflow_sub-right : goal.overflow_sub-right
overflow_sub-right t c =
    omega (arith, (split_bounds c.args.leaves.n c.if-leaves-le1.false).1, c.split-k.ensures)

pub overflow_add-at : goal.overflow_add-at
overflow_add-at t c =
    let a = c.args in
    let F = c.requires.0 in
    let z = branch-size F.ns a.work.now (span_of a.span) _ F.graphed a.ranks F.ranked a.leaves.from a.leaves.n F.among.some F.among.inside _ c.meets.ensures _ c.if-leaves-le1.false c.split-k.ensures c.if-not-meets.false in
    let y = F.space in
    search rules

pub put_span-middle-requires : goal.put_span-middle-requires
put_span-middle-requires t c =
    let a = c.args in
    let F = c.requires.0 in
    let b = split_bounds a.leaves.n c.if-leaves-le1.false in
    let b0 = b.0 in
    let b1 = b.1 in
    let e = c.split-k.ensures in
    let z = branch-size F.ns a.work.now (span_of a.span) _ F.graphed a.ranks F.ranked a.leaves.from a.leaves.n F.among.some F.among.inside _ c.meets.ensures _ c.if-leaves-le1.false e c.if-not-meets.false in
    (omega arith, (record { ns = F.ns; graphed = F.graphed; ranked = F.ranked; among = record { some = omega arith; inside = omega (arith, F.among.inside) }; space = omega (arith, z, F.space, c.out-2-1.given) }, c.requires.1))

pub put_span-requires : goal.put_span-requires
put_span-requires t c =
    let a = c.args in
    let F = c.requires.0 in
    let b = split_bounds a.leaves.n c.if-leaves-le1.false in
    let b0 = b.0 in
    let b1 = b.1 in
    let e = c.split-k.ensures in
    let z = branch-size F.ns a.work.now (span_of a.span) _ F.graphed a.ranks F.ranked a.leaves.from a.leaves.n F.among.some F.among.inside _ c.meets.ensures _ c.if-leaves-le1.false e c.if-not-meets.false in
    let m = c.put_span-middle.ensures.end F.ns F.graphed F.ranked in
    (omega arith, (record { ns = F.ns; graphed = F.graphed; ranked = F.ranked; among = record { some = omega arith; inside = omega (arith, F.among.inside) }; space = omega (arith, z, m, F.space, c.out-2-1.given, c.out-3-1.given) }, c.requires.1))

pub returns : goal.returns
returns t c =
    let a = c.args in
    let F = c.requires.0 in
    let A = F.among in
    let e = c.split-k.ensures in record {
      end = λ ns G R.
          let l = c.put_span-middle.ensures.end ns G R in
          let r = c.put_span.ensures.end ns G R in
          omega (arith, l, r, branch-size ns a.work.now (span_of a.span) _ G a.ranks R a.leaves.from a.leaves.n A.some A.inside _ c.meets.ensures _ c.if-leaves-le1.false e c.if-not-meets.false);
      strings = λ ns G R T.
          let h = kept_halves (versions_row a.work.now) a.work.now a.leaves.from a.leaves.n _ c.if-leaves-le1.false e T in
          branch_put ns a.work.now (span_of a.span) _ G a.ranks R a.leaves.from a.leaves.n A.some A.inside _ c.meets.ensures _ c.if-leaves-le1.false e c.if-not-meets.false _ _ a.out.now _ _ _ a.at _ refl refl
          (room_for a.work.now _ F.ns ns F.graphed G (span_of a.span) a.leaves.from a.leaves.n a.at (length a.out.now) F.space)
          (c.put_node.ensures h.left h.right) (c.put_span-middle.ensures.strings ns G R h.left) (c.put_span-middle.ensures.end ns G R) (c.put_span.ensures.strings ns G R h.right);
    }
