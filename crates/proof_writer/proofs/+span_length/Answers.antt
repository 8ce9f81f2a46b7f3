use Rattle.question.specs.Directions.{span_of}
use Rattle.accumulator.proofs.Splitting.{split_bounds}
use Rattle.proof_writer.proofs.Spans.{shut_size, leaf-size, branch-size}
use native.Mathlib.Omega.{arith}
use Rattle.proof_writer.proofs.+span_length.Goals as goal

pub meets-requires : goal.meets-requires
meets-requires t c = c.requires

pub returns-then-not-meets : goal.returns-then-not-meets
returns-then-not-meets t c =
    let a = c.args in
    let A = c.requires.1 in record {
      small = omega (arith, A.some);
      length = λ n ns G R. shut_size ns a.work.now (span_of a.span) n G a.ranks R a.leaves.from a.leaves.n A.some A.inside _ c.meets.ensures c.if-not-meets.true;
    }

pub returns-then-leaves-le1 : goal.returns-then-leaves-le1
returns-then-leaves-le1 t c =
    let a = c.args in
    let A = c.requires.1 in record {
      small = omega (arith, A.some);
      length = λ n ns G R. leaf-size ns a.work.now (span_of a.span) n G a.ranks R a.leaves.from a.leaves.n A.some A.inside _ c.meets.ensures c.if-not-meets.false c.if-leaves-le1.true;
    }

pub overflow_add-right : goal.overflow_add-right
overflow_add-right t c =
    let P = c.requires in
    omega (arith, (split_bounds c.args.leaves.n c.if-leaves-le1.false).1, c.split-k.ensures, P.1.inside, P.0.few)

pub overflow_sub-right : goal.overflow_sub-right
overflow_sub-right t c =
    omega (arith, (split_bounds c.args.leaves.n c.if-leaves-le1.false).1, c.split-k.ensures)

pub span_length-before-requires : goal.span_length-before-requires
span_length-before-requires t c =
    let P = c.requires in
    let b = split_bounds c.args.leaves.n c.if-leaves-le1.false in
    let b0 = b.0 in
    let b1 = b.1 in
    let e = c.split-k.ensures in
    (omega arith, (P.0, record { some = omega arith; inside = omega (arith, P.1.inside) }))

pub span_length-behind-requires : goal.span_length-behind-requires
span_length-behind-requires t c =
    let P = c.requires in
    let b = split_bounds c.args.leaves.n c.if-leaves-le1.false in
    let b0 = b.0 in
    let b1 = b.1 in
    let e = c.split-k.ensures in
    (omega arith, (P.0, record { some = omega arith; inside = omega (arith, P.1.inside) }))

pub overflow_add-result : goal.overflow_add-result
overflow_add-result t c =
    let P = c.requires in
    let b1 = (split_bounds c.args.leaves.n c.if-leaves-le1.false).1 in
    let e = c.split-k.ensures in
    omega (arith, c.span_length-before.ensures.small, c.span_length-behind.ensures.small, P.1.inside, P.0.few)

pub overflow_add-result-2 : goal.overflow_add-result-2
overflow_add-result-2 t c =
    let P = c.requires in
    let b1 = (split_bounds c.args.leaves.n c.if-leaves-le1.false).1 in
    let e = c.split-k.ensures in
    omega (arith, c.span_length-before.ensures.small, c.span_length-behind.ensures.small, P.1.inside, P.0.few)

pub returns : goal.returns
returns t c =
    let a = c.args in
    let A = c.requires.1 in
    let b = split_bounds a.leaves.n c.if-leaves-le1.false in
    let b0 = b.0 in
    let b1 = b.1 in
    let e = c.split-k.ensures in record {
      small = omega (arith, c.span_length-before.ensures.small, c.span_length-behind.ensures.small);
      length = λ n ns G R.
          let l = c.span_length-before.ensures.length n ns G R in
          let r = c.span_length-behind.ensures.length n ns G R in
          omega (arith, l, r, branch-size ns a.work.now (span_of a.span) n G a.ranks R a.leaves.from a.leaves.n A.some A.inside _ c.meets.ensures _ c.if-leaves-le1.false e c.if-not-meets.false);
    }
