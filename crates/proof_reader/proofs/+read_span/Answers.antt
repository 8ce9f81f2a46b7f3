use Rattle.std.proofs.lemmas.Result.{err_from_is_err_and}
use borrow.Author.Rules.{rules}
use native.Mathlib.Omega.{arith}
use Rattle.proof_reader.proofs.Spans.{shut_here, halts_here, leaf-here, inner_there, left-refused, right-refused, all_read, both-here, counts_fit}
use Rattle.proof_reader.proofs.+read_span.Goals as goal

pub returns-then-not-meets : goal.returns-then-not-meets
returns-then-not-meets t c = shut_here _ _ _ _ _ _ c.meets.ensures c.if-not-meets.true c.requires.0.0.0

pub returns-in_err-open_due : goal.returns-in_err-open_due
returns-in_err-open_due t c =
    let p = err_from_is_err_and c.from_residual.result c.from_residual.ensures.1 in
    rw (p.1, p.2) (halts_here _ _ _ _ _ _ c.meets.ensures c.if-not-meets.false _ c.in_err-open_due.ensures)

pub returns-in-Leaf : goal.returns-in-Leaf
returns-in-Leaf t c = leaf-here _ _ _ _ _ _ c.meets.ensures c.if-not-meets.false _ c.in_ok-open_due.ensures c.in-Leaf.is

pub overflow_sub-n : goal.overflow_sub-n
overflow_sub-n t c =
    let h = inner_there _ _ _ _ _ c.in_ok-open_due.ensures c.in-Inner.is in
    let h1 = h.1 in
    search rules

pub read_span-requires : goal.read_span-requires
read_span-requires t c =
    let h = inner_there _ _ _ _ _ c.in_ok-open_due.ensures c.in-Inner.is in
    let h0 = h.0 in
    let h1 = h.1 in
    let f = c.requires.0.1 in
    (omega arith, (((omega arith, omega arith), omega arith), c.requires.1))

pub returns-in_err-below-in-Inner : goal.returns-in_err-below-in-Inner
returns-in_err-below-in-Inner t c =
    let p = err_from_is_err_and c.from_residual-in_err-below-in-Inner.result c.from_residual-in_err-below-in-Inner.ensures.1 in
    rw (p.1, p.2)
    (left-refused _ _ _ _ _ _ c.meets.ensures c.if-not-meets.false _ c.in_ok-open_due.ensures c.in-Inner.is _ c.new-left.ensures _ c.in_err-below-in-Inner.ensures)

pub overflow_sub-n-in-Inner : goal.overflow_sub-n-in-Inner
overflow_sub-n-in-Inner t c =
    let h = inner_there _ _ _ _ _ c.in_ok-open_due.ensures c.in-Inner.is in
    let h1 = h.1 in
    search rules

pub read_span-requires-in-Inner : goal.read_span-requires-in-Inner
read_span-requires-in-Inner t c =
    let h = inner_there _ _ _ _ _ c.in_ok-open_due.ensures c.in-Inner.is in
    let h0 = h.0 in
    let h1 = h.1 in
    let m = (all_read _ _ _ _ _ _ c.in_ok-below-in-Inner.ensures).inside in
    let f = c.requires.0.1 in
    (omega arith, (((omega arith, omega arith), omega arith), c.requires.1))

pub returns-in_err-behind-in-Inner : goal.returns-in_err-behind-in-Inner
returns-in_err-behind-in-Inner t c =
    let p = err_from_is_err_and c.from_residual-in_err-behind-in-Inner.result c.from_residual-in_err-behind-in-Inner.ensures.1 in
    rw (p.1, p.2)
    (right-refused _ _ _ _ _ _ c.meets.ensures c.if-not-meets.false _ c.in_ok-open_due.ensures c.in-Inner.is _ c.new-left.ensures _ c.in_ok-below-in-Inner.ensures _
    c.new-right.ensures _ c.in_err-behind-in-Inner.ensures)

pub overflow_add-result-in-Inner : goal.overflow_add-result-in-Inner
overflow_add-result-in-Inner t c =
    let h = counts_fit _ _ _ _ _ _ c.in_ok-below-in-Inner.ensures _ _ _ c.in_ok-behind-in-Inner.ensures c.requires.0.1 in
    search rules

pub returns-in_ok-behind-in-Inner : goal.returns-in_ok-behind-in-Inner
returns-in_ok-behind-in-Inner t c =
    both-here _ _ _ _ _ _ c.meets.ensures c.if-not-meets.false _ c.in_ok-open_due.ensures c.in-Inner.is _ c.new-left.ensures _ c.in_ok-below-in-Inner.ensures _
    c.new-right.ensures _ c.in_ok-behind-in-Inner.ensures
