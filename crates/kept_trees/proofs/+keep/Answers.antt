use Rattle.graph.specs.Table.{columns}
use mathlib.Core.List.{[], ◌∷◌}
use Rattle.graph.proofs.Slots.{kept-none}
use Rattle.accumulator.proofs.Splitting.{split_bounds}
use Rattle.kept_trees.specs.Leaves.{row_leaves}
use Rattle.kept_trees.proofs.Building.{keeping_one}
use Rattle.kept_trees.proofs.Rows.{digests_beside, ranked-same, left-within, right-within, middle_inside, size_small, slot-there, left-leaves, right-leaves, kept-all, keep_two}
use native.Mathlib.Omega.{arith}
use Rattle.kept_trees.proofs.+keep.Goals as goal

pub kept_node-requires : goal.kept_node-requires
kept_node-requires t c =
    let P = c.requires.0 in
    (P.0, P.1, omega (arith, P.1.some))

pub returns-then-n-le1 : goal.returns-then-n-le1
returns-then-n-le1 t c =
    let a = c.args in
    let P = c.requires.0 in
    record {
      kept = kept-none _ a.work.now;
      tree = keeping_one (row_leaves a.row a.work.now a.ranks) a.work.now a.from a.n _ P.1.some c.if-n-le1.true c.kept_node.ensures P.2;
    }

pub keep-left-requires : goal.keep-left-requires
keep-left-requires t c =
    let a = c.args in
    let P = c.requires.0 in
    let q = split_bounds a.n c.if-n-le1.false in
    let q1 = q.1 in
    let e = c.split-k.ensures in
    (omega arith, ((P.0, left-within a.row a.ranks a.from a.n _ c.if-n-le1.false e P.1, left-leaves a.row a.work.now a.ranks a.from a.n _ c.if-n-le1.false e P.2), c.requires.1))

pub overflow_add-from : goal.overflow_add-from
overflow_add-from t c =
    let a = c.args in
    let P = c.requires.0 in
    let q = split_bounds a.n c.if-n-le1.false in
    omega (arith, q.1, c.split-k.ensures, P.1.inside, size_small a.row a.work.now a.ranks P.0)

pub overflow_sub-n : goal.overflow_sub-n
overflow_sub-n t c =
    let q = split_bounds c.args.n c.if-n-le1.false in
    omega (arith, q.1, c.split-k.ensures)

pub keep-right-requires : goal.keep-right-requires
keep-right-requires t c =
    let a = c.args in
    let P = c.requires.0 in
    let q = split_bounds a.n c.if-n-le1.false in
    let q0 = q.0 in
    let q1 = q.1 in
    let e = c.split-k.ensures in
    (omega arith, ((ranked-same (columns 84 116 ∷ []) a.work.now _ c.keep-left.ensures.kept digests_beside a.ranks P.0, right-within a.row a.ranks a.from a.n _ c.if-n-le1.false e P.1, right-leaves a.row a.work.now _ a.ranks a.from a.n _ _ P.0 P.1 c.if-n-le1.false e c.keep-left.ensures.kept c.keep-left.ensures.tree P.2), c.requires.1))

pub parent-top-requires : goal.parent-top-requires
parent-top-requires t c =
    c.requires.1

pub overflow_add-from-2 : goal.overflow_add-from-2
overflow_add-from-2 t c =
    let a = c.args in
    let P = c.requires.0 in
    let q = split_bounds a.n c.if-n-le1.false in
    omega (arith, q.1, c.split-k.ensures, P.1.inside, size_small a.row a.work.now a.ranks P.0)

pub slot_of-slot-requires : goal.slot_of-slot-requires
slot_of-slot-requires t c =
    let a = c.args in
    let P = c.requires.0 in
    let R1 = ranked-same (columns 84 116 ∷ []) a.work.now _ c.keep-left.ensures.kept digests_beside a.ranks P.0 in
    (ranked-same (columns 84 116 ∷ []) _ _ c.keep-right.ensures.kept digests_beside a.ranks R1, middle_inside a.row a.ranks a.from a.n _ c.if-n-le1.false c.split-k.ensures P.1)

pub keep_digest-requires : goal.keep_digest-requires
keep_digest-requires t c =
    let a = c.args in
    let P = c.requires.0 in
    let R1 = ranked-same (columns 84 116 ∷ []) a.work.now _ c.keep-left.ensures.kept digests_beside a.ranks P.0 in
    let R2 = ranked-same (columns 84 116 ∷ []) _ _ c.keep-right.ensures.kept digests_beside a.ranks R1 in
    slot-there a.row _ a.ranks _ _ R2 (middle_inside a.row a.ranks a.from a.n _ c.if-n-le1.false c.split-k.ensures P.1) c.slot_of-slot.ensures

pub returns : goal.returns
returns t c =
    let a = c.args in
    let P = c.requires.0 in
    let K1 = c.keep-left.ensures.kept in
    let K2 = c.keep-right.ensures.kept in
    let S = c.keep_digest.ensures in record {
      kept = kept-all a.work.now _ _ _ _ _ K1 K2 S;
      tree = keep_two a.row a.work.now _ _ _ a.ranks a.from a.n _ _ _ _ _ _ P.0 P.1 c.if-n-le1.false c.split-k.ensures K1 c.keep-left.ensures.tree K2 c.keep-right.ensures.tree c.letter_of.ensures c.parent-top.ensures c.slot_of-slot.ensures S;
    }
