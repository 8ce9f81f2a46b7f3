use borrow.Author.Rules.{rules}
use Rattle.accumulator.proofs.Splitting.{split_bounds}
use Rattle.kept_trees.specs.Leaves.{row_leaves}
use Rattle.kept_trees.proofs.Building.{kept_halves}
use Rattle.kept_trees.proofs.Ways.{way-stops, way-leaf, way-left, way-right}
use Rattle.kept_trees.proofs.Rows.{branch-letter, row_32, size_small, left-within, right-within}
use native.Mathlib.Omega.{arith}
use Rattle.kept_trees.proofs.+put_way.Goals as goal

pub returns-then-depth-eq0 : goal.returns-then-depth-eq0
returns-then-depth-eq0 t c =
    let a = c.args in
    let P = c.requires.0 in
    λ ready kept. way-stops (row_leaves a.row a.work.now a.ranks) a.from a.n a.target a.depth a.out.now a.at P.1.some c.if-depth-eq0.true

pub returns-then-n-le1 : goal.returns-then-n-le1
returns-then-n-le1 t c =
    let a = c.args in
    let P = c.requires.0 in
    λ ready kept. way-leaf (row_leaves a.row a.work.now a.ranks) a.from a.n a.target a.depth a.out.now a.at P.1.some c.if-n-le1.true

pub kept_tree-left-requires : goal.kept_tree-left-requires
kept_tree-left-requires t c =
    let a = c.args in
    let P = c.requires.0 in
    ((P.0, left-within a.row a.ranks a.from a.n _ c.if-n-le1.false c.split-k.ensures P.1), c.requires.1)

pub overflow_add-from : goal.overflow_add-from
overflow_add-from t c =
    let a = c.args in
    let P = c.requires.0 in
    omega (arith, (split_bounds a.n c.if-n-le1.false).1, c.split-k.ensures, P.1.inside, size_small a.row a.work.now a.ranks P.0)

pub overflow_sub-n : goal.overflow_sub-n
overflow_sub-n t c =
    omega (arith, (split_bounds c.args.n c.if-n-le1.false).1, c.split-k.ensures)

pub kept_tree-right-requires : goal.kept_tree-right-requires
kept_tree-right-requires t c =
    let a = c.args in
    let P = c.requires.0 in
    ((P.0, right-within a.row a.ranks a.from a.n _ c.if-n-le1.false c.split-k.ensures P.1), c.requires.1)

pub put_branch-requires : goal.put_branch-requires
put_branch-requires t c =
    let a = c.args in
    let P = c.requires.0 in
    let d = c.if-depth-eq0.false in
    omega (arith, P.4)

pub overflow_add-from-2 : goal.overflow_add-from-2
overflow_add-from-2 t c =
    let a = c.args in
    let P = c.requires.0 in
    omega (arith, (split_bounds a.n c.if-n-le1.false).1, c.split-k.ensures, P.1.inside, size_small a.row a.work.now a.ranks P.0)

pub overflow_sub-depth : goal.overflow_sub-depth
overflow_sub-depth t c =
    let d = c.if-depth-eq0.false in
    search rules

pub overflow_add-at : goal.overflow_add-at
overflow_add-at t c =
    let P = c.requires.0 in
    let d = c.if-depth-eq0.false in
    let f = P.4 in
    search rules

pub put_way-requires : goal.put_way-requires
put_way-requires t c =
    let a = c.args in
    let P = c.requires.0 in
    let q1 = (split_bounds a.n c.if-n-le1.false).1 in
    let e = c.split-k.ensures in
    let d = c.if-depth-eq0.false in
    let f = P.4 in
    let z = c.out-1.given in
    (omega arith, ((P.0, left-within a.row a.ranks a.from a.n _ c.if-n-le1.false e P.1, P.2, c.if-target-from.true, omega arith), c.requires.1))

pub returns-then-target-from : goal.returns-then-target-from
returns-then-target-from t c =
    let a = c.args in
    let P = c.requires.0 in
    let R = row_leaves a.row a.work.now a.ranks in
    λ ready kept.
    let h = kept_halves R a.work.now a.from a.n _ c.if-n-le1.false c.split-k.ensures kept in
    way-left R a.from a.n a.target a.depth a.out.now a.at P.1.some (row_32 a.row a.work.now a.ranks) _ c.if-n-le1.false c.if-depth-eq0.false c.split-k.ensures _ _ P.2 P.4
    (c.kept_tree-left.ensures ready h.left) (c.kept_tree-right.ensures ready h.right) _ _
    (branch-letter a.row a.work.now a.ranks _ _ _ _ _ _ c.letter_of.ensures c.put_branch.ensures) c.if-target-from.true
    (c.put_way.ensures ready h.left)

pub overflow_add-from-3 : goal.overflow_add-from-3
overflow_add-from-3 t c =
    let a = c.args in
    let P = c.requires.0 in
    omega (arith, (split_bounds a.n c.if-n-le1.false).1, c.split-k.ensures, P.1.inside, size_small a.row a.work.now a.ranks P.0)

pub overflow_sub-n-2 : goal.overflow_sub-n-2
overflow_sub-n-2 t c =
    omega (arith, (split_bounds c.args.n c.if-n-le1.false).1, c.split-k.ensures)

pub overflow_sub-depth-2 : goal.overflow_sub-depth-2
overflow_sub-depth-2 t c =
    let d = c.if-depth-eq0.false in
    search rules

pub overflow_add-at-2 : goal.overflow_add-at-2
overflow_add-at-2 t c =
    let P = c.requires.0 in
    let d = c.if-depth-eq0.false in
    let f = P.4 in
    search rules

pub put_way-requires-2 : goal.put_way-requires-2
put_way-requires-2 t c =
    let a = c.args in
    let P = c.requires.0 in
    let q0 = (split_bounds a.n c.if-n-le1.false).0 in
    let q1 = (split_bounds a.n c.if-n-le1.false).1 in
    let e = c.split-k.ensures in
    let d = c.if-depth-eq0.false in
    let f = P.4 in
    let t = P.3 in
    let z = c.out-1.given in
    (omega arith, ((P.0, right-within a.row a.ranks a.from a.n _ c.if-n-le1.false e P.1, c.if-target-from.false, omega arith, omega arith), c.requires.1))

pub returns : goal.returns
returns t c =
    let a = c.args in
    let P = c.requires.0 in
    let R = row_leaves a.row a.work.now a.ranks in
    λ ready kept.
    let h = kept_halves R a.work.now a.from a.n _ c.if-n-le1.false c.split-k.ensures kept in
    way-right R a.from a.n a.target a.depth a.out.now a.at P.1.some (row_32 a.row a.work.now a.ranks) _ c.if-n-le1.false c.if-depth-eq0.false c.split-k.ensures _ _ P.2 P.4
    (c.kept_tree-left.ensures ready h.left) (c.kept_tree-right.ensures ready h.right) _ _
    (branch-letter a.row a.work.now a.ranks _ _ _ _ _ _ c.letter_of.ensures c.put_branch.ensures) c.if-target-from.false
    (c.put_way-2.ensures ready h.right)
