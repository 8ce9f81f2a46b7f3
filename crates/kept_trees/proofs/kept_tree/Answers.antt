use native.Mathlib.Omega.{arith}
use mathlib.Core.Path.{sym, ◌∙◌}
use Rattle.accumulator.proofs.Splitting.{split_bounds}
use Rattle.kept_trees.specs.Leaves.{row_leaves}
use Rattle.kept_trees.proofs.Stretches.{tree-leaf}
use Rattle.kept_trees.proofs.Building.{node-is}
use Rattle.kept_trees.proofs.kept_tree.Goals as goal

pub leaf_at-requires : goal.leaf_at-requires
leaf_at-requires c =
    ((c.requires.0.0, omega (arith, c.requires.0.1.some, c.requires.0.1.inside)), c.requires.1)

pub returns-then-n-le1 : goal.returns-then-n-le1
returns-then-n-le1 c =
    let R = row_leaves c.args.row c.args.work.now c.args.ranks in
    λ ready _. c.leaf_at.ensures ready ∙ sym (tree-leaf R c.args.from c.args.n c.requires.0.1.some c.if-n-le1.true)

pub kept_node-requires : goal.kept_node-requires
kept_node-requires c =
    let b = split_bounds c.args.n c.if-n-le1.false in
    (c.requires.0.0, c.requires.0.1, omega (arith, b.1, c.split-k.ensures))

pub returns : goal.returns
returns c =
    let R = row_leaves c.args.row c.args.work.now c.args.ranks in
    λ ready kept. node-is R c.args.work.now c.args.from c.args.n _ c.if-n-le1.false c.split-k.ensures _ c.kept_node.ensures kept
