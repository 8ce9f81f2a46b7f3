use native.Mathlib.Omega.{arith}
use Rattle.accumulator.proofs.Splitting.{split_bounds}
use Rattle.kept_trees.proofs.Rows.{versions-within, versions-one, versions_two}
use Rattle.kept_trees.proofs.versions_tree.Goals as goal

pub first_at-from-requires : goal.first_at-from-requires
first_at-from-requires c = (c.requires.0.0, omega (arith, c.requires.0.1))

pub count_at-n-requires : goal.count_at-n-requires
count_at-n-requires c = (c.requires.0.0, omega (arith, c.requires.0.1))

pub version_at-requires : goal.version_at-requires
version_at-requires c =
    let W = versions-within c.args.work.now c.args.ranks c.requires.0.0 c.args.g _ _ c.requires.0.1 c.first_at-from.ensures c.count_at-n.ensures in
    ((c.requires.0.0, omega (arith, W.some, W.inside)), c.requires.1)

pub returns-then-n-le1 : goal.returns-then-n-le1
returns-then-n-le1 c =
    let p = c.first_at-from.ensures in
    let q = c.count_at-n.ensures in
    let W = versions-within c.args.work.now c.args.ranks c.requires.0.0 c.args.g _ _ c.requires.0.1 p q in
    λ _. versions-one c.args.work.now c.args.ranks c.args.g _ _ _ p q W.some c.if-n-le1.true c.version_at.ensures

pub kept_node-requires : goal.kept_node-requires
kept_node-requires c =
    let W = versions-within c.args.work.now c.args.ranks c.requires.0.0 c.args.g _ _ c.requires.0.1 c.first_at-from.ensures c.count_at-n.ensures in
    let b = split_bounds _ c.if-n-le1.false in
    (c.requires.0.0, W, omega (arith, b.1, c.split-k.ensures))

pub returns : goal.returns
returns c =
    let p = c.first_at-from.ensures in
    let q = c.count_at-n.ensures in
    versions_two c.args.work.now c.args.ranks c.args.g _ _ _ _ c.requires.0.1 p q c.if-n-le1.false c.split-k.ensures c.kept_node.ensures
