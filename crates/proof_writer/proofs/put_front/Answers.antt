use Rattle.accumulator.specs.Trees.{header_of}
use Rattle.kept_trees.proofs.Rows.{all-within}
use Rattle.proof_writer.proofs.Writing.{front-is}
use native.Mathlib.Omega.{arith}
use Rattle.proof_writer.proofs.put_front.Goals as goal

pub kept_tree-tree-requires : goal.kept_tree-tree-requires
kept_tree-tree-requires c =
    let P = c.requires.0.0.path in
    ((P.ranked.ranked, all-within c.args.path.ranks c.args.work.now P.ranked.ranked), c.requires.1)

pub overflow_cast-ranks : goal.overflow_cast-ranks
overflow_cast-ranks c =
    let P = c.requires.0.0.path in
    omega (arith, P.ranked.ranked.fewer, P.ranked.ranked.few)

pub put_root-requires : goal.put_root-requires
put_root-requires c =
    omega (arith, c.requires.0.1)

pub put_way-requires : goal.put_way-requires
put_way-requires c =
    let P = c.requires.0.0.path in
    ((P.ranked.ranked, all-within c.args.path.ranks c.args.work.now P.ranked.ranked, omega arith, omega (arith, P.inside), omega (arith, c.requires.0.1, c.out-1.given)), c.requires.1)

pub returns : goal.returns
returns c =
    let a = c.args in
    λ ns G I.
    front-is a.work.now _ ns G a.path I (header_of a.header) _ a.out.now _ _ (c.kept_tree-tree.ensures I.kept.versions I.kept.entities) c.put_root.ensures (c.put_way.ensures I.kept.versions I.kept.entities) c.requires.0.1
