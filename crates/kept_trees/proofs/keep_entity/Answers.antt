use native.Mathlib.Omega.{arith}
use Rattle.kept_trees.proofs.Rows.{versions-within}
use Rattle.kept_trees.proofs.Entities.{entity-kept, leaves_at}
use Rattle.kept_trees.proofs.keep_entity.Goals as goal

pub first_at-from-requires : goal.first_at-from-requires
first_at-from-requires c = (c.requires.0.0, omega (arith, c.requires.0.1))

pub count_at-n-requires : goal.count_at-n-requires
count_at-n-requires c = (c.requires.0.0, c.requires.0.1)

pub keep-requires : goal.keep-requires
keep-requires c = let p = c.first_at-from.ensures in
    let q = c.count_at-n.ensures in
    ((c.requires.0.0, versions-within c.args.work.now c.args.ranks c.requires.0.0 c.args.g _ _ c.requires.0.1 p q, leaves_at c.args.work.now c.args.ranks c.args.g _ _ p q c.requires.0.2), c.requires.1)

pub returns : goal.returns
returns c = record {
  kept = c.keep.ensures.kept;
  tree = entity-kept c.args.work.now _ c.args.ranks c.args.g _ _ _ c.requires.0.0 c.requires.0.1 c.first_at-from.ensures c.count_at-n.ensures c.keep.ensures.tree;
}
