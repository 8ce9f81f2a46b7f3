use mathlib.Core.List.{[], ◌∷◌}
use Rattle.graph.specs.Table.{columns}
use Rattle.graph.proofs.Slots.{kept_then}
use Rattle.kept_trees.proofs.Rows.{digests_beside, ranked-same, all-within}
use Rattle.kept_trees.proofs.Entities.{to_none, group-digests, trees-kept}
use Rattle.kept_trees.proofs.keep_trees.Goals as goal

pub keep_entities-requires : goal.keep_entities-requires
keep_entities-requires c = let L = c.keep_leaves.ensures in
    let R = ranked-same (columns 84 116 ∷ []) c.args.work.now _ L.kept digests_beside c.args.ranks c.requires.0 in
    (to_none _ c.args.ranks R L.leaves, c.requires.1)

pub keep-requires : goal.keep-requires
keep-requires c = let T = c.keep_entities.ensures.trees in
    ((T.ranked, all-within c.args.ranks _ T.ranked, group-digests _ c.args.ranks T), c.requires.1)

pub returns : goal.returns
returns c = let E = c.keep_entities.ensures in
    let A = c.keep.ensures in
    let L = c.keep_leaves.ensures in
    record {
      kept = kept_then (columns 84 116 ∷ []) _ _ _ L.kept (kept_then (columns 84 116 ∷ []) _ _ _ E.kept A.kept);
      trees = trees-kept _ _ _ _ E.trees A.kept A.tree;
    }
