use Rattle.proof_writer.proofs.Planning.{plan-kept, ranked-after, has_trees}
use Rattle.proof_writer.proofs.plan.Goals as goal

pub rank_all-ranks-requires : goal.rank_all-ranks-requires
rank_all-ranks-requires c = c.requires.0

pub keep_trees-requires : goal.keep_trees-requires
keep_trees-requires c =
    let H = c.requires.0 in
    ((c.rank_all-ranks.ensures.ranks H.ns H.graphed).ranked, c.requires.1)

pub plan_entity-requires : goal.plan_entity-requires
plan_entity-requires c =
    has_trees c.args.work.now _ _ _ _ c.requires.0 c.rank_all-ranks.ensures.ranks c.rank_all-ranks.ensures.kept c.keep_trees.ensures.kept c.keep_trees.ensures.trees

pub shape_of-work : goal.shape_of-work
shape_of-work c =
    (plan-kept c.args.work.now _ _ _ _ c.requires.0 c.rank_all-ranks.ensures.ranks c.rank_all-ranks.ensures.kept c.keep_trees.ensures.kept c.keep_trees.ensures.trees).size

pub returns : goal.returns
returns c =
    let after = ranked-after c.args.work.now _ _ _ _ c.requires.0 c.rank_all-ranks.ensures.ranks c.rank_all-ranks.ensures.kept c.keep_trees.ensures.kept c.keep_trees.ensures.trees in record {
      plan = record { of = λ ns G. c.plan_entity.ensures ns G (after ns G) };
      kept = plan-kept c.args.work.now _ _ _ _ c.requires.0 c.rank_all-ranks.ensures.ranks c.rank_all-ranks.ensures.kept c.keep_trees.ensures.kept c.keep_trees.ensures.trees;
    }
