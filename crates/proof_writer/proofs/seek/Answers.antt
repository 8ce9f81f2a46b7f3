use borrow.Author.Rules.{rules}
use Rattle.kept_trees.proofs.Rows.{size_small}
use Rattle.proof_writer.specs.Walks.{row_of}
use Rattle.proof_writer.proofs.Seeking.{seeking_none, seeking_leads, seeking_stopped, seeking_reached, seeking_less, seeking_more, stopped_target, stopped_depth, reached_target, reached_depth}
use Rattle.proof_writer.proofs.seek.Goals as goal

pub loop-descent-init : goal.loop-descent-init
loop-descent-init c =
    seeking_none c.args.descent _ c.args.ranks c.args.from c.args.n c.requires.1 c.requires.2

pub stops-requires : goal.stops-requires
stops-requires c =
    (c.requires.0, c.loop-descent.invariant.among)

pub overflow_sub-result : goal.overflow_sub-result
overflow_sub-result c = c.loop-descent.invariant.low

pub returns-then-stops : goal.returns-then-stops
returns-then-stops c =
    let a = c.args in record {
      leads = seeking_leads a.descent a.work.now a.ranks a.from a.n _ _ c.loop-descent.invariant _ c.stops.ensures _ (stopped_target _ _) (stopped_depth _ _);
      walk = seeking_stopped a.descent a.work.now a.ranks a.from a.n _ _ c.loop-descent.invariant _ c.stops.ensures c.if-stops.true;
    }

pub overflow_sub-result-then-leaves-le1 : goal.overflow_sub-result-then-leaves-le1
overflow_sub-result-then-leaves-le1 c = c.loop-descent.invariant.low

pub returns-then-leaves-le1 : goal.returns-then-leaves-le1
returns-then-leaves-le1 c =
    let a = c.args in record {
      leads = seeking_leads a.descent a.work.now a.ranks a.from a.n _ _ c.loop-descent.invariant _ c.stops.ensures _ (reached_target _ _) (reached_depth _ _);
      walk = seeking_reached a.descent a.work.now a.ranks a.from a.n _ _ c.loop-descent.invariant _ c.stops.ensures c.if-stops.false c.if-leaves-le1.true;
    }

pub half-leaves-requires : goal.half-leaves-requires
half-leaves-requires c =
    (c.requires.0, c.loop-descent.invariant.among, c.if-leaves-le1.false)

pub overflow_add-depth : goal.overflow_add-depth
overflow_add-depth c =
    let a = c.args in
    let d = c.loop-descent.invariant.deep in
    let z = size_small (row_of a.descent) a.work.now a.ranks c.requires.0 in
    let y = c.requires.2 in
    search rules

pub loop-descent-smaller : goal.loop-descent-smaller
loop-descent-smaller c =
    let a = c.args in
    seeking_less a.descent a.work.now a.ranks a.from a.n _ _ c.loop-descent.invariant _ c.stops.ensures c.if-leaves-le1.false _ c.half-leaves.ensures

pub loop-descent-preserved : goal.loop-descent-preserved
loop-descent-preserved c =
    let a = c.args in
    seeking_more a.descent a.work.now a.ranks a.from a.n _ _ c.loop-descent.invariant _ c.stops.ensures c.if-stops.false c.if-leaves-le1.false _ c.half-leaves.ensures
