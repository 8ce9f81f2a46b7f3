use borrow.Author.Rules.{rules}
use Rattle.accumulator.proofs.Sizes.{length-digest}
use Rattle.kept_trees.proofs.Building.{stored_is}
use Rattle.kept_trees.proofs.keep_digest.Goals as goal

pub copy-requires : goal.copy-requires
copy-requires c =
    let w = length-digest c.args.tree c.well_formed.1.1.0 in
    search rules

pub returns : goal.returns
returns c =
    stored_is c.args.work.now _ c.args.slot c.args.tree.digest (length-digest c.args.tree c.well_formed.1.1.0) c.requires c.copy.ensures
