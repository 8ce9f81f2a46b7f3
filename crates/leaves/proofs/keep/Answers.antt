use borrow.Author.Rules.{rules}
use borrow.Author.Rules.{rules}
use Rattle.leaves.proofs.Keeping.{leaves_kept}
use Rattle.leaves.proofs.keep.Goals as goal

pub returns : goal.returns
returns c = search (leaves_kept, rules)
