use borrow.Author.Rules.{rules}
use borrow.Author.Rules.{rules}
use Rattle.leaves.proofs.Keeping.{digests_of_leaves}
use Rattle.leaves.proofs.digests.Goals as goal

pub returns : goal.returns
returns c = search (digests_of_leaves, rules)
