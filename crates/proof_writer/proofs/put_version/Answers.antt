use borrow.Author.Rules.{rules}
use Rattle.proof_writer.proofs.Writing.{version-is}
use Rattle.proof_writer.proofs.put_version.Goals as goal

pub returns : goal.returns
returns c = search (version-is, rules)
