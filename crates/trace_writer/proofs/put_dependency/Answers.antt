use Rattle.trace_writer.proofs.Writing.{dependency_put}
use borrow.Author.Rules.{rules}
use Rattle.trace_writer.proofs.put_dependency.Goals as goal

pub returns : goal.returns
returns c = search (dependency_put, rules)
