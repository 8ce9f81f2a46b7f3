use Rattle.trace_writer.proofs.Writing.{kind_put}
use borrow.Author.Rules.{rules}
use Rattle.trace_writer.proofs.put_kind.Goals as goal

pub returns : goal.returns
returns c = search (kind_put, rules)
