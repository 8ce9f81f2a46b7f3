use Rattle.trace_writer.proofs.Writing.{both_put}
use borrow.Author.Rules.{rules}
use Rattle.trace_writer.proofs.put_both.Goals as goal

pub returns : goal.returns
returns c = search (both_put, rules)
