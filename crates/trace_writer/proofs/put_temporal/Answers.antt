use Rattle.trace_writer.proofs.Writing.{temporal_put}
use borrow.Author.Rules.{rules}
use Rattle.trace_writer.proofs.put_temporal.Goals as goal

pub returns : goal.returns
returns c = search (temporal_put, rules)
