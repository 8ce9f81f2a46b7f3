use Rattle.trace_writer.proofs.Positions.{all_counted, count_fits}
use Rattle.trace_writer.proofs.count_of.Goals as goal

pub overflow_add-result : goal.overflow_add-result
overflow_add-result c = search count_fits

pub returns : goal.returns
returns c = search all_counted
