use Rattle.trace_writer.proofs.Positions.{positioning_none, positioning_size, positioning_more, position_fits, positioning_all}
use Rattle.trace_writer.proofs.set_positions.Goals as goal

pub loop-i-init : goal.loop-i-init
loop-i-init c = search positioning_none

pub overflow_add-position : goal.overflow_add-position
overflow_add-position c = search position_fits

pub loop-i-preserved : goal.loop-i-preserved
loop-i-preserved c = search positioning_more

pub shape_of-work : goal.shape_of-work
shape_of-work c = search positioning_size

pub returns : goal.returns
returns c = search positioning_all
