use Rattle.trace_writer.proofs.Writing.{filling-none, filling-size, filling-fits, filling-more, filling-all}
use Rattle.trace_writer.proofs.put_records.Goals as goal

pub loop-i-init : goal.loop-i-init
loop-i-init c = search filling-none

pub put_record-at-requires : goal.put_record-at-requires
put_record-at-requires c =
    filling-fits _ _ _ _ _ _ _ c.requires c.loop-i.invariant c.loop-i-test.true

pub loop-i-preserved : goal.loop-i-preserved
loop-i-preserved c = search filling-more

pub shape_of-out : goal.shape_of-out
shape_of-out c = search filling-size

pub returns : goal.returns
returns c = search filling-all
