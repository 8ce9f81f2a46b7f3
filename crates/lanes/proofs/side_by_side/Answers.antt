use Rattle.lanes.proofs.Messages.{digests-are}
use Rattle.lanes.proofs.side_by_side.Goals as goal

pub returns : goal.returns
returns c = digests-are c.args.m.now c.args.step c.args.n _ _ _ _ _ c.requires.0 c.in_bits.ensures c.initial.ensures c.blocks-whole.ensures c.ended-last.ensures c.value_bytes.ensures
