use Rattle.std.proofs.Common.{arith}
use Rattle.fields.proofs.Places.{length_part}
use Rattle.lanes.proofs.Messages.{pad_written}
use Rattle.lanes.proofs.pad_one.Goals as goal

pub returns : goal.returns
returns c =
    let a = c.args in
    pad_written _ _ _ _ _ _ _ (omega arith) c.requires.1.0 (length_part a.m.now a.at a.n c.requires.1.1.1.1) c.requires.1.1.1.0 c.copy.ensures c.put_u64.ensures
