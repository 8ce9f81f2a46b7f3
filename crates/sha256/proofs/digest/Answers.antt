use Rattle.std.proofs.Common.{◌∙◌}
use Rattle.sha256.proofs.Padding.{digest_message}
use Rattle.sha256.proofs.digest.Goals as goal

pub returns : goal.returns
returns c =
    c.closed.ensures
    ∙ digest_message c.args.m.now c.blocks-h.result c.initial.result c.in_bits.result
    c.initial.ensures c.blocks-h.ensures c.in_bits.ensures
