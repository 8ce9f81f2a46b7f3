use Rattle.std.proofs.Common.{ap, ◌∙◌}
use Rattle.fields.specs.Fields.{part}
use Rattle.fields.proofs.Places.{length_part}
use Rattle.sha256.specs.Sha256.{bytes}
use Rattle.sha256.proofs.Padding.{ended}
use Rattle.sha256.proofs.closed.Goals as goal

pub returns : goal.returns
returns c =
    let a = c.args in
    c.word_bytes.ensures
    ∙ ap bytes
    (c.blocks-2.ensures
    ∙ ended (part a.m.now a.at a.n) _ a.h c.pad_end.new.b a.n a.bits
    (length_part a.m.now a.at a.n c.requires.1.0) c.requires.0 c.pad_end.ensures)
