use Rattle.std.proofs.Common.{ℕ, ◌+◌, ◌-◌, ◌*◌, ◌/◌, List, set, ap, ◌∙◌}
use Rattle.fields.specs.Fields.{encode, part, written}
use Rattle.fields.proofs.Places.{length_part}
use Rattle.sha256.proofs.Padding.{padded_shape}
use Rattle.sha256.proofs.pad_end.Goals as goal

pub returns : goal.returns
returns c =
    let a = c.args in
    let p = part a.m.now a.at a.n in
    ap (λ (x : List ℕ). set x a.n 128)
    (c.put_u64.ensures
    ∙ ap (λ (x : List ℕ). written x (64 * ((a.n + 72) / 64) - 8) (encode 8 a.bits))
    (c.copy.ensures ∙ ap (λ (x : List ℕ). written x 0 p) c.requires.0))
    ∙ padded_shape p a.n a.bits (length_part a.m.now a.at a.n c.requires.1.1) c.requires.1.0
