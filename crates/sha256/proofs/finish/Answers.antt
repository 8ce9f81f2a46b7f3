use Rattle.std.proofs.Common.{◌≡◌, length, ◌∙◌, arith, length-take-le, rules}
use Rattle.fields.specs.Fields.{part}
use Rattle.sha256.proofs.Padding.{sha256-held}
use Rattle.sha256.proofs.finish.Goals as goal

pub returns : goal.returns
unfolding part
returns c = λ m q.
    let s = c.args.s in
    let n : length s.block ≡ 64 = search rules in
    c.closed.ensures ∙ sha256-held _ q.held (length-take-le s.fill s.block (omega arith)) (omega (arith, q.count, c.in_bits.ensures))
