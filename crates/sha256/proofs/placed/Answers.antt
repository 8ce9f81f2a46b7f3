use Rattle.std.proofs.Common.{◌≡◌, ◌+◌, length, take, ap, ◌∙◌, arith, rules}
use Rattle.fields.proofs.Places.{take-written, length_part}
use Rattle.fields.specs.Fields.{part}
use Rattle.sha256.proofs.placed.Goals as goal

pub returns : goal.returns
returns c =
    let a = c.args in
    let pre = c.requires in
    let e : length a.b ≡ 64 = search rules in
    ap (take (a.fill + a.n)) c.copy.ensures
    ∙ take-written a.b a.fill (part a.s.now a.from a.n) a.n (omega arith) (length_part a.s.now a.from a.n pre.1)
