use Rattle.std.proofs.Common.{◌≡◌, length, rules}
use Rattle.sha256.proofs.Messages.{held_empty, held_full}
use Rattle.sha256.proofs.completed.Goals as goal

pub returns-then-fill-eq0 : goal.returns-then-fill-eq0
returns-then-fill-eq0 c = λ m k. held_empty c.args.s.now c.if-fill-eq0.true k

pub returns : goal.returns
returns c = λ m k.
    let size : length c.placed-x.result ≡ 64 = search rules in
    held_full c.args.s.now c.placed-x.result c.blocks-2.result c.requires.0 c.if-fill-eq0.false size
    c.placed-x.ensures c.blocks-2.ensures k
