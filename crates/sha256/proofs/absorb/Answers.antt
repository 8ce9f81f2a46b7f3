use Rattle.std.proofs.Common.{◌≡◌, ◌+◌, ◌-◌, ◌*◌, ◌/◌, ◌%◌, ◌<◌, length, arith}
use Rattle.sha256.proofs.Messages.{held_all_short, held_blocks, held-rest, count-more}
use Rattle.sha256.proofs.absorb.Goals as goal

pub returns-then-n-fill : goal.returns-then-n-fill
returns-then-n-fill c =
    let s = c.args in
    let n = length s.more.now in
    let room : s.s.fill + n < 64 = omega arith in (
      room,
      λ m q. record {
        held = held_all_short c.placed-b.result s.more.now room c.placed-b.ensures q.held;
        count = count-more m s.more.now s.s.total q.count;
      },
    )

pub returns : goal.returns
returns c =
    let s = c.args in
    let more = s.more.now in
    let n = length more in
    let begun = (64 - s.s.fill) % 64 in
    let whole = (n - begun) / 64 in
    let rest = (n - begun) % 64 in
    let fits : begun + 64 * whole + rest ≡ n = omega arith in (
      omega arith,
      λ m q. record {
        held =
            held-rest m s.s.block c.placed-b-2.result more begun whole rest fits (omega arith) c.placed-b-2.ensures
            (held_blocks c.blocks-whole.result more begun whole (omega arith) c.blocks-whole.ensures (c.completed-first.ensures m q.held));
        count = count-more m more s.s.total q.count;
      },
    )
