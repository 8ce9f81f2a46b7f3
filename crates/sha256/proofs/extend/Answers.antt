use Rattle.std.proofs.Common.{◌≡◌, length, take, refl, arith, length-take-le}
use Rattle.sha256.proofs.Schedule.{words-none, words-all}
use Rattle.sha256.proofs.extend.Goals as goal

pub loop-t-init : goal.loop-t-init
loop-t-init c =
    let w = c.args.w.now in
    let size : length w ≡ 64 = c.requires in
    (omega arith, (refl, words-none (take 16 w) w (length-take-le 16 w (omega arith)) size refl))

pub returns : goal.returns
returns c = words-all c.loop-t.invariant.1.1 (omega arith)
