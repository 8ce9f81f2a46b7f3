use Rattle.std.proofs.Common.{◌≡◌, ℕ, List, refl, ap, ◌∙◌, ap₂, arith}
use Rattle.sha256.specs.Sha256.{extended, schedule, rounds, sums, compress}
use Rattle.sha256.proofs.compressed.Goals as goal

pub loop-t-init : goal.loop-t-init
unfolding rounds
loop-t-init c = (omega arith, (refl, refl))

pub returns : goal.returns
unfolding compress schedule
returns c =
    let l = c.loop-t in
    let h = c.args.h in
    let e : l.t ≡ 64 = omega arith in
    c.added.ensures
    ∙ ap (sums h)
    (l.invariant.1.1
    ∙ ap (λ (n : ℕ). rounds n c.args.constants.now c.extend.new.w h) e
    ∙ ap₂ (λ (k w : List ℕ). rounds 64 k w h) c.requires.1 (c.extend.ensures ∙ ap (extended 48) c.load.ensures.1))
