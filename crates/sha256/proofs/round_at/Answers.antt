use Rattle.std.proofs.Common.{ℕ, List, get_or, sym, ap, ◌∙◌, add-one}
use Rattle.sha256.specs.Sha256.{round, rounds}
use Rattle.sha256.proofs.round_at.Goals as goal

pub returns : goal.returns
unfolding rounds
returns c = λ h e.
    let a = c.args in
    let k = a.k.now in
    let w = a.w.now in
    c.one_round.ensures
    ∙ ap (λ (v : List ℕ). round v (get_or k a.t 0) (get_or w a.t 0)) e
    ∙ ap (λ (n : ℕ). rounds n k w h) (sym (add-one a.t))
