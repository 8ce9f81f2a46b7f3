use Rattle.sha256.proofs.Schedule.{four_more}
use Rattle.sha256.proofs.four_words.Goals as goal

pub returns : goal.returns
returns c = λ s k.
    four_more c.args.t k
    c.early-e1.result c.early-e2.result c.early-e3.result c.early-e4.result
    c.late-w1.result c.late-w2.result c.late.result c.late-2.result c.requires
    c.early-e1.ensures c.early-e2.ensures c.early-e3.ensures c.early-e4.ensures
    c.late-w1.ensures c.late-w2.ensures c.late.ensures c.late-2.ensures
