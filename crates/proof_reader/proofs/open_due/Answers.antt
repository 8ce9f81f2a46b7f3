use Rattle.proof_reader.proofs.Spans.{due_opens, no_byte_there, no_letter_due}
use Rattle.proof_reader.proofs.open_due.Goals.{then-at-answer, else-at-answer}
use Rattle.proof_reader.proofs.open_due.Goals as goal

pub returns-then-letter_due : goal.returns-then-letter_due
returns-then-letter_due c = search due_opens

pub returns : goal.returns
returns c =
    let r = c.requires in
    elim c.if-at-answer.branch [
      | then-at-answer w ↦ let k = rw w.row-is at c.at.ensures in no_byte_there _ _ _ _ _ c.letter_due.ensures c.if-letter_due.false _ w.if-at-answer.true k
      | else-at-answer w ↦
          let k = rw w.row-is at c.at.ensures in no_letter_due _ _ _ _ _ c.letter_due.ensures c.if-letter_due.false _ w.if-at-answer.false r.0.0 k
    ]
