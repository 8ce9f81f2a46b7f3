use Rattle.checker.proofs.Listing.{bytes-behind, too_short, listed}
use Rattle.checker.proofs.give_list.Goals as goal

pub returns-then-answer-end : goal.returns-then-answer-end
returns-then-answer-end c = bytes-behind _ _ _ _ _ c.if-answer-end.true _ c.at.ensures

pub returns-then-out-size : goal.returns-then-out-size
returns-then-out-size c = too_short _ _ _ _ _ c.if-answer-end.false c.if-out-size.true _ c.at-then-out-size.ensures

pub returns : goal.returns
returns c = listed _ _ _ _ _ c.if-answer-end.false c.if-out-size.false _ c.put_list.ensures
