use borrow.Author.Rules.{rules}
use Rattle.proof_reader.proofs.Listing.{none_written, same_size, all-written, L_there, one_written, none_more}
use Rattle.proof_reader.proofs.put_list.Goals as goal

pub loop-next-init : goal.loop-next-init
loop-next-init c = search none_written

pub put_name-requires : goal.put_name-requires
put_name-requires c =
    let l = c.requires in
    L_there _ _ _ _ l _ _ _ (c.loop-next.invariant l) c.loop-next-test.true c.if-answer-next-eq-LETTER_L.true

pub overflow_add-at : goal.overflow_add-at
overflow_add-at c =
    let l = c.requires in
    let h = L_there _ _ _ _ l _ _ _ (c.loop-next.invariant l) c.loop-next-test.true c.if-answer-next-eq-LETTER_L.true in
    let h1 = h.1 in
    let e = same_size _ _ _ _ l _ _ _ (c.loop-next.invariant l) in
    search rules

pub loop-next-preserved-then-answer-next-eq-LETTER_L : goal.loop-next-preserved-then-answer-next-eq-LETTER_L
loop-next-preserved-then-answer-next-eq-LETTER_L c =
    λ l. one_written _ _ _ _ l _ _ _ (c.loop-next.invariant l) c.loop-next-test.true c.if-answer-next-eq-LETTER_L.true _ c.put_name.ensures

pub loop-next-preserved : goal.loop-next-preserved
loop-next-preserved c =
    λ l. none_more _ _ _ _ l _ _ _ (c.loop-next.invariant l) c.loop-next-test.true c.if-answer-next-eq-LETTER_L.false

pub returns : goal.returns
returns c = λ l. all-written _ _ _ _ l _ _ _ (c.loop-next.invariant l) c.loop-next-test.false
