use Rattle.checker.proofs.Referring.{cleared-starts, begun, turn-starts, referring_more, lowest_all}
use Rattle.checker.proofs.find_unreferenced_backward.Goals as goal

pub mark_starts-requires : goal.mark_starts-requires
mark_starts-requires c = search cleared-starts

pub loop-i-init : goal.loop-i-init
loop-i-init c = (begun _ _ _ _ c.requires.0 c.requires.1 c.clear_marks.ensures c.mark_starts.ensures).first

pub mark_starts-requires-in-loop-i : goal.mark_starts-requires-in-loop-i
mark_starts-requires-in-loop-i c =
    let b = begun _ _ _ _ c.requires.0 c.requires.1 c.clear_marks.ensures c.mark_starts.ensures in
    turn-starts _ _ _ _ _ c.loop-i.invariant b.ready c.loop-i-test.true

pub loop-i-preserved : goal.loop-i-preserved
loop-i-preserved c =
    referring_more _ _ _ _ _ c.loop-i.invariant _ _ c.loop-i-test.true c.lower-lowest.ensures c.mark_starts-in-loop-i.ensures

pub returns : goal.returns
returns c =
    lowest_all _ _ _ _ _ _ (begun _ _ _ _ c.requires.0 c.requires.1 c.clear_marks.ensures c.mark_starts.ensures) c.loop-i.invariant c.loop-i-test.false
