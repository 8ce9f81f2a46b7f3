use Rattle.std.proofs.Common.{rules}
use Rattle.lanes.proofs.Messages.{digested-none, digested-more}
use Rattle.lanes.proofs.one_by_one.Goals as goal

pub loop-l-init : goal.loop-l-init
loop-l-init c = search (digested-none, rules)

pub loop-l-preserved : goal.loop-l-preserved
loop-l-preserved c = let l = c.loop-l in
    digested-more c.args.m.now c.args.step c.args.n c.args.count l.d _ _ l.l c.loop-l-test.true c.requires.0.1 c.digest-one.ensures c.copy.ensures l.invariant
