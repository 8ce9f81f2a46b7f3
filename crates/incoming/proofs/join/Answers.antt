use Rattle.incoming.proofs.Groups.{grown-none, grown-one}
use Rattle.incoming.proofs.join.Goals as goal

pub returns-then-in_count-eq0 : goal.returns-then-in_count-eq0
returns-then-in_count-eq0 c = grown-none c.args.work.now c.args.slots.now c.args.count c.args.i _ c.in_count.ensures c.if-in_count-eq0.true

pub returns : goal.returns
returns c = grown-one c.args.work.now c.args.slots.now c.args.count c.args.i _ c.requires.1 c.in_count.ensures c.if-in_count-eq0.false
