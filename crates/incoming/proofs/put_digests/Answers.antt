use Rattle.incoming.proofs.Groups.{digests-none, digests-more, digests-all}
use borrow.Author.Rules.{rules}
use native.Mathlib.Omega.{arith}
use Rattle.incoming.proofs.put_digests.Goals as goal

pub loop-l-init : goal.loop-l-init
loop-l-init c = search digests-none

pub overflow_mul-slots : goal.overflow_mul-slots
overflow_mul-slots c = omega (arith, (c.requires.each c.loop-l.l c.loop-l-test.true).room)

pub copy-requires : goal.copy-requires
copy-requires c = (omega (arith, (c.requires.each c.loop-l.l c.loop-l-test.true).room, c.loop-l.invariant.put.kept.size), search rules)

pub loop-l-preserved : goal.loop-l-preserved
loop-l-preserved c = digests-more _ _ _ _ _ c.loop-l.l _ (search rules) c.requires c.loop-l-test.true c.loop-l.invariant c.copy.ensures

pub shape_of-work : goal.shape_of-work
shape_of-work c = c.loop-l.invariant.put.kept.size

pub returns : goal.returns
returns c = search digests-all
