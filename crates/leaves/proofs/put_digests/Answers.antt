use borrow.Author.Rules.{rules}
use native.Mathlib.Omega.{arith}
use Rattle.leaves.proofs.Keeping.{filling-none, filling-more, filling-all}
use Rattle.leaves.proofs.put_digests.Goals as goal

pub loop-l-init : goal.loop-l-init
loop-l-init c = (omega arith, filling-none _ _ _)

pub loop-l-preserved : goal.loop-l-preserved
loop-l-preserved c = let l = c.loop-l in (
  omega (arith, c.loop-l-test.true),
  filling-more c.args.work.now l.work _ c.args.from c.args.count l.l _ (search rules) c.requires.0 c.loop-l-test.true c.requires.1 c.copy.ensures l.invariant.1,
)

pub returns : goal.returns
returns c = filling-all _ _ _ _ _ _ c.loop-l-test.false c.loop-l.invariant.0 c.loop-l.invariant.1
