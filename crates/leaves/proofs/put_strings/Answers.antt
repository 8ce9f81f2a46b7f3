use borrow.Author.Rules.{rules}
use native.Mathlib.Omega.{arith}
use Rattle.leaves.proofs.Keeping.{strings-none, strings-more, strings-all}
use Rattle.leaves.proofs.put_strings.Goals as goal

pub loop-l-init : goal.loop-l-init
loop-l-init c = (omega arith, search (strings-none, rules))

pub put_string-requires : goal.put_string-requires
put_string-requires c = (omega (arith, c.requires.1, c.loop-l-test.true, c.loop-l.invariant.1.size), c.requires.2.inside _ c.loop-l-test.true)

pub loop-l-preserved : goal.loop-l-preserved
loop-l-preserved c = let l = c.loop-l in (
  omega (arith, c.loop-l-test.true),
  strings-more c.args.work.now _ _ l.l l.b _ c.requires.1 c.loop-l-test.true c.requires.2 c.put_string.ensures l.invariant.1,
)

pub returns : goal.returns
returns c = strings-all _ _ _ _ _ c.loop-l-test.false c.loop-l.invariant.0 c.loop-l.invariant.1
