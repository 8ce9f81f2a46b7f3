use Rattle.incoming.proofs.Groups.{strings-none, strings-more, strings-all}
use native.Mathlib.Omega.{arith}
use Rattle.incoming.proofs.put_strings.Goals as goal

pub loop-l-init : goal.loop-l-init
loop-l-init c = search strings-none

pub put_string-requires : goal.put_string-requires
put_string-requires c = (omega (arith, c.loop-l.invariant.put.size, c.requires.1.few), c.requires.1.each c.loop-l.l c.loop-l-test.true)

pub loop-l-preserved : goal.loop-l-preserved
loop-l-preserved c = search strings-more

pub returns : goal.returns
returns c = search strings-all
