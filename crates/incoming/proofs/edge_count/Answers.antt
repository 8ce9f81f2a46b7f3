use borrow.Author.Rules.{rules}
use Rattle.incoming.proofs.Strings.{no_edge, one-edge}
use native.Mathlib.Omega.{arith}
use Rattle.incoming.proofs.edge_count.Goals as goal

pub returns-then-start-eq-ABSENT : goal.returns-then-start-eq-ABSENT
returns-then-start-eq-ABSENT c = (search rules, no_edge _ c.if-start-eq-ABSENT.true)

pub returns : goal.returns
returns c = (search rules, one-edge _ (omega (arith, c.ranges)) c.if-start-eq-ABSENT.false)
