use mathlib.Core.Logic.{inl}
use Rattle.graph.proofs.Strings.{start_there}
use Rattle.incoming.proofs.Groups.{nothing_settled, entry_settled}
use native.Mathlib.Omega.{arith}
use Rattle.incoming.proofs.settled.Goals as goal

pub returns-then-start-eq-ABSENT : goal.returns-then-start-eq-ABSENT
returns-then-start-eq-ABSENT c = λ t h. nothing_settled c.args.work.now c.args.first c.args.start c.if-start-eq-ABSENT.true h

pub returns-then-from-first : goal.returns-then-from-first
returns-then-from-first c = λ t h. inl c.if-from-first.true

pub in_count-requires : goal.in_count-requires
in_count-requires c = c.requires (start_there c.args.start (omega (arith, c.ranges)) c.if-start-eq-ABSENT.false)

pub returns : goal.returns
returns c = λ t h. entry_settled c.args.work.now c.args.first c.args.start _ c.in_count.ensures t
