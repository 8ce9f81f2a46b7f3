use Rattle.graph.proofs.Nodes.{ready-starts}
use Rattle.graph.proofs.Strings.{previous-before, source-before}
use Rattle.incoming.proofs.Groups.{not_so, fits-entry, fits-member}
use native.Mathlib.Omega.{arith}
use Rattle.incoming.proofs.fits.Goals as goal

pub returns-then-n-i : goal.returns-then-n-i
returns-then-n-i c = λ t. not_so t

pub in_count-count-requires : goal.in_count-count-requires
in_count-count-requires c = omega (arith, c.requires.room)

pub returns-then-count-eq0 : goal.returns-then-count-eq0
returns-then-count-eq0 c = let a = c.args in
    λ t. fits-entry a.work.now a.n a.first a.edges a.i _ c.if-n-i.false c.in_count-count.ensures c.if-count-eq0.true

pub returns-then-count-edges : goal.returns-then-count-edges
returns-then-count-edges c = λ t. not_so t

pub settled-requires : goal.settled-requires
settled-requires c = let st = ready-starts c.args.work.now c.args.n c.args.i c.requires c.if-n-i.false in
    λ h. let b = previous-before c.args.work.now c.args.i st _ c.previous_of.ensures h in omega (arith, st.room)

pub returns-then-not-settled : goal.returns-then-not-settled
returns-then-not-settled c = λ t. not_so t

pub settled-requires-2 : goal.settled-requires-2
settled-requires-2 c = let st = ready-starts c.args.work.now c.args.n c.args.i c.requires c.if-n-i.false in
    λ h. let b = source-before c.args.work.now c.args.i st _ c.source_of.ensures h in omega (arith, st.room)

pub returns : goal.returns
returns c = let a = c.args in
    λ t. fits-member a.work.now a.n a.first a.edges a.i _ _ _ c.if-n-i.false c.in_count-count.ensures c.if-count-edges.false c.previous_of.ensures c.source_of.ensures (c.settled.ensures c.if-not-settled.false) (c.settled-2.ensures t)
