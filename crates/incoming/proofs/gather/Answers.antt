use Rattle.incoming.proofs.Groups.{begun, fits-here}
use native.Mathlib.Omega.{arith}
use Rattle.incoming.proofs.gather.Goals as goal

pub in_count-edges-requires : goal.in_count-edges-requires
in_count-edges-requires c = omega (arith, c.requires.0.room)

pub loop-count-init : goal.loop-count-init
loop-count-init c = search begun

pub fits-requires : goal.fits-requires
fits-requires c = c.requires.0

pub join-count-requires : goal.join-count-requires
join-count-requires c = let h = fits-here _ _ _ _ _ (c.fits.ensures c.if-fits.true) in
    (c.loop-count.invariant.size, c.loop-count-test.true, omega (arith, c.requires.0.room))

pub loop-count-smaller : goal.loop-count-smaller
loop-count-smaller c = let h = fits-here _ _ _ _ _ (c.fits.ensures c.if-fits.true) in
    omega arith

pub loop-count-preserved : goal.loop-count-preserved
loop-count-preserved c = c.join-count.ensures.group _ _ _ c.loop-count.invariant (c.fits.ensures c.if-fits.true)

pub returns-else-fits : goal.returns-else-fits
returns-else-fits c = c.loop-count.invariant

pub returns-after-loop-count : goal.returns-after-loop-count
returns-after-loop-count c = c.loop-count.invariant
