-- The part of the text that is written lies in it.
use Rattle.listing.proofs.Listings.{written-fits}
use Rattle.listing_main.proofs.main.Goals as goal

-- src/main.rt:14:34
pub slice_bounds-text-end : goal.slice_bounds-text-end
slice_bounds-text-end c = (written-fits _ _ _ _ _ c.list.ensures.result c.list.ensures.output c.in-Ok.is).0

-- src/main.rt:14:34
pub slice_bounds-write_all-end : goal.slice_bounds-write_all-end
slice_bounds-write_all-end c = (written-fits _ _ _ _ _ c.list.ensures.result c.list.ensures.output c.in-Ok.is).1
