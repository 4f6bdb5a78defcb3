use Rattle.region.proofs.Listing.{listing_none}
use Rattle.region.proofs.found.Found.new.Goals as goal

pub invariant_of-result : goal.invariant_of-result
invariant_of-result c = listing_none c.new.result.items c.new-2.result c.new.ensures.items c.new-2.ensures.empty
