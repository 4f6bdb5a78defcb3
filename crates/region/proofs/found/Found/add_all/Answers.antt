use Rattle.std.proofs.Common.{nat_eq, subst, []}
use Rattle.std.proofs.lemmas.Bool.{false≢true}
use Rattle.std.specs.List.{IsDistinct}
use Rattle.least_sets.specs.World.{has}
use Rattle.region.proofs.Listing.{adds_none}
use Rattle.region.proofs.found.Found.add_all.Goals as goal

pub loop-id-init : goal.loop-id-init
loop-id-init c = adds_none c.args.self.now (has []) (subst (IsDistinct nat_eq) c.self.view_is c.self.invariant.distinct) (λ u h. absurd (false≢true h))
