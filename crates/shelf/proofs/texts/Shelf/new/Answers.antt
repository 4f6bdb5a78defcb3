use Rattle.std.proofs.Common.{sym, subst}
use Rattle.shelf.specs.inside.Walks.{IsShelf}
use Rattle.shelf.proofs.Shelves.{none_shelf}
use Rattle.shelf.proofs.texts.Shelf.new.Goals as goal

pub invariant_of-result : goal.invariant_of-result
invariant_of-result g c = subst IsShelf (sym c.new.ensures.items) none_shelf
