use Rattle.std.proofs.Common.{ap, ◌∙◌, length, eqb}
use Rattle.shelf.proofs.Shelves.{empty_alike}
use Rattle.shelf.proofs.texts.Shelf.is_empty.Goals as goal

pub returns : goal.returns
returns g c = c.is_empty.ensures ∙ empty_alike c.self.inside.blocks.items _ (c.self.inside.blocks.ok.0) c.self.invariant.filled ∙ ap (λ es. eqb (length es) 0) c.self.view_is
