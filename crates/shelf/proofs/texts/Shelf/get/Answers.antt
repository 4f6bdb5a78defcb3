use Rattle.std.proofs.Common.{ap, subst, ◌∙◌}
use Rattle.std.specs.Map.{lookup}
use Rattle.shelf.specs.Texts.{is_text}
use Rattle.shelf.specs.inside.Places.{IsFound}
use Rattle.shelf.proofs.Writing.{found_value}
use Rattle.shelf.proofs.texts.Shelf.get.Goals as goal

pub returns : goal.returns
returns g c =
    found_value c.args.key.now c.in_ok-at.at c.in_ok-at.i _ c.self.invariant (subst (IsFound c.args.key.now c.in_ok-at.at c.in_ok-at.i) c.deref.ensures.value c.in_ok-at.ensures) _ c.index.ensures c.value.result.now c.value.ensures
    ∙ ap (lookup (is_text c.args.key.now)) c.self.view_is
