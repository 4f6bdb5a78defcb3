use Rattle.std.proofs.Common.{◌++◌, ap, ◌∙◌}
use Rattle.store.specs.inside.Moves.{slot, event_if}
use Rattle.store.proofs.Slots.{above_floor}
use Rattle.store.proofs.placing.place.Goals as goal

pub returns-clause-placed : goal.returns-clause-placed
returns-clause-placed c = λ k lt.
    c.in_ok-push_at.ensures.placed k lt ∙ ap (λ b. slot c.args.slots.now.items k ++ event_if b c.args.event) (above_floor c.args.rev c.args.floor k c.if-rev-floor.false)
