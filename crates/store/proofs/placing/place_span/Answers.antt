use Rattle.std.proofs.Common.{ℕ, ◌<◌, ◌+◌, ◌++◌, ◌∙◌, ap, sym, subst}
use Rattle.std.specs.Prelude.{◌==◌, nat_lt}
use Rattle.names.specs.declared.commit.Event.{Event}
use Rattle.store.specs.inside.Moves.{slot, event_at_place}
use Rattle.store.proofs.Slots.{ends_there}
use Rattle.store.proofs.placing.place_span.Goals as goal

pub returns-clause-placed : goal.returns-clause-placed
returns-clause-placed c = λ k lt.
    let P : ℕ → Type 0 = λ n. k < n in
    ends_there _ _ _ (c.args.span.removed == c.args.floor + (k + 1)) c.args.on (nat_lt c.args.floor c.args.span.removed) c.args.span.tuple c.in-Some.tuple (sym c.in-Some.is ∙ c.in_ok-ended.ensures.copied)
    (c.in_ok-begin.ensures.placed k lt)
    (c.in_ok-place.ensures.placed k (subst P (sym c.in_ok-begin.ensures.len) lt)
    ∙ ap (λ (e : Event). slot c.begin.new.slots.items k ++ event_at_place c.args.floor c.args.span.removed e.tuple e.kind k) c.of-event.ensures)
