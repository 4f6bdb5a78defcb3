use Rattle.std.proofs.Common.{take, [], ◌∷◌, ap, sym, ◌∙◌, subst, arith}
use Rattle.std.specs.Prelude.{Contains}
use Rattle.std.proofs.lemmas.List.{map-append}
use Rattle.names.specs.declared.commit.Event.{Event}
use Rattle.facts.specs.Numbers.{AreNumbersOf}
use Rattle.facts.proofs.Naming.{one_more, all_of}
use Rattle.delta.specs.Layers.{IsAbove}
use Rattle.delta.specs.inside.Growing.{more_none, more_both}
use Rattle.delta.proofs.Numbered.{above_none}
use Rattle.delta.proofs.Taken.{tuples_of}
use Rattle.delta.proofs.leading.above_events.Goals as goal

pub loop-event-init : goal.loop-event-init
loop-event-init c = record {
  more = more_none c.args.nodes.now;
  numbers = above_none c.args.config.now c.args.nodes.now c.new-ids.result.items c.new-ids.ensures.items;
}

pub loop-event-preserved : goal.loop-event-preserved
loop-event-preserved c = record {
  more = more_both c.args.nodes.now c.loop-event.nodes c.push_above.new.nodes c.loop-event.invariant.more c.in_ok-push_above.ensures.more;
  numbers = subst (λ ts. AreNumbersOf c.push_above.new.nodes c.push_above.new.ids.items (IsAbove c.args.config.now (Contains ts)))
      (sym (map-append (λ (e : Event). e.tuple) (take c.loop-event.event-index c.args.events.now) (c.event-item.result ∷ []))
      ∙ ap tuples_of (one_more c.args.events.now c.loop-event.event-index c.event-item.result c.loop-event-test.true c.event-item.is))
      (c.in_ok-push_above.ensures.numbers (tuples_of (take c.loop-event.event-index c.args.events.now)) c.loop-event.invariant.numbers);
}

pub returns-clause-more : goal.returns-clause-more
returns-clause-more c = c.loop-event.invariant.more

pub returns-clause-numbers : goal.returns-clause-numbers
returns-clause-numbers c = subst (λ es. AreNumbersOf c.loop-event.nodes c.loop-event.ids.items (IsAbove c.args.config.now (Contains (tuples_of es))))
    (all_of c.args.events.now c.loop-event.event-index (omega (arith, c.loop-event-test.false))) c.loop-event.invariant.numbers

pub returns-in_err-push_above-clause-more : goal.returns-in_err-push_above-clause-more
returns-in_err-push_above-clause-more c = more_both c.args.nodes.now c.loop-event.nodes c.push_above.new.nodes c.loop-event.invariant.more c.in_err-push_above.ensures.more
