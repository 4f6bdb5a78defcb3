use Rattle.std.proofs.Common.{◌≡◌, subst}
use Rattle.std.proofs.lemmas.List.{take_all}
use Rattle.sqlite_rules.proofs.ListLemmas.{all_more}
use Rattle.sqlite_tables.specs.declared.stored.StoredEvent.{StoredEvent}
use Rattle.sqlite_tables.specs.declared.stored.SpanChange.TheVariants.{Begins}
use Rattle.sqlite_tables.specs.inside.Together.{AllBegin}
use Rattle.sqlite_tables.proofs.commit.all_begin.Goals as goal

pub loop-event-preserved : goal.loop-event-preserved
loop-event-preserved c =
    let event : StoredEvent = c.event-item.result in
    all_more (λ (e : StoredEvent). e.change ≡ Begins) c.args.events.now c.loop-event.event-index event c.loop-event-test.true c.event-item.is c.loop-event.invariant (c.begins.ensures c.if-not-begins.false)

pub returns : goal.returns
returns c = λ yes. subst AllBegin (take_all c.loop-event.event-index c.args.events.now c.loop-event-test.false) c.loop-event.invariant
