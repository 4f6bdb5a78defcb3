use Rattle.std.proofs.Common.{take, subst, arith}
use Rattle.std.specs.Prelude.{Contains}
use Rattle.names.specs.declared.commit.Event.{Event}
use Rattle.facts.proofs.Naming.{one_more, all_of}
use Rattle.direct.specs.Named.{IsDirect}
use Rattle.direct.specs.inside.Keeping.{HasNumbers}
use Rattle.direct.specs.declared.memberships.Membership.{Membership}
use Rattle.direct.proofs.Tables.{more_none, more_both}
use Rattle.direct.proofs.Seen.{numbers_begin, numbers_push}
use Rattle.direct.proofs.replacing.number_all.Goals as goal

pub loop-event-init : goal.loop-event-init
loop-event-init c = record {
  more = more_none c.args.kept.now;
  numbers = numbers_begin c.args.config.now c.args.kept.now;
}

pub loop-event-preserved : goal.loop-event-preserved
loop-event-preserved c = record {
  more = more_both c.args.kept.now c.loop-event.kept c.number.new.self c.loop-event.invariant.more c.in_ok-number.ensures.more;
  numbers = subst (λ es. (e : Event) → Contains es e → IsDirect c.args.config.now e.tuple → (m : Membership) × HasNumbers c.number.new.self e.tuple m)
      (one_more c.args.events.now c.loop-event.event-index c.event-item.result c.loop-event-test.true c.event-item.is)
      (numbers_push c.args.config.now c.loop-event.kept c.number.new.self (take c.loop-event.event-index c.args.events.now) c.event-item.result c.in_ok-number.field-0
      c.in_ok-number.ensures.more c.in_ok-number.ensures.numbers c.loop-event.invariant.numbers);
}

pub returns-clause-more : goal.returns-clause-more
returns-clause-more c = c.loop-event.invariant.more

pub returns-clause-numbers : goal.returns-clause-numbers
returns-clause-numbers c = subst (λ es. (e : Event) → Contains es e → IsDirect c.args.config.now e.tuple → (m : Membership) × HasNumbers c.loop-event.kept e.tuple m)
    (all_of c.args.events.now c.loop-event.event-index (omega (arith, c.loop-event-test.false))) c.loop-event.invariant.numbers

pub returns-in_err-number-clause-more : goal.returns-in_err-number-clause-more
returns-in_err-number-clause-more c = more_both c.args.kept.now c.loop-event.kept c.number.new.self c.loop-event.invariant.more c.in_err-number.ensures.more
