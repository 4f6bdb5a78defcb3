use Rattle.std.proofs.Common.{◌≡◌, true, ℕ, take, subst, arith}
use Rattle.std.specs.Prelude.{Contains, is_some}
use Rattle.std.specs.Ordering.{nat_cmp}
use Rattle.std.specs.BTreeMap.{get}
use Rattle.names.specs.declared.commit.Event.{Event}
use Rattle.facts.proofs.Naming.{one_more, all_of}
use Rattle.meaning.specs.History.{replay}
use Rattle.direct.specs.inside.Keeping.{AreRight}
use Rattle.direct.specs.inside.Renewing.{set_or, IsNumberOf}
use Rattle.direct.proofs.Stepwise.{users_begin, right_begins, users_push, right_push}
use Rattle.direct.proofs.replacing.renewed.Goals as goal

pub loop-event-init : goal.loop-event-init
loop-event-init c = record {
  users = users_begin c.args.config.now c.args.kept.now c.new-renewed.result c.new-renewed.ensures.empty;
  sets = right_begins c.args.config.now c.args.kept.now c.new-renewed.result c.new-renewed.ensures.empty;
}

pub loop-event-preserved : goal.loop-event-preserved
loop-event-preserved c = record {
  users = subst (λ es. (user : ℕ) → is_some (get nat_cmp c.renew.new.renewed user) ≡ true → (e : Event) × Contains es e × IsNumberOf c.args.config.now c.args.kept.now e user)
      (one_more c.args.events.now c.loop-event.event-index c.event-item.result c.loop-event-test.true c.event-item.is)
      (users_push c.args.config.now c.args.kept.now c.loop-event.renewed c.renew.new.renewed (take c.loop-event.event-index c.args.events.now) c.event-item.result
      c.in_ok-renew.ensures.users c.loop-event.invariant.users);
  sets = λ tuples are. subst (λ es. AreRight c.args.config.now c.args.kept.now (set_or c.renew.new.renewed c.args.kept.now.sets.items) (replay tuples es))
      (one_more c.args.events.now c.loop-event.event-index c.event-item.result c.loop-event-test.true c.event-item.is)
      (right_push c.args.config.now c.args.kept.now c.renew.new.renewed tuples (take c.loop-event.event-index c.args.events.now) c.event-item.result
      (c.in_ok-renew.ensures.sets (replay tuples (take c.loop-event.event-index c.args.events.now)) (c.loop-event.invariant.sets tuples are)));
}

pub returns-clause-users : goal.returns-clause-users
returns-clause-users c = subst (λ es. (user : ℕ) → is_some (get nat_cmp c.loop-event.renewed user) ≡ true → (e : Event) × Contains es e × IsNumberOf c.args.config.now c.args.kept.now e user)
    (all_of c.args.events.now c.loop-event.event-index (omega (arith, c.loop-event-test.false))) c.loop-event.invariant.users

pub returns-clause-sets : goal.returns-clause-sets
returns-clause-sets c = λ tuples are. subst (λ es. AreRight c.args.config.now c.args.kept.now (set_or c.loop-event.renewed c.args.kept.now.sets.items) (replay tuples es))
    (all_of c.args.events.now c.loop-event.event-index (omega (arith, c.loop-event-test.false))) (c.loop-event.invariant.sets tuples are)
