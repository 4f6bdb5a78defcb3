use Rattle.std.proofs.Common.{ℕ, ◌≡◌, ◌≤◌, ◌<◌, ◌&&◌, cond, nat_eq, length, sym, ap, subst, ⊎_elim, inl, inr, arith}
use Rattle.std.specs.Prelude.{Some}
use Rattle.std.specs.List.{slice_get}
use Rattle.std.proofs.lemmas.Option.{slice_get_within}
use Rattle.std.proofs.lemmas.Result.{on_ok_weaker}
use Rattle.idsets.specs.Sets.{has}
use Rattle.direct.specs.inside.Keeping.{AreFound}
use Rattle.direct.specs.inside.Renewing.{is_put, set_or}
use Rattle.direct.proofs.Replaying.{right_put, right_passed}
use Rattle.direct.proofs.replacing.renew.Goals as goal

pub renew_set-requires : goal.renew_set-requires
renew_set-requires c =
    let found : AreFound c.args.config.now c.args.kept.now c.args.event.now.tuple (Some c.in-Some.found) = c.in-Some.ensures in
    let lt : c.in-Some.found.user < length c.args.kept.now.users = slice_get_within c.args.kept.now.users c.in-Some.found.user c.args.event.now.tuple.subject.object found.1.user in
    let room : length c.args.kept.now.users ≤ length c.args.kept.now.sets.items = c.args.kept.now.room in
    let same : length c.deref.result.now ≡ length c.args.kept.now.sets.items = ap length c.deref.ensures.value in
    omega (arith, lt, room, same)

pub returns-in-Some-clause-users : goal.returns-in-Some-clause-users
returns-in-Some-clause-users c = λ user h.
    let found : AreFound c.args.config.now c.args.kept.now c.args.event.now.tuple (Some c.in-Some.found) = c.in-Some.ensures in
    ⊎_elim
    (λ q. inl q)
    (λ e. inr (found.0, subst (λ k. slice_get c.args.kept.now.users k ≡ Some c.args.event.now.tuple.subject.object) (sym e) found.1.user))
    (c.renew_set.ensures.users user h)

pub returns-in-Some-clause-sets : goal.returns-in-Some-clause-sets
returns-in-Some-clause-sets c =
    let found : AreFound c.args.config.now c.args.kept.now c.args.event.now.tuple (Some c.in-Some.found) = c.in-Some.ensures in
    on_ok_weaker c.renew_set.result
    (λ puts tuples are. right_put c.args.config.now c.args.kept.now (set_or c.args.renewed.now c.args.kept.now.sets.items) (set_or c.renew_set.new.renewed c.args.kept.now.sets.items) tuples c.args.event.now
    c.in-Some.found found.0 found.1
    (subst (λ ss. (other id : ℕ) → has (set_or c.renew_set.new.renewed ss other) id
    ≡ cond (nat_eq other c.in-Some.found.user && nat_eq id c.in-Some.found.group) (is_put c.args.event.now.kind) (has (set_or c.args.renewed.now ss other) id)) c.deref.ensures.value puts)
    are)
    c.renew_set.ensures.sets

pub returns-in-None-clause-users : goal.returns-in-None-clause-users
returns-in-None-clause-users c = λ user h. inl h

pub returns-in-None-clause-sets : goal.returns-in-None-clause-sets
returns-in-None-clause-sets c = λ tuples are. right_passed c.args.config.now c.args.kept.now (set_or c.args.renewed.now c.args.kept.now.sets.items) tuples c.args.event.now
    (subst (AreFound c.args.config.now c.args.kept.now c.args.event.now.tuple) c.in-None.is c.numbers_of.ensures) are
