use Rattle.std.proofs.Common.{◌≤◌, ◌<◌, ◌+◌, length, refl, sym, ap, subst, ◌∙◌, arith}
use Rattle.std.proofs.lemmas.Option.{slice_get_within}
use Rattle.direct.specs.Before.{set_at, AreUpTo}
use Rattle.direct.specs.inside.Renewing.{IsNoted}
use Rattle.direct.proofs.Past.{up_to_later}
use Rattle.direct.proofs.Revised.{direct_more, direct_next, noted_changed, err_any}
use Rattle.direct.proofs.direct.Direct.take.Goals as goal

pub replace_all-requires : goal.replace_all-requires
replace_all-requires c = record {
  room = let ok = c.in_ok-reserve.ensures.ok in let len = c.len.ensures.len in omega (arith, ok, len);
  within = λ user h.
      let named = c.in_ok-renewed.ensures.users user h in
      let lt : user < length c.number_all.new.kept.users = slice_get_within c.number_all.new.kept.users user named.0.tuple.subject.object named.2.1 in
      let room : length c.number_all.new.kept.users ≤ length c.number_all.new.kept.sets.items = c.number_all.new.kept.room in
      omega (arith, lt, room);
  up_to = subst (λ es. AreUpTo (c.args.self.now.cursor + 1) es) (sym c.in_ok-reserve.ensures.items)
      (up_to_later c.args.self.now.cursor (c.args.self.now.cursor + 1) c.args.self.now.earlier.items (omega arith) c.args.self.now.noted);
}

pub returns-clause-direct : goal.returns-clause-direct
returns-clause-direct c = λ snaps is next. direct_next c.args.self.now _ c.number_all.new.kept c.args.events.now c.in_ok-renewed.renewed refl refl refl refl refl
    c.in_ok-number_all.ensures.more c.args.self.now.noted c.replace_all.ensures.up_to c.replace_all.ensures.sets
    (λ user at lt. c.replace_all.ensures.before user at lt ∙ ap (λ es. set_at es c.number_all.new.kept.sets.items user at) c.in_ok-reserve.ensures.items)
    c.in_ok-number_all.ensures.numbers c.in_ok-renewed.ensures.sets snaps is next

pub returns-clause-noted : goal.returns-clause-noted
returns-clause-noted c = noted_changed c.args.self.now _ c.number_all.new.kept c.args.events.now c.in_ok-renewed.renewed refl refl
    c.in_ok-number_all.ensures.more.sets
    (subst (λ es. IsNoted (c.args.self.now.cursor + 1) c.in_ok-renewed.renewed c.number_all.new.kept.sets.items c.replace_all.new.sets.items es c.replace_all.new.earlier.items) c.in_ok-reserve.ensures.items c.replace_all.ensures.noted)
    c.in_ok-renewed.ensures.users

pub returns-in_err-number_all-clause-err : goal.returns-in_err-number_all-clause-err
returns-in_err-number_all-clause-err c = err_any c.from_residual.result (λ snaps is. direct_more c.args.self.now _ refl refl refl c.in_err-number_all.ensures.more refl snaps is)

pub returns-in_err-renewed-clause-err : goal.returns-in_err-renewed-clause-err
returns-in_err-renewed-clause-err c = err_any c.from_residual-in_err-renewed.result (λ snaps is. direct_more c.args.self.now _ refl refl refl c.in_ok-number_all.ensures.more refl snaps is)

pub returns-in_err-reserve-clause-err : goal.returns-in_err-reserve-clause-err
returns-in_err-reserve-clause-err c = err_any c.from_residual-in_err-reserve.result
    (λ snaps is. direct_more c.args.self.now _ refl refl refl c.in_ok-number_all.ensures.more c.in_err-reserve.ensures.items snaps is)
