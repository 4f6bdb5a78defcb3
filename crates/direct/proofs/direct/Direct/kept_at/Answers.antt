use Rattle.std.proofs.Common.{◌<◌, ◌≤◌, length, sym, ap, subst, ◌∙◌, arith}
use Rattle.std.proofs.lemmas.Option.{slice_get_within}
use Rattle.direct.specs.Before.{set_at}
use Rattle.direct.proofs.Revised.{kept_ids, answers_none, none_any}
use Rattle.direct.proofs.direct.Direct.kept_at.Goals as goal

pub returns-in_err-id-clause-none : goal.returns-in_err-id-clause-none
returns-in_err-id-clause-none c = none_any c.from_residual.result (λ snaps of from to n m. answers_none c.args.self.now c.args.user.now c.args.rev c.in_err-id.ensures.missing snaps of from to n m)

pub set_at-requires-clause-within : goal.set_at-requires-clause-within
set_at-requires-clause-within c =
    let kept = c.args.self.now.kept in
    let lt : c.in_ok-id.id < length kept.users = slice_get_within kept.users c.in_ok-id.id c.args.user.now c.in_ok-id.ensures.found in
    let room : length kept.users ≤ length kept.sets.items = kept.room in
    subst (λ ss. c.in_ok-id.id < length ss) (sym c.deref-2.ensures.value) (omega (arith, lt, room))

pub returns-clause-kept : goal.returns-clause-kept
returns-clause-kept c = λ snaps of from to n. kept_ids c.args.self.now c.args.user.now c.in_ok-id.id c.args.rev c.set_at.result.now c.in_ok-id.ensures.found
    (c.set_at.ensures
    ∙ ap (λ es. set_at es c.deref-2.result.now c.in_ok-id.id c.args.rev) c.deref.ensures.value
    ∙ ap (λ ss. set_at c.args.self.now.earlier.items ss c.in_ok-id.id c.args.rev) c.deref-2.ensures.value)
    snaps of from to n
