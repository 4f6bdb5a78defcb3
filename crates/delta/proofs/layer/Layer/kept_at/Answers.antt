use Rattle.std.proofs.Common.{List, sym, ◌∙◌, ap, subst}
use Rattle.std.specs.List.Sorted.{IsNonDecreasingBy}
use Rattle.delta.specs.declared.earlier.Earlier.{Earlier}
use Rattle.delta.specs.Noted.{led_at}
use Rattle.delta.proofs.Outcomes.{if_some_as, if_none_as, none_any}
use Rattle.delta.proofs.Layered.{kept_ids, missing_keeps, none_keeps}
use Rattle.delta.proofs.layer.Layer.kept_at.Goals as goal

pub led_at-requires : goal.led_at-requires
led_at-requires c = subst (λ (es : List Earlier). IsNonDecreasingBy (λ (e : Earlier). e.rev) es) (sym c.deref.ensures.value) c.args.self.now.noted.order

pub returns-in_err-id-clause-none : goal.returns-in_err-id-clause-none
returns-in_err-id-clause-none c = none_any c.from_residual.result (λ ids keeps. missing_keeps c.args.self.now c.args.group.now c.args.rev c.in_err-id.ensures.missing ids keeps)

pub returns-clause-kept : goal.returns-clause-kept
returns-clause-kept c =
    let layer = c.args.self.now in
    if_some_as (λ ids. ids.now) c.led_at.result (led_at layer.earlier.items layer.sets.rows c.in_ok-id.id c.args.rev) _
    (c.led_at.ensures ∙ ap (λ (es : List Earlier). led_at es layer.sets.rows c.in_ok-id.id c.args.rev) c.deref.ensures.value)
    (λ ids led snaps is from to group n. kept_ids layer snaps c.args.group.now c.args.rev is from to group c.in_ok-id.id ids.now c.in_ok-id.ensures.found led n)

pub returns-clause-none : goal.returns-clause-none
returns-clause-none c =
    let layer = c.args.self.now in
    if_none_as (λ ids. ids.now) c.led_at.result (led_at layer.earlier.items layer.sets.rows c.in_ok-id.id c.args.rev)
    (c.led_at.ensures ∙ ap (λ (es : List Earlier). led_at es layer.sets.rows c.in_ok-id.id c.args.rev) c.deref.ensures.value)
    (λ none ids keeps. none_keeps layer c.args.group.now c.args.rev c.in_ok-id.id c.len.ensures.distinct c.in_ok-id.ensures.found none ids keeps)
