use Rattle.std.proofs.Common.{◌≡◌, true, map, true≢false, refl, sym, ◌∙◌, ⊎_elim, arith}
use Rattle.std.proofs.lemmas.Bool.{cases_lt}
use Rattle.std.proofs.lemmas.List.Elements.{All-map}
use Rattle.meaning.specs.Admits.{admits}
use Rattle.store.specs.Written.{ConfigAt}
use Rattle.store.specs.inside.Following.{is_between}
use Rattle.store.specs.inside.Reading.{as_span, as_config}
use Rattle.store.specs.declared.parts.ReadConfig.{ReadConfig}
use Rattle.store.proofs.Alike.{since_at}
use Rattle.store.proofs.Admitting.{admitted}
use Rattle.store.proofs.Admissible.{first_admitted, later_admitted}
use Rattle.store.proofs.Deserving.{in_at}
use Rattle.store.proofs.RowSteps.{each_more}
use Rattle.store.proofs.configs.is_admitted.Goals as goal

pub loop-place-preserved : goal.loop-place-preserved
loop-place-preserved c =
    let P : ReadConfig → Type 0 = λ r. is_between c.later-from.result c.args.span.now.removed r.rev ≡ true → admits r.config c.args.span.now.tuple ≡ true in
    let within = c.requires.within in
    each_more P c.args.configs.now c.loop-place.place c.index-configs-place.result (omega (arith, c.loop-place-test.true, within)) c.index-configs-place.is c.loop-place.invariant (c.if-not-is_borne.ensures.passes refl)

pub returns-clause-passes : goal.returns-clause-passes
returns-clause-passes c = λ _.
    let from = c.later-from.result in
    let l = as_span c.args.span.now in
    let P : ConfigAt → Type 0 = λ r. is_between from l.removed r.rev ≡ true → admits r.config l.tuple ≡ true in
    admitted c.args.floor from _ l c.later-from.ensures.either
    (sym c.if-not-is_allowed.ensures)
    (All-map P as_config c.args.configs.now (λ k d lt is. ⊎_elim
    (λ before. c.loop-place.invariant k d (omega (arith, before, c.loop-place-test.false)) is)
    (λ on. since_at c.args.configs.now c.args.span.now.tuple c.args.since c.requires.since k d on lt)
    (cases_lt k c.args.since)))

pub returns-then-not-is_allowed-clause-refuses : goal.returns-then-not-is_allowed-clause-refuses
returns-then-not-is_allowed-clause-refuses c = λ _ newest good span admitted.
    let l = as_span c.args.span.now in
    true≢false (
    sym (first_admitted c.args.floor newest c.later-from.result (map as_config c.args.configs.now) l good.order c.later-from.ensures.either c.later-from.ensures.most.0 c.later-from.ensures.most.1 span admitted)
    ∙ sym c.if-not-is_allowed.ensures)

pub returns-then-not-is_borne-clause-refuses : goal.returns-then-not-is_borne-clause-refuses
returns-then-not-is_borne-clause-refuses c = λ _ newest good span admitted.
    let refused = c.if-not-is_borne.ensures.refuses refl in
    true≢false (
    sym (later_admitted c.args.floor newest c.later-from.result (map as_config c.args.configs.now) (as_span c.args.span.now) (as_config c.index-configs-place.result) good c.later-from.ensures.most.0 c.later-from.ensures.most.1
    (in_at as_config c.args.configs.now c.loop-place.place c.index-configs-place.result (let within = c.requires.within in omega (arith, c.loop-place-test.true, within)) c.index-configs-place.is) refused.0 admitted)
    ∙ refused.1)
