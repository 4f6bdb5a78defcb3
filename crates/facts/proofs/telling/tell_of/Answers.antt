use Rattle.std.proofs.Common.{sym, subst, ◌∙◌}
use Rattle.meaning.specs.Config.{Configured, Has, rel_of}
use Rattle.meaning.specs.Membership.{HasSet}
use Rattle.least_sets.specs.World.{AnyOf}
use Rattle.region.specs.Rules.{shape_of}
use Rattle.facts.specs.Numbers.{AreNumbersOf}
use Rattle.facts.specs.Telling.{MayTell}
use Rattle.facts.specs.inside.Tables.{grew_both}
use Rattle.facts.proofs.Told.{own_numbers, set_numbers, unknown_told, placed_told}
use Rattle.facts.proofs.telling.tell_of.Goals as goal

pub returns-in_default-clause-told : goal.returns-in_default-clause-told
returns-in_default-clause-told c =
    let S = c.args.view.now in
    let n = c.args.node.now in
    let ids = c.in_ok-own.own.items in
    let own = own_numbers S n c.deref.result.now c.users_in.new.users ids (c.deref.ensures.value ∙ c.in_ok-tuples.ensures) c.in_ok-own.ensures.numbers in
    let off : Has S.config (rel_of n) → ⊥ = λ h. c.in_default.ensures.none (subst (λ (config : Configured). Has config (rel_of n)) (sym c.config-config.ensures.config) h) in
    subst (λ xs. MayTell S c.sets_in.new.nodes c.users_in.new.users c.args.id (record { level = 0; shape = AnyOf xs; own = c.of.result })) (sym c.new.ensures.items)
    (unknown_told S c.args.numbers.now.nodes c.sets_in.new.nodes c.users_in.new.users c.args.id n ids c.of.result c.requires c.in_ok-sets.ensures.grew c.len.ensures.distinct c.of.ensures.members own off)

pub rule_of-requires-clause-sets : goal.rule_of-requires-clause-sets
rule_of-requires-clause-sets c =
    subst (λ xs. AreNumbersOf c.sets_in.new.nodes xs (HasSet c.args.view.now c.args.node.now)) (sym c.deref-3.ensures.value)
    (set_numbers c.args.view.now c.args.node.now c.deref-2.result.now c.sets_in.new.nodes c.in_ok-sets.sets.items (c.deref-2.ensures.value ∙ c.in_ok-tuples.ensures) c.in_ok-sets.ensures.numbers)

pub returns-clause-told : goal.returns-clause-told
returns-clause-told c =
    let S = c.args.view.now in
    let n = c.args.node.now in
    let ids = c.in_ok-own.own.items in
    let own = own_numbers S n c.deref.result.now c.users_in.new.users ids (c.deref.ensures.value ∙ c.in_ok-tuples.ensures) c.in_ok-own.ensures.numbers in
    let grew = grew_both c.args.numbers.now.nodes c.sets_in.new.nodes c.rule_of.new.nodes c.in_ok-sets.ensures.grew c.in_ok-rule.ensures.grew in
    placed_told S c.args.numbers.now.nodes c.rule_of.new.nodes c.users_in.new.users c.args.id n ids c.of-2.result c.requires grew c.len.ensures.distinct c.of-2.ensures.members own
    c.config-config.result.now c.relations.result.now c.levels.result.now c.in-Some.place c.index-relations-place.result (shape_of c.in_ok-rule.rule)
    c.config-config.ensures.config c.in-Some.ensures.found c.relations.ensures.relations c.index-relations-place.is c.levels.ensures.levels c.in_ok-rule.ensures.rule
