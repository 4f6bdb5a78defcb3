use Rattle.std.proofs.Common.{◌≡◌, refl, sym, subst, rules, map, List}
use Rattle.config_text.specs.declared.rewrite.Rewrite.{Rewrite, the_lemmas}
use Rattle.config_text.specs.Forms.{form_of, rewrite_forms}
use Rattle.meaning.specs.Config.{IsWhole}
use Rattle.meaning.specs.Form.{This, Computed, TupleTo, Union, Intersection, Exclusion}
use Rattle.meaning.specs.Membership.{HasSet}
use Rattle.least_sets.specs.World.{AnyOf}
use Rattle.region.specs.Rules.{shape_of}
use Rattle.facts.specs.Telling.{AreShapesIn, IsShapeIn}
use Rattle.facts.specs.inside.Tables.{grew_both, numbers_keep}
use Rattle.facts.proofs.Shaping.{rules_more, whole_at, this_told, computed_in, through_told, union_told, intersection_told, exclusion_told}
use Rattle.facts.proofs.rules.+rules.Goals as goal

pub all_rules-rule_of-requires : goal.all_rules-rule_of-requires
all_rules-rule_of-requires t c = (
  search (rules, the_lemmas),
  (
    numbers_keep c.args.nodes.now c.loop-part.nodes c.args.sets.now (HasSet c.args.view.now c.args.node.now) (HasSet c.args.view.now c.args.node.now) c.loop-part.invariant.grew (λ m. (λ h. h, λ h. h)) c.requires.sets,
    whole_at c.args.parts.now c.loop-part.part-index c.part-item.result c.loop-part-test.true c.part-item.is c.requires.whole,
  ),
)

pub all_rules-loop-part-preserved : goal.all_rules-loop-part-preserved
all_rules-loop-part-preserved t c = record {
  grew = grew_both c.args.nodes.now c.loop-part.nodes c.rule_of.new.nodes c.loop-part.invariant.grew c.in_ok-rule_of.ensures.grew;
  rules = rules_more c.args.view.now c.loop-part.nodes c.rule_of.new.nodes c.args.node.now c.args.parts.now c.loop-part.part-index c.part-item.result c.loop-part.rules.items c.push.new.self.items c.in_ok-rule_of.field-0
      c.loop-part-test.true c.part-item.is c.in_ok-push.ensures.items c.in_ok-rule_of.ensures.grew c.loop-part.invariant.rules c.in_ok-rule_of.ensures.rule;
}

pub rule_of-rule_of-requires-in-Exclusion : goal.rule_of-rule_of-requires-in-Exclusion
rule_of-rule_of-requires-in-Exclusion t c =
    let form : form_of c.args.rewrite.now ≡ Exclusion (form_of c.in-Exclusion.base.value) (form_of c.in-Exclusion.less.value) = search (rules, the_lemmas) in
    let whole : IsWhole (form_of c.in-Exclusion.less.value) = (subst IsWhole form c.requires.whole).1 in (
      search (rules, the_lemmas),
      (
        numbers_keep c.args.nodes.now c.rule_of.new.nodes c.args.sets.now (HasSet c.args.view.now c.args.node.now) (HasSet c.args.view.now c.args.node.now) c.in_ok-base-in-Exclusion.ensures.grew (λ m. (λ h. h, λ h. h)) c.requires.sets,
        subst (λ (w : Rewrite). IsWhole (form_of w)) (sym c.deref-in-Exclusion-2.ensures) whole,
      ),
    )

pub rule_of-returns-in_ok-to_vec-in-This-clause-rule :
    goal.rule_of-returns-in_ok-to_vec-in-This-clause-rule
rule_of-returns-in_ok-to_vec-in-This-clause-rule t c =
    let form : form_of c.args.rewrite.now ≡ This = search (rules, the_lemmas) in
    this_told c.args.view.now c.args.nodes.now c.args.node.now (form_of c.args.rewrite.now) c.own_or.result c.args.sets.now c.in_ok-to_vec-in-This.field-0.items form (search rules) c.requires.sets c.own_or.ensures

pub rule_of-returns-in_ok-ids-in-Computed-clause-rule :
    goal.rule_of-returns-in_ok-ids-in-Computed-clause-rule
rule_of-returns-in_ok-ids-in-Computed-clause-rule t c =
    let form : form_of c.args.rewrite.now ≡ Computed c.in-Computed.relation = search (rules, the_lemmas) in
    subst (λ w. IsShapeIn c.args.view.now c.relation_of.new.nodes c.args.node.now w (AnyOf c.in_ok-ids-in-Computed.ids.items)) (sym form)
    (computed_in c.args.view.now c.relation_of.new.nodes c.args.node.now c.in-Computed.relation c.in_ok-ids-in-Computed.ids.items (AnyOf c.in_ok-ids-in-Computed.ids.items) refl c.in_ok-ids-in-Computed.ensures.numbers)

pub rule_of-returns-in_ok-any-in-TupleTo-clause-rule :
    goal.rule_of-returns-in_ok-any-in-TupleTo-clause-rule
rule_of-returns-in_ok-any-in-TupleTo-clause-rule t c =
    let form : form_of c.args.rewrite.now ≡ TupleTo c.in-TupleTo.tupleset c.in-TupleTo.relation = search (rules, the_lemmas) in
    through_told c.args.view.now c.parents_of.new.nodes c.args.node.now (form_of c.args.rewrite.now) c.reads_or.result c.in-TupleTo.tupleset c.in-TupleTo.relation c.in_ok-read-in-TupleTo.read.items c.in_ok-any-in-TupleTo.any.items form
    (numbers_keep c.relation_of-in-TupleTo.new.nodes c.parents_of.new.nodes c.in_ok-read-in-TupleTo.read.items _ _ c.in_ok-any-in-TupleTo.ensures.grew (λ m. (λ h. h, λ h. h)) c.in_ok-read-in-TupleTo.ensures.numbers)
    c.in_ok-any-in-TupleTo.ensures.numbers c.reads_or.ensures

pub rule_of-returns-in_ok-rules-in-Union-clause-rule :
    goal.rule_of-returns-in_ok-rules-in-Union-clause-rule
rule_of-returns-in_ok-rules-in-Union-clause-rule t c =
    let form : form_of c.args.rewrite.now ≡ Union (rewrite_forms c.in-Union.parts.items) = search (rules, the_lemmas) in
    let are = subst (λ (rs : List Rewrite). AreShapesIn c.args.view.now c.all_rules.new.nodes c.args.node.now (rewrite_forms rs) (map shape_of c.in_ok-rules-in-Union.rules.items)) c.deref.ensures.value c.in_ok-rules-in-Union.ensures.rules in
    union_told c.args.view.now c.all_rules.new.nodes c.args.node.now (form_of c.args.rewrite.now) c.any_of.result (rewrite_forms c.in-Union.parts.items) (map shape_of c.in_ok-rules-in-Union.rules.items) form are c.any_of.ensures

pub rule_of-returns-in_ok-rules-in-Intersection-clause-rule :
    goal.rule_of-returns-in_ok-rules-in-Intersection-clause-rule
rule_of-returns-in_ok-rules-in-Intersection-clause-rule t c =
    let form : form_of c.args.rewrite.now ≡ Intersection (rewrite_forms c.in-Intersection.parts.items) = search (rules, the_lemmas) in
    let are = subst (λ (rs : List Rewrite). AreShapesIn c.args.view.now c.all_rules-in-Intersection.new.nodes c.args.node.now (rewrite_forms rs) (map shape_of c.in_ok-rules-in-Intersection.rules.items)) c.deref-in-Intersection.ensures.value c.in_ok-rules-in-Intersection.ensures.rules in
    intersection_told c.args.view.now c.all_rules-in-Intersection.new.nodes c.args.node.now (form_of c.args.rewrite.now) c.each_of.result (rewrite_forms c.in-Intersection.parts.items) (map shape_of c.in_ok-rules-in-Intersection.rules.items) form c.requires.whole are c.each_of.ensures

pub rule_of-returns-in_ok-less-in-Exclusion-clause-rule :
    goal.rule_of-returns-in_ok-less-in-Exclusion-clause-rule
rule_of-returns-in_ok-less-in-Exclusion-clause-rule t c =
    let form : form_of c.args.rewrite.now ≡ Exclusion (form_of c.in-Exclusion.base.value) (form_of c.in-Exclusion.less.value) = search (rules, the_lemmas) in
    let base = subst (λ (w : Rewrite). IsShapeIn c.args.view.now c.rule_of.new.nodes c.args.node.now (form_of w) (shape_of c.in_ok-base-in-Exclusion.base)) c.deref-in-Exclusion.ensures c.in_ok-base-in-Exclusion.ensures.rule in
    let less = subst (λ (w : Rewrite). IsShapeIn c.args.view.now c.rule_of-in-Exclusion.new.nodes c.args.node.now (form_of w) (shape_of c.in_ok-less-in-Exclusion.less)) c.deref-in-Exclusion-2.ensures c.in_ok-less-in-Exclusion.ensures.rule in
    exclusion_told c.args.view.now c.rule_of-in-Exclusion.new.nodes c.args.node.now (form_of c.args.rewrite.now) c.without.result c.rule_of.new.nodes (form_of c.in-Exclusion.base.value) (form_of c.in-Exclusion.less.value)
    (shape_of c.in_ok-base-in-Exclusion.base) (shape_of c.in_ok-less-in-Exclusion.less) form c.in_ok-less-in-Exclusion.ensures.grew base less c.without.ensures
