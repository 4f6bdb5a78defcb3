use Rattle.std.proofs.Common.{rules, arith, sym, ap, ◌≡◌, ◌<◌, length, get_or}
use Rattle.config_text.specs.Forms.{defined_of}
use Rattle.config.proofs.StepLemmas.{leads_found, leads_none}
use Rattle.config.proofs.steps.leads.Goals as goal

pub returns-then-declares_objects : goal.returns-then-declares_objects
returns-then-declares_objects c =
    let declared = rw c.deref.ensures.value at c.declares_objects.ensures in
    let inside : c.loop-other.other-index < length c.args.parts.now.relations.items = rw (sym c.deref-other-items.ensures.value) c.loop-other-test.true in
    let at : get_or c.args.parts.now.relations.items c.loop-other.other-index c.other-item.result ≡ c.other-item.result = rw (sym c.deref-other-items.ensures.value) (sym c.other-item.is) in
    (λ _. leads_found c.args.parts.now.namespaces.items c.args.parts.now.relations.items (defined_of c.args.relation.now) c.args.tupleset.now c.args.namespace.now c.loop-other.other-index c.other-item.result inside at (c.is_named.ensures.0 c.if-is_named.true) (declared.0 c.if-declares_objects.true), λ _. search rules)

pub returns : goal.returns
returns c =
    let long : length c.deref-other-items.result.now ≡ length c.args.parts.now.relations.items = ap length c.deref-other-items.ensures.value in (
      λ t. cc,
      λ h. absurd (leads_none c.args.parts.now.namespaces.items c.args.parts.now.relations.items (defined_of c.args.relation.now) c.args.tupleset.now c.args.namespace.now (λ k e lt is named declared. c.loop-other.invariant k e (omega (arith, long, lt, c.loop-other-test.false)) is named declared) h),
    )
