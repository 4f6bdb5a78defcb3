use Rattle.std.proofs.Common.{Any, Contains, ◌+◌, drop, arith}
use Rattle.config_text.specs.Forms.{defined_of}
use Rattle.config_text.specs.declared.relation.Relation.{Relation}
use Rattle.leopard.proofs.Gather.{gather_more, gather_all, left_at, left_none}
use Rattle.delta.specs.inside.Leading.{IsOneOf}
use Rattle.delta.proofs.Above.{one_leads}
use Rattle.delta.proofs.leading.leading_to.Goals as goal

pub loop-relation-preserved : goal.loop-relation-preserved
loop-relation-preserved c n =
    gather_more (λ (r : Relation). IsOneOf c.args.config.now (defined_of r) c.args.node.now n)
    (Any (λ (r : Relation). IsOneOf c.args.config.now (defined_of r) c.args.node.now n) c.relations-relations.result.now) (Contains c.loop-relation.groups.items n) (Contains c.push_leading.new.groups.items n)
    (drop c.loop-relation.relation-index c.relations-relations.result.now) c.relation-item.result (drop (c.loop-relation.relation-index + 1) c.relations-relations.result.now)
    (left_at c.relations-relations.result.now c.loop-relation.relation-index c.relation-item.result c.loop-relation-test.true c.relation-item.is)
    (c.loop-relation.invariant n) (c.in_ok-push_leading.ensures n)

pub returns : goal.returns
returns c n =
    let all = gather_all (λ (r : Relation). IsOneOf c.args.config.now (defined_of r) c.args.node.now n)
    (Any (λ (r : Relation). IsOneOf c.args.config.now (defined_of r) c.args.node.now n) c.relations-relations.result.now) (Contains c.loop-relation.groups.items n)
    (drop c.loop-relation.relation-index c.relations-relations.result.now)
    (left_none c.relations-relations.result.now c.loop-relation.relation-index (omega (arith, c.loop-relation-test.false, c.loop-relation.auto.relation-index-end)))
    (c.loop-relation.invariant n) in
    let leads = one_leads c.args.config.now c.args.node.now c.relations-relations.result.now c.relations-relations.ensures.relations n in
    (λ h. leads.0 (all.0 h), λ h. all.1 (leads.1 h))
