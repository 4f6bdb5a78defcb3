use Rattle.std.proofs.Common.{rules, arith, sym, ◌∙◌}
use Rattle.std.specs.Prelude.{Contains}
use Rattle.plain.proofs.Looks.{relation_found, relation_none}
use Rattle.plain.proofs.rewrites.relation_gives.Goals as goal

pub returns-then-gives : goal.returns-then-gives
returns-then-gives c = (
  λ _. relation_found c.args.source.now c.args.user.now c.args.node.now (Contains c.args.held.now) (Contains c.args.lower.now) c.loop-relation.relation-index c.relation-item.result (omega arith) (cc) (sym c.is_of.ensures ∙ c.if-is_of.true) (c.gives.ensures.0 c.if-gives.true),
  λ _. search rules,
)

pub returns : goal.returns
returns c = (
  λ t. cc,
  λ g. absurd (relation_none c.args.source.now c.args.user.now c.args.node.now (Contains c.args.held.now) (Contains c.args.lower.now) (λ k x h e p. c.loop-relation.invariant k x (omega arith) e p) g),
)
