use Rattle.std.proofs.Common.{List, take, refl, sym, ◌∙◌, subst, arith, ⊎_elim}
use Rattle.std.specs.Prelude.{Contains}
use Rattle.std.proofs.lemmas.Bool.{false≢true}
use Rattle.std.proofs.lemmas.List.Elements.{Contains-push_cases}
use Rattle.meaning.proofs.Lists.{contains_none}
use Rattle.names.specs.declared.node.Node.{Node}
use Rattle.facts.proofs.Naming.{one_more, all_of}
use Rattle.leopard.specs.Finding.{IsNamedBy}
use Rattle.group_index.proofs.meeting.some_among.Goals as goal

pub loop-node-init : goal.loop-node-init
loop-node-init c = λ n h named. contains_none n h

pub loop-node-preserved : goal.loop-node-preserved
loop-node-preserved c =
    let node : Node = c.node-item.result in
    let before : List Node = take c.loop-node.node-index c.args.nodes.now in
    subst (λ (ns : List Node). (n : Node) → Contains ns n → IsNamedBy c.args.names.now c.args.ids.now n → ⊥)
    (one_more c.args.nodes.now c.loop-node.node-index node c.loop-node-test.true c.node-item.is)
    (λ n h named. ⊎_elim
    (λ d. c.loop-node.invariant n d named)
    (λ e. false≢true (sym c.if-is_among.false ∙ c.is_among.ensures.1 (subst (λ x. IsNamedBy c.args.names.now c.args.ids.now x) (sym e) named)))
    (Contains-push_cases before node n h))

pub returns-then-is_among : goal.returns-then-is_among
returns-then-is_among c = (
  λ h. (c.node-item.result, (c.loop-node.node-index, c.loop-node-test.true, sym c.node-item.is), c.is_among.ensures.0 c.if-is_among.true),
  λ m. refl,
)

pub returns : goal.returns
returns c = (
  λ h. absurd (false≢true h),
  λ (n, h, named). absurd (c.loop-node.invariant n (subst (λ (ns : List Node). Contains ns n) (sym (all_of c.args.nodes.now c.loop-node.node-index (omega (arith, c.loop-node-test.false)))) h) named),
)
