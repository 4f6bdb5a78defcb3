use Rattle.std.proofs.Common.{List, sym, subst}
use Rattle.std.specs.Prelude.{◌↔◌, Any}
use Rattle.names.specs.declared.node.Node.{Node}
use Rattle.meaning.specs.Config.{Configured}
use Rattle.graphs.specs.Groups.{GroupWalk}
use Rattle.idsets.specs.Naming.{AreDistinct}
use Rattle.leopard.specs.Index.{Index, bare, IsKeptOf, LeadsTo}
use Rattle.leopard.specs.inside.Asking.{AreAll}
use Rattle.leopard.specs.Finding.{Finds}
use Rattle.leopard.proofs.Finding.{all_yet, leads_all}
use Rattle.leopard.proofs.Gather.{any_none, any_splits}
use Rattle.leopard.proofs.Leftover.{gather, gathered}
use Rattle.leopard.proofs.answering.closure_of.Goals as goal

pub loop-node-init : goal.loop-node-init
loop-node-init c =
    let x = c.args.built.now in
    let reach : AreAll (GroupWalk (bare x.config) c.args.group.now) c.in_ok-nodes.nodes.keys =
    subst (λ (k : Configured). AreAll (GroupWalk (bare k) c.args.group.now) c.in_ok-nodes.nodes.keys) c.config.ensures c.in_ok-nodes.ensures in
    let iterator = c.into_iter-node-iterator.ensures.into_iter_gives.0 in
    record {
      unnamed = c.nothing-found.ensures.unnamed x.groups;
      groups = λ n. all_yet (Finds x.groups c.nothing-found.result.ids c.nothing-found.result.others.keys n) _ _ (λ f. c.nothing-found.ensures.none x.groups n f)
          (subst (λ (ns : List Node). Any (λ h. IsKeptOf x h n) ns ↔ LeadsTo x c.args.group.now n) (sym iterator) (leads_all x c.args.group.now c.in_ok-nodes.nodes.keys reach n));
    }

pub loop-node-preserved : goal.loop-node-preserved
loop-node-preserved c =
    let x = c.args.built.now in
    record {
      unnamed = c.in_ok-found.ensures.unnamed c.loop-node.invariant.unnamed;
      groups = λ n. gather (Any (λ (h : Node). IsKeptOf x h n)) _ _ _ _ c.loop-node.node-iterator c.in-Some.node c.next.new.self c.in-Some.ensures.steps
          (any_splits (λ (h : Node). IsKeptOf x h n) c.in-Some.node c.next.new.self) (c.loop-node.invariant.groups n) (c.in_ok-found.ensures.more n);
    }

pub returns : goal.returns
returns c =
    let x = c.args.built.now in
    record {
      unnamed = c.loop-node.invariant.unnamed;
      all = λ n. gathered (Any (λ (h : Node). IsKeptOf x h n)) _ _ c.loop-node.node-iterator c.in-None.ensures.steps.0 (any_none (λ (h : Node). IsKeptOf x h n)) (c.loop-node.invariant.groups n);
    }

pub with_kept-requires : goal.with_kept-requires
with_kept-requires c = subst (λ (y : Index). AreDistinct y.groups) c.built.view_is c.len.ensures.distinct
