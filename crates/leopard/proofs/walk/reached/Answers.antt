use Rattle.std.proofs.Common.{List, subst, sym, ◌∙◌}
use Rattle.names.specs.declared.node.Node.{Node}
use Rattle.leopard.specs.inside.Asking.{Sees}
use Rattle.leopard.proofs.Nodes.{same_node}
use Rattle.leopard.proofs.Walking.{begun, further, arrived, none_left}
use Rattle.leopard.proofs.walk.reached.Goals as goal

pub loop-init : goal.loop-init
loop-init g c = begun (g.A.Arcs.snap c.args.arcs.now) c.args.group.now c.in_ok-clone.field-0 c.new-seen.result.keys c.new-left.result.items c.see.new.seen.keys c.see.new.left.items
    (same_node c.in_ok-clone.field-0 c.args.group.now c.in_ok-clone.ensures.cases) c.new-seen.ensures.empty c.new-left.ensures.items c.in_ok-see.ensures

pub returns-in_default : goal.returns-in_default
returns-in_default g c = arrived (g.A.Arcs.snap c.args.arcs.now) c.args.group.now c.loop.seen.keys c.loop.left.items (none_left c.loop.left.items (sym c.loop.left.ok.0 ∙ c.in_default.ensures.cases.0)) c.loop.invariant

pub loop-preserved : goal.loop-preserved
loop-preserved g c =
    let sees = subst (λ (es : List Node). Sees es c.loop.seen.keys c.pop.new.self.items c.see_all.new.seen.keys c.see_all.new.left.items) c.deref.ensures.value c.in_ok-see_all.ensures in
    further (g.A.Arcs.snap c.args.arcs.now) c.args.group.now c.loop.seen.keys c.loop.left.items c.pop.new.self.items c.see_all.new.seen.keys c.see_all.new.left.items c.in_ok-ends.ends.items c.in-Some.node
    c.loop.invariant c.in-Some.ensures.items c.in_ok-ends.ensures sees
