use Rattle.std.proofs.Common.{◌≡◌, ◌∷◌, [], List, false, rules, sym, subst}
use Rattle.names.specs.declared.node.Node.{Node}
use Rattle.leopard.specs.inside.Asking.{Gains, Sees}
use Rattle.leopard.proofs.Nodes.{same_node}
use Rattle.leopard.proofs.Walking.{see_new, see_again}
use Rattle.leopard.proofs.walk.see.Goals as goal

pub returns-then-not-branch : goal.returns-then-not-branch
returns-then-not-branch c =
    let copy = same_node c.in_ok-clone.field-0 c.args.end c.in_ok-clone.ensures.cases in
    let known : c.in_ok-put.field-0 ≡ false = search rules in
    let sees = see_again c.args.seen.now.keys c.args.left.now.items c.put.new.nodes.keys c.in_ok-clone.field-0 c.in_ok-put.ensures.gains (c.in_ok-put.ensures.there known) in
    subst (λ (e : Node). Sees (e ∷ []) c.args.seen.now.keys c.args.left.now.items c.put.new.nodes.keys c.args.left.now.items) copy sees

pub returns : goal.returns
returns c =
    let copy = same_node c.in_ok-clone.field-0 c.args.end c.in_ok-clone.ensures.cases in
    let gains = subst (λ (e : Node). Gains (λ n. n ≡ e) c.args.seen.now.keys c.put.new.nodes.keys) copy c.in_ok-put.ensures.gains in
    let sees = see_new c.args.seen.now.keys c.args.left.now.items c.put.new.nodes.keys c.args.end gains in
    subst (λ (ns : List Node). Sees (c.args.end ∷ []) c.args.seen.now.keys c.args.left.now.items c.put.new.nodes.keys ns) (sym c.in_ok-push.ensures.items) sees
