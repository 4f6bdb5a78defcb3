use Rattle.std.proofs.Common.{◌∷◌, ◌++◌, [], List, take, ap, sym, subst, ◌∙◌}
use Rattle.std.proofs.lemmas.List.{take_more}
use Rattle.names.specs.declared.node.Node.{Node}
use Rattle.leopard.specs.inside.Asking.{Sees}
use Rattle.leopard.proofs.Nodes.{same_node}
use Rattle.leopard.proofs.Walking.{see_none, see_more}
use Rattle.leopard.proofs.walk.see_all.Goals as goal

pub loop-end-preserved : goal.loop-end-preserved
loop-end-preserved c =
    let item : Node = c.end-item.result in
    let before : List Node = take c.loop-end.end-index c.args.ends.now in
    let copy = same_node c.in_ok-clone.field-0 item c.in_ok-clone.ensures.cases in
    let one = subst (λ (e : Node). Sees (e ∷ []) c.loop-end.seen.keys c.loop-end.left.items c.see.new.seen.keys c.see.new.left.items) copy c.in_ok-see.ensures in
    let sees = see_more before (item ∷ []) c.args.seen.now.keys c.args.left.now.items c.loop-end.seen.keys c.loop-end.left.items c.see.new.seen.keys c.see.new.left.items c.loop-end.invariant one in
    let taken = take_more c.args.ends.now c.loop-end.end-index item c.loop-end-test.true ∙ ap (λ (e : Node). before ++ e ∷ []) (sym c.end-item.is) in
    subst (λ (es : List Node). Sees es c.args.seen.now.keys c.args.left.now.items c.see.new.seen.keys c.see.new.left.items) (sym taken) sees

pub loop-end-init : goal.loop-end-init
loop-end-init c = see_none c.args.seen.now.keys c.args.left.now.items
