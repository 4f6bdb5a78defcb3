use Rattle.std.proofs.Common.{ℕ, List, subst}
use Rattle.std.proofs.lemmas.Result.{IfOk-weaker}
use Rattle.names.specs.declared.node.Node.{Node}
use Rattle.leopard.specs.Answers.{AreFirst}
use Rattle.leopard.specs.Finding.{Finds}
use Rattle.leopard.proofs.First.{are_first, all_named}
use Rattle.leopard.proofs.answering.first_named.Goals as goal

pub returns : goal.returns
returns c =
    let names : List Node = c.args.names.now in
    let ids : List ℕ = c.as_slice.result.now in
    let others : List Node = c.args.found.others.keys in
    let nodes : List Node = c.put_named.new.nodes.keys in
    IfOk-weaker c.first_of.result _ _
    (λ v is. subst (λ (l : List ℕ). AreFirst c.args.limit (Finds names l others) v.items) c.as_slice.ensures.ids
    (are_first c.args.limit (Finds names ids others) nodes v.items c.first_of.ensures.sorted (all_named names ids others nodes c.in_ok-put_named.ensures) is))
    c.first_of.ensures.first
