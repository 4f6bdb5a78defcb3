use Rattle.std.proofs.Common.{◌≡◌, ℕ, List, Any, take, ap, subst}
use Rattle.std.specs.Prelude.{Some}
use Rattle.std.specs.List.{slice_get}
use Rattle.std.specs.List.Sorted.{IsStrictlySortedBy}
use Rattle.std.proofs.lemmas.Result.{IfOk-weaker}
use Rattle.names.specs.Order.{node_cmp}
use Rattle.names.specs.declared.node.Node.{Node}
use Rattle.leopard.specs.Answers.{AreFirst}
use Rattle.leopard.specs.Index.{Index}
use Rattle.leopard.specs.inside.Asking.{Gains}
use Rattle.leopard.specs.Finding.{Finds}
use Rattle.leopard.proofs.First.{first_found}
use Rattle.leopard.proofs.answering.answer_of.Goals as goal

pub returns : goal.returns
returns c =
    let x = c.args.built.now in
    let ids : List ℕ = c.as_slice-ids.result.now in
    let firsts : List ℕ = take c.min-count.result ids in
    let others : List Node = c.args.found.others.keys in
    let nodes : List Node = c.put_listed.new.nodes.keys in
    IfOk-weaker c.first_of.result _ _
    (λ v is. subst (λ (l : List ℕ). AreFirst c.args.limit (Finds x.groups l others) v.items) c.as_slice-ids.ensures.ids
    (first_found c.args.limit x.groups ids firsts others nodes v.items
    (subst (λ (y : Index). IsStrictlySortedBy node_cmp y.groups) c.built.view_is c.built.invariant.groups_ascend) c.as_slice-ids.ensures.ascending
    (ap (λ (k : ℕ). take k ids) c.min-count.ensures) c.first_of.ensures.sorted
    (subst (λ (y : Index). Gains (λ n. Any (λ id. slice_get y.groups id ≡ Some n) firsts) others nodes) c.built.view_is c.in_ok-put_listed.ensures) is))
    c.first_of.ensures.first
