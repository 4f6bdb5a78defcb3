use Rattle.std.proofs.Common.{◌≡◌, length, ◌-◌, ap, sym, subst, ◌∙◌}
use Rattle.std.specs.Prelude.{Contains, Some}
use Rattle.std.specs.List.{slice_get}
use Rattle.std.specs.Ordering.{is_eq}
use Rattle.std.proofs.lemmas.Bool.{false≢true}
use Rattle.std.proofs.lemmas.Map.Views.{tells_apart}
use Rattle.names.specs.declared.node.Node.{Node}
use Rattle.meaning.proofs.TupleSets.{exact_nodes}
use Rattle.leopard.proofs.Ordered.{get_contains}
use Rattle.leopard.proofs.building.is_last.Goals as goal

pub returns-in-Some : goal.returns-in-Some
returns-in-Some c e =
    let last : Node = c.in-Some.last.now in
    let node : Node = c.args.node.now in
    let same : last ≡ node = tells_apart exact_nodes last node (ap is_eq (sym c.cmp.ensures) ∙ sym c.is_eq.ensures ∙ e) in
    let at : slice_get c.args.nodes.now (length c.args.nodes.now - 1) ≡ Some last = sym c.in-Some.ensures.value in
    subst (Contains c.args.nodes.now) same (get_contains c.args.nodes.now (length c.args.nodes.now - 1) last at)

pub returns-in-None : goal.returns-in-None
returns-in-None c e = absurd (false≢true e)
