use Rattle.std.proofs.Common.{List, ◌∙◌, ap, sym}
use Rattle.std.specs.List.{list_any}
use Rattle.names.specs.declared.node.Node.{Node}
use Rattle.delta.proofs.Same.{any_same, is_same}
use Rattle.delta.proofs.closing.computes.Goals as goal

pub returns : goal.returns
returns c =
    let both = any_same c.in_ok-ends.ends.items c.args.to.now in
    let are = c.in_ok-ends.ensures c.args.to.now in
    let is = c.contains-leads.ensures.value ∙ ap (λ (ns : List Node). list_any (λ m. is_same m c.args.to.now) ns) c.deref.ensures.value in
    (λ h. are.0 (both.0 (sym is ∙ h)), λ w. is ∙ both.1 (are.1 w))
