use Rattle.std.proofs.Common.{List, ap, sym, subst, ◌∙◌}
use Rattle.names.specs.declared.node.Node.{Node}
use Rattle.meaning.specs.Snap.{Snap}
use Rattle.leopard.specs.Groups.{GroupToGroup}
use Rattle.leopard.specs.inside.Asking.{AreAll}
use Rattle.leopard.proofs.Finding.{all_unnamed}
use Rattle.leopard.proofs.asking.ViewBySubjectGroupSets.closure.Goals as goal

pub returns : goal.returns
returns c S told group = all_unnamed (GroupToGroup S c.args.group.now) c.unnamed.result.ids c.unnamed.result.others.keys
    (subst (λ (T : Snap). AreAll (GroupToGroup T c.args.group.now) c.unnamed.result.others.keys) (c.view.ensures ∙ told)
    (subst (λ (ns : List Node). AreAll (GroupToGroup c.view.result.now c.args.group.now) ns) (ap (λ b. b.keys) (sym c.unnamed.ensures.others)) c.in_ok-groups.ensures))
