use Rattle.std.proofs.Common.{List, ap, sym, subst}
use Rattle.names.specs.declared.node.Node.{Node}
use Rattle.meaning.specs.Snap.{Snap}
use Rattle.leopard.specs.Groups.{MemberToGroup}
use Rattle.leopard.specs.inside.Asking.{AreAll}
use Rattle.leopard.proofs.Finding.{all_unnamed}
use Rattle.leopard.proofs.asking.ViewBySubjectGroupSets.direct.Goals as goal

pub returns : goal.returns
returns c S told = all_unnamed (MemberToGroup S c.args.user.now) c.unnamed.result.ids c.unnamed.result.others.keys
    (subst (λ (T : Snap). AreAll (MemberToGroup T c.args.user.now) c.unnamed.result.others.keys) told
    (subst (λ (ns : List Node). AreAll (MemberToGroup c.args.self.now c.args.user.now) ns) (ap (λ b. b.keys) (sym c.unnamed.ensures.others)) c.in_ok-groups.ensures))
