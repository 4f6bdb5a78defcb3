use Rattle.plain.specs.inside.Source.{snap_of}
use Rattle.plain.proofs.Alike.{member_alike}
use Rattle.plain.proofs.OrderedSets.{source_alike}
use Rattle.plain.proofs.membership.check.Goals as goal

pub returns-clause-ok : goal.returns-clause-ok
returns-clause-ok c =
    let S = c.args.snapshot.now in
    let s = c.source_of-source.result in
    let alike = member_alike (snap_of s) S (source_alike S s c.source_of-source.ensures) c.args.user.now c.args.node.now in
    (λ t. alike.0 (c.in_ok-is_member.ensures.0 t), λ m. c.in_ok-is_member.ensures.1 (alike.1 m))
