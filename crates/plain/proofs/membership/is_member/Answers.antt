use Rattle.plain.proofs.membership.is_member.Goals as goal

pub returns : goal.returns
returns c =
    let has = rw c.deref.ensures.value at c.holds.ensures in
    let member = c.in_ok-held.ensures c.args.node.now in
    (λ t. member.0 (has.0 t), λ m. has.1 (member.1 m))
