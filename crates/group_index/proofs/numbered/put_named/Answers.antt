use Rattle.std.proofs.Common.{sym}
use Rattle.group_index.proofs.Numbers.{named_push, named_passed, on_ok_both}
use Rattle.group_index.proofs.numbered.put_named.Goals as goal

pub returns-in-Some : goal.returns-in-Some
returns-in-Some c = on_ok_both c.put.result
    (λ more unnamed before are. named_push c.args.names.now c.args.table.now c.args.ids.now.items c.put.new.ids.items c.args.others.now.keys c.put.new.others.keys c.in-Some.group.now c.args.number
    (sym c.in-Some.ensures) more unnamed before are)
    c.put.ensures.more c.put.ensures.unnamed

pub returns-in-None : goal.returns-in-None
returns-in-None c = named_passed c.args.names.now c.args.table.now c.args.ids.now.items c.args.others.now.keys c.args.number c.in-None.ensures
