use Rattle.std.proofs.Common.{[], take, subst, arith}
use Rattle.std.specs.Prelude.{Contains}
use Rattle.meaning.proofs.Lists.{contains_none}
use Rattle.facts.proofs.Naming.{one_more, all_of}
use Rattle.leopard.specs.Finding.{AreFound}
use Rattle.group_index.proofs.Numbers.{found_none, found_push, found_sorted}
use Rattle.group_index.proofs.numbered.found_among.Goals as goal

pub loop-group-init : goal.loop-group-init
loop-group-init c = found_none c.args.names.now c.new-ids.result.items c.new-others.result.keys (Contains []) c.new-ids.ensures.items c.new-others.ensures.empty (λ n h. contains_none n h)

pub loop-group-preserved : goal.loop-group-preserved
loop-group-preserved c = subst (λ ns. AreFound c.args.names.now (Contains ns) c.put.new.ids.items c.put.new.others.keys)
    (one_more c.args.groups.now c.loop-group.group-index c.group-item.result c.loop-group-test.true c.group-item.is)
    (found_push c.args.names.now c.loop-group.ids.items c.put.new.ids.items c.loop-group.others.keys c.put.new.others.keys c.group-item.result c.in_ok-put.ensures.more c.in_ok-put.ensures.unnamed
    (take c.loop-group.group-index c.args.groups.now) c.loop-group.invariant)

pub returns : goal.returns
returns c = found_sorted c.args.names.now (Contains c.args.groups.now) c.loop-group.ids.items c.of-ids.result c.loop-group.others.keys c.of-ids.ensures.members
    (subst (λ ns. AreFound c.args.names.now (Contains ns) c.loop-group.ids.items c.loop-group.others.keys)
    (all_of c.args.groups.now c.loop-group.group-index (omega (arith, c.loop-group-test.false))) c.loop-group.invariant)
