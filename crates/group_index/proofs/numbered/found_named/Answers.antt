use Rattle.std.proofs.Common.{[], take, refl, subst, arith}
use Rattle.std.proofs.lemmas.Bool.{false≢true}
use Rattle.region.proofs.Listing.{place_same}
use Rattle.facts.proofs.Naming.{one_more, all_of}
use Rattle.leopard.specs.Finding.{IsNamedBy, AreFound}
use Rattle.group_index.proofs.Numbers.{found_none, found_sorted}
use Rattle.group_index.proofs.numbered.found_named.Goals as goal

pub loop-number-init : goal.loop-number-init
loop-number-init c = found_none c.args.names.now c.new-ids.result.items c.new-others.result.keys (IsNamedBy c.args.table.now []) c.new-ids.ensures.items c.new-others.ensures.empty (λ n (i, at, h). false≢true h)

pub loop-number-preserved : goal.loop-number-preserved
loop-number-preserved c = subst (λ xs. AreFound c.args.names.now (IsNamedBy c.args.table.now xs) c.put_named.new.ids.items c.put_named.new.others.keys)
    (one_more c.args.numbers.now c.loop-number.number-index _ c.loop-number-test.true (place_same c.args.numbers.now c.args.numbers.now c.loop-number.number-index _ refl c.loop-number-test.true))
    (c.in_ok-put_named.ensures (take c.loop-number.number-index c.args.numbers.now) c.loop-number.invariant)

pub returns : goal.returns
returns c = found_sorted c.args.names.now (IsNamedBy c.args.table.now c.args.numbers.now) c.loop-number.ids.items c.of-ids.result c.loop-number.others.keys c.of-ids.ensures.members
    (subst (λ xs. AreFound c.args.names.now (IsNamedBy c.args.table.now xs) c.loop-number.ids.items c.loop-number.others.keys)
    (all_of c.args.numbers.now c.loop-number.number-index (omega (arith, c.loop-number-test.false))) c.loop-number.invariant)
