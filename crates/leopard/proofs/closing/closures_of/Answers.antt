use Rattle.std.proofs.Common.{◌≡◌, ◌+◌, length, sym, subst, arith}
use Rattle.leopard.specs.inside.Closing.{AreWalkSetsTo}
use Rattle.leopard.proofs.Closures.{walks_none, walks_more}
use Rattle.leopard.proofs.closing.closures_of.Goals as goal

pub loop-at-init : goal.loop-at-init
loop-at-init c = walks_none c.args.arcs.now c.new-sets.result.items c.new-sets.ensures.items

pub loop-at-preserved : goal.loop-at-preserved
loop-at-preserved c = subst (AreWalkSetsTo c.args.arcs.now (c.loop-at.at + 1)) (sym c.in_ok-push.ensures.items)
    (walks_more c.args.arcs.now c.loop-at.sets.items c.loop-at.at c.in_ok-ids.ids c.loop-at.invariant c.in_ok-ids.ensures)

pub returns : goal.returns
returns c =
    let all : c.loop-at.at ≡ length c.args.arcs.now = omega (arith, c.loop-at-test.false, c.loop-at.auto.at-end) in
    subst (λ n. AreWalkSetsTo c.args.arcs.now n c.loop-at.sets.items) all c.loop-at.invariant
