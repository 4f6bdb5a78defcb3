use Rattle.std.proofs.Common.{arith, add-one}
use Rattle.plain.proofs.LevelSteps.{done_more, done_all}
use Rattle.plain.proofs.levels.nodes_of.Goals as goal

pub loop-level-preserved : goal.loop-level-preserved
loop-level-preserved c =
    let at = rw c.deref.ensures.value at c.in_ok-nodes.ensures in
    let least = rw (c.deref-in-loop-level.ensures.value, c.deref-in-loop-level-2.ensures.value) at c.in_ok-held.ensures in
    rw add-one (done_more c.args.source.now c.requires c.args.user.now c.in_ok-objects.objects.items c.in_ok-objects.ensures c.loop-level.level c.in_ok-nodes.nodes.items c.loop-level.held.items c.in_ok-held.held.items at c.loop-level.invariant least)

pub returns : goal.returns
returns c = done_all c.args.source.now c.requires c.args.user.now c.loop-level.level c.loop-level.held.items (λ i h. omega (arith, c.count_of-count.ensures i h)) c.loop-level.invariant
