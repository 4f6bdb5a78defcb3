use Rattle.std.proofs.Common.{arith, ◌≡◌, length}
use Rattle.std.proofs.lemmas.List.{take_at}
use Rattle.strata.proofs.Raising.{raising_none, pass_done}
use Rattle.strata.proofs.raise.raised.Goals as goal

pub loop-init : goal.loop-init
loop-init c = rw c.in_ok-levels.ensures (raising_none c.args.steps.now c.args.count)

pub returns : goal.returns
returns c =
    let pass = rw c.deref_mut.ensures.value at c.loop-test.ensures in
    let long : length c.pass.new.levels ≡ c.loop.levels.len = omega (arith, pass.raising.long, c.loop.levels.ok) in
    rw (take_at c.pass.new.levels _ c.loop.levels.len long) (pass_done c.args.steps.now c.loop.levels.items c.pass.new.levels c.args.count c.loop.invariant.long pass)
