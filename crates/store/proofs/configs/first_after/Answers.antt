use Rattle.std.proofs.Common.{◌+◌, ◌-◌, ◌/◌, ◌<◌, length, ap, arith}
use Rattle.store.specs.declared.parts.ReadConfig.{ReadConfig}
use Rattle.store.proofs.Halving.{rises, up_to_it, from_it_on}
use Rattle.store.proofs.configs.first_after.Goals as goal

pub loop-low-preserved-then-configs-middle : goal.loop-low-preserved-then-configs-middle
loop-low-preserved-then-configs-middle c =
    let low = c.loop-low.low in
    let high = c.loop-low.high in
    let middle : low + (high - low) / 2 < high = omega (arith, c.loop-low-test.true) in
    let within : low + (high - low) / 2 < length c.args.configs.now = omega (arith, middle, c.loop-low.invariant.within) in
    let same = ap (λ (x : ReadConfig). x.rev) c.index-configs-middle.is in
    record {
      order = omega (arith, middle);
      within = c.loop-low.invariant.within;
      before = up_to_it c.args.configs.now (rises c.args.configs.now c.requires) c.args.rev (low + (high - low) / 2) c.index-configs-middle.result within c.index-configs-middle.is (omega (arith, same, c.if-configs-middle.true));
      after = c.loop-low.invariant.after;
    }

pub loop-low-preserved : goal.loop-low-preserved
loop-low-preserved c =
    let low = c.loop-low.low in
    let high = c.loop-low.high in
    let middle : low + (high - low) / 2 < high = omega (arith, c.loop-low-test.true) in
    let within : low + (high - low) / 2 < length c.args.configs.now = omega (arith, middle, c.loop-low.invariant.within) in
    let same = ap (λ (x : ReadConfig). x.rev) c.index-configs-middle.is in
    record {
      order = omega arith;
      within = omega (arith, within);
      before = c.loop-low.invariant.before;
      after = from_it_on c.args.configs.now (rises c.args.configs.now c.requires) c.args.rev (low + (high - low) / 2) c.index-configs-middle.result within c.index-configs-middle.is (omega (arith, same, c.if-configs-middle.false));
    }
