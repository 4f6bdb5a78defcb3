use Rattle.std.proofs.Common.{◌+◌, ◌-◌, ◌/◌, arith}
use Rattle.idsets.proofs.Placing.{below_to, from_to}
use Rattle.idsets.proofs.place.place_between.Goals as goal

pub halves-preserved-then-ids-mid : goal.halves-preserved-then-ids-mid
halves-preserved-then-ids-mid c =
    let mid = c.halves.low + (c.halves.high - c.halves.low) / 2 in
    record {
      up = omega arith;
      within = c.halves.invariant.within;
      below = below_to c.args.ids.now c.args.id mid c.requires.ascending (omega (arith, c.halves.invariant.within)) c.if-ids-mid.true;
      from = c.halves.invariant.from;
    }

pub halves-preserved : goal.halves-preserved
halves-preserved c =
    let mid = c.halves.low + (c.halves.high - c.halves.low) / 2 in
    record {
      up = omega arith;
      within = omega (arith, c.halves.invariant.within);
      below = c.halves.invariant.below;
      from = from_to c.args.ids.now c.args.id mid c.requires.ascending (omega (arith, c.halves.invariant.within)) c.if-ids-mid.false;
    }
