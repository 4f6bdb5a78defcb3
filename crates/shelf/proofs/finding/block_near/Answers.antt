use Rattle.std.proofs.Common.{◌≡◌, ◌+◌, suc, drop, subst, arith}
use Rattle.shelf.specs.inside.Places.{AreAbove, joined}
use Rattle.shelf.proofs.finding.block_near.Goals as goal

pub block_between-requires-clause-above : goal.block_between-requires-clause-above
block_between-requires-clause-above g c = c.are_above.ensures.above c.if-are_above.true

pub returns-then-are_above-2 : goal.returns-then-are_above-2
returns-then-are_above-2 g c =
    let next : c.args.near + 1 ≡ suc c.args.near = omega arith in
    record {
      within = omega arith;
      below = c.are_above.ensures.below c.if-are_above.false;
      above = subst (λ n. AreAbove c.args.key.now (joined (drop n c.args.blocks.now))) next (c.are_above-2.ensures.above c.if-are_above-2.true);
    }

pub block_between-requires-2-clause-below : goal.block_between-requires-2-clause-below
block_between-requires-2-clause-below g c = c.are_above-2.ensures.below c.if-are_above-2.false
