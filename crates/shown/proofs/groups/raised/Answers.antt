use Rattle.std.proofs.Common.{◌≤◌, ℕ, sym, subst, ◌∙◌, arith}
use Rattle.group_index.specs.Indices.{base_of}
use Rattle.shown.proofs.groups.raised.Goals as goal

pub returns-then-floor-base : goal.returns-then-floor-base
returns-then-floor-base c snaps from cursor was = record {
  index_of = was.index_of;
  retained = subst (λ (n : ℕ). c.args.floor ≤ n) c.base.ensures c.if-floor-base.true;
  come = was.come;
}

pub returns : goal.returns
returns c snaps from cursor was =
    let base = c.base.ensures in
    let above = c.if-floor-base.false in
    let below : base_of c.args.index.now ≤ c.args.floor = omega (arith, base, above) in
    record {
      index_of = c.raise.ensures.index snaps was.index_of below;
      retained = subst (λ (n : ℕ). c.args.floor ≤ n) (sym c.raise.ensures.base) (omega arith);
      come = c.raise.ensures.cursor ∙ was.come;
    }
