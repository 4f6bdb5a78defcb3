use Rattle.std.proofs.Common.{◌-◌, drop, sym, subst}
use Rattle.rows.specs.Ordered.{AreOrdered}
use Rattle.rows.proofs.Ordering.{ordered_take, ordered_drop}
use Rattle.rows.proofs.rows.Rows.commits.Goals as goal

pub returns-clause-ordered : goal.returns-clause-ordered
returns-clause-ordered c =
    let kept : AreOrdered c.as_slice-commits.result.now = subst AreOrdered (sym c.as_slice-commits.ensures.value) c.self.invariant.each_ordered in
    let count = c.args.from - c.self.inside.floor in
    ordered_take (c.args.to - c.self.inside.floor - count) (drop count c.as_slice-commits.result.now) (ordered_drop count c.as_slice-commits.result.now kept)
