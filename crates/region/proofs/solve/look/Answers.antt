use Rattle.std.proofs.Common.{◌≡◌, refl, ap, subst, arith}
use Rattle.region.specs.declared.rule.Told.{Told}
use Rattle.region.specs.Tables.{over}
use Rattle.region.specs.Steps.{passed, gained, IsSettledAt}
use Rattle.region.proofs.Rooms.{same_told, slice_at}
use Rattle.region.proofs.solve.look.Goals as goal

pub returns-in_ok-push_listed : goal.returns-in_ok-push_listed
returns-in_ok-push_listed c =
    let at : c.in-Some.t.now.level ≡ c.args.level = omega arith in
    gained c.in-Some.t.now (slice_at c.args.told.now c.args.place c.in-Some.t.now c.in-Some.ensures.lookup.3.0 c.in-Some.ensures.lookup.1)
    (record { at = at; step = c.in_ok-settle_node.ensures.step; gains = rw c.if-branch.true at c.in_ok-settle_node.ensures.more })
    (λ n. c.in_ok-push_listed.ensures n)

pub returns-else-branch : goal.returns-else-branch
returns-else-branch c =
    let settled = rw c.if-branch.false at c.in_ok-settle_node.ensures.more in
    passed
    (λ d is at. subst (λ (y : Told). IsSettledAt y (over c.args.fresh.now c.args.kept.now.rows)) (same_told c.args.told.now c.args.place c.in-Some.t.now d (slice_at c.args.told.now c.args.place c.in-Some.t.now c.in-Some.ensures.lookup.3.0 c.in-Some.ensures.lookup.1) is) settled.0)
    (ap (λ m. over m c.args.kept.now.rows) settled.1) refl
