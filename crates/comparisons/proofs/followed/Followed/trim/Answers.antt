use Rattle.std.proofs.Common.{◌≤◌, ℕ, subst}
use Rattle.comparisons.specs.Following.{IsIndexIn}
use Rattle.comparisons.proofs.Moving.{some_is, with_floor}
use Rattle.comparisons.proofs.followed.Followed.trim.Goals as goal

pub invariant_of-self-2 : goal.invariant_of-self-2
invariant_of-self-2 c =
    let inside = c.self.inside in
    let r = inside.rows in
    let above : r.floor ≤ c.args.floor = subst (λ (n : ℕ). n ≤ c.args.floor) c.floor.ensures c.if-floor.false in
    let is = some_is inside.groups c.in-Some.index (IsIndexIn r) c.in-Some.is c.self.invariant.groups_right in
    with_floor r inside.hot inside.cursor inside.groups c.self.invariant c.trim.new.self c.args.floor c.raise.new.index above c.if-self-floor.false c.raise.ensures.base
    (c.raise.ensures.index r is) (c.trim.ensures.raised above)
