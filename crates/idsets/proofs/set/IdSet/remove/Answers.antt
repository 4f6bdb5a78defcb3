use Rattle.std.proofs.Common.{◌≡◌, sym, ap, subst, ◌∙◌}
use Rattle.std.specs.Prelude.{nat_eq, not, ◌&&◌}
use Rattle.std.specs.List.{remove}
use Rattle.std.specs.List.Sorted.{IsStrictlyIncreasing}
use Rattle.idsets.specs.Sets.{has}
use Rattle.idsets.proofs.Placing.{has-remove}
use Rattle.idsets.proofs.set.IdSet.remove.Goals as goal

pub returns-then-is_at-clause-members : goal.returns-then-is_at-clause-members
returns-then-is_at-clause-members c = λ other.
    let was : c.self.inside.ids.items ≡ c.as_slice-ids.result.now = sym c.as_slice-ids.ensures.value in
    ap (λ l. has l other) (c.remove.ensures.items ∙ ap (λ l. remove l c.place_of-at.result) was)
    ∙ has-remove _ _ _ (subst IsStrictlyIncreasing was c.self.invariant) (c.is_at.ensures.within c.if-is_at.true) (c.is_at.ensures.same c.if-is_at.true) other
    ∙ ap (λ l. has l other && not (nat_eq other c.args.id)) (sym was ∙ c.self.view_is)
