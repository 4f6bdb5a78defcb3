use Rattle.std.proofs.Common.{◌≡◌, ◌++◌, ◌∷◌, [], false, nat_eq, sym, ◌∙◌, ap, subst}
use Rattle.std.specs.Ordering.{nat_cmp}
use Rattle.std.specs.BTreeSet.{contains}
use Rattle.least_sets.specs.Walks.{Adds}
use Rattle.region.proofs.Listing.{not_true, listing_more, listing_adds}
use Rattle.region.proofs.found.Found.add.Goals as goal

pushed : (c : goal.In_ok-push) → c.push.new.self.items ≡ c.self.inside.list.items ++ c.args.id ∷ []
pushed c = c.in_ok-push.ensures.items ∙ ap (λ xs. xs ++ c.args.id ∷ []) c.in_ok-reserve.ensures.items

off : (c : goal.In_ok-push) → contains nat_cmp c.self.inside.seen c.args.id ≡ false
off c = not_true _ (sym c.in_ok-insert.ensures.added ∙ c.if-branch.true)

pub invariant_of-self-in-Continue-branch-3 : goal.invariant_of-self-in-Continue-branch-3
invariant_of-self-in-Continue-branch-3 c = listing_more _ _ c.self.inside.seen c.insert.new.self c.args.id c.self.invariant (pushed c) (off c) c.in_ok-insert.ensures.updates.0

pub returns-in_ok-push-clause-adds : goal.returns-in_ok-push-clause-adds
returns-in_ok-push-clause-adds c = subst (λ xs. Adds xs c.push.new.self.items (λ u. nat_eq u c.args.id)) c.self.view_is (listing_adds _ _ c.self.inside.seen c.args.id c.self.invariant (pushed c) (off c))
