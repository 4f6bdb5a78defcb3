use Rattle.std.proofs.Common.{◌≡◌, sym, ap, subst, ◌∙◌}
use Rattle.std.specs.Prelude.{false, nat_eq, ◌||◌}
use Rattle.std.specs.List.{insert}
use Rattle.std.specs.List.Sorted.{IsStrictlyIncreasing}
use Rattle.idsets.specs.Sets.{has}
use Rattle.idsets.proofs.Placing.{rising_insert, has-insert}
use Rattle.idsets.proofs.set.IdSet.insert.Goals as goal

-- the ids that were, in the form that the search was given
was : (c : goal.In_ok-insert) → c.self.inside.ids.items ≡ c.as_slice-ids.result.now
was c = sym c.as_slice-ids.ensures.value

put : (c : goal.In_ok-insert) → c.insert.new.self.items ≡ insert c.as_slice-ids.result.now c.place_of-at.result c.args.id
put c = c.in_ok-insert.ensures.items ∙ ap (λ l. insert l c.place_of-at.result c.args.id) (was c)

absent : (c : goal.In_ok-insert) → has c.as_slice-ids.result.now c.args.id ≡ false
absent c = sym c.is_at.ensures.is ∙ c.if-is_at.false

rises : (c : goal.In_ok-insert) → IsStrictlyIncreasing c.insert.new.self.items
rises c = subst IsStrictlyIncreasing (sym (put c)) (rising_insert _ _ _ (subst IsStrictlyIncreasing (was c) c.self.invariant) c.place_of-at.ensures (absent c))

pub invariant_of-self-2 : goal.invariant_of-self-2
invariant_of-self-2 c = rises c

pub returns-clause-members : goal.returns-clause-members
returns-clause-members c = λ other.
    ap (λ l. has l other) (put c)
    ∙ has-insert _ _ _ (subst IsStrictlyIncreasing (was c) c.self.invariant) c.place_of-at.ensures (absent c) other
    ∙ ap (λ l. nat_eq other c.args.id || has l other) (sym (was c) ∙ c.self.view_is)

pub returns-clause-ascending : goal.returns-clause-ascending
returns-clause-ascending c = rises c
