-- What is answered of a node.
use Rattle.std.proofs.Common.{ℕ, ◌≡◌, true, false, List, refl, sym, ◌∙◌, ap, subst, ⊎_elim}
use Rattle.std.specs.Prelude.{◌↔◌, Option, Some, None, Contains, is_some}
use Rattle.std.specs.List.{slice_get}
use Rattle.std.specs.Option.{option_map}
use Rattle.std.proofs.lemmas.Option.{none-some, same_Some}
use Rattle.names.specs.declared.object.Object.{Object}
use Rattle.names.specs.declared.node.Node.{Node}
use Rattle.meaning.specs.Snap.{Snap}
use Rattle.meaning.specs.Membership.{IsMember}
use Rattle.least_sets.specs.World.{has}
use Rattle.region.specs.declared.sets.Row.{Row}
use Rattle.region.specs.Tables.{row_of, kept, holds, members_or_none}
use Rattle.facts.specs.Numbers.{user_at}
use Rattle.facts.specs.inside.Tables.{node_is, user_is}
use Rattle.hot.specs.Kept.{IsHot, IsUnderMark}
use Rattle.hot.specs.inside.Named.{AreNamed}
use Rattle.hot.specs.declared.hot.Hot.{Hot}
use Rattle.hot.proofs.Memberships.{find_user, member_of, stranger}
use Rattle.hot.proofs.Walks.{kept_led, led_kept}

-- the row of a node whose members are these
pub row_there : (r : Option Row) (ids : List ℕ) → Some ids ≡ option_map (λ (row : Row). row.members) r → (is_some r ≡ true) × (members_or_none r ≡ ids)
row_there None ids e = absurd (none-some ids (sym e))
row_there (Some row) ids e = (refl, sym (same_Some ids row.members e))

pub row_gone : (r : Option Row) → None ≡ option_map (λ (row : Row). row.members) r → is_some r ≡ false
row_gone None e = refl
row_gone (Some row) e = absurd (none-some row.members e)

module _ (hot : Hot) (S : Snap) (is : IsHot hot S) where
  -- a node with a number is kept where it is under a mark
  pub kept_exactly : (id : ℕ) (n : Node) → slice_get hot.numbers.nodes id ≡ Some n → (kept hot.sets.rows id ≡ true) ↔ IsUnderMark hot S n
  kept_exactly id n at = (
    λ h. kept_led S hot.numbers.nodes hot.numbers.users hot.marks hot.sets.rows is.valid is.all.kept n id at h,
    λ u. (let found = led_kept S hot.numbers.nodes hot.numbers.users hot.marks hot.sets.rows is.valid is.all.kept u.0 n u.1.0 u.1.1 u.1.2 u.2 in
        subst (λ i. kept hot.sets.rows i ≡ true) (is.distinct found.0 id n found.1 at) found.2),
  )

  -- one without a number is under none
  pub none_under : (n : Node) → ((id : ℕ) → slice_get hot.numbers.nodes id ≡ Some n → ⊥) → IsUnderMark hot S n → ⊥
  none_under n missing u = let found = led_kept S hot.numbers.nodes hot.numbers.users hot.marks hot.sets.rows is.valid is.all.kept u.0 n u.1.0 u.1.1 u.1.2 u.2 in missing found.0 found.1

  pub member_at : (id number : ℕ) (n : Node) (u : Object) → slice_get hot.numbers.nodes id ≡ Some n → slice_get hot.numbers.users number ≡ Some u → kept hot.sets.rows id ≡ true
      → holds hot.sets.rows number id ≡ true ↔ IsMember S u n
  member_at id number n u at_node at_user h =
      let both = member_of S hot.numbers.nodes hot.numbers.users hot.marks hot.sets.rows is.valid is.all.kept id number h in
      let node = node_is hot.numbers.nodes id n at_node in
      let user = user_is hot.numbers.users number u at_user in (
        λ q. subst (λ x. IsMember S x n) user (subst (λ x. IsMember S (user_at hot.numbers.users number) x) node (both.0 q)),
        λ q. both.1 (subst (λ x. IsMember S (user_at hot.numbers.users number) x) (sym node) (subst (λ x. IsMember S x n) (sym user) q)),
      )

  pub stranger_at : (id : ℕ) (n : Node) (u : Object) → slice_get hot.numbers.nodes id ≡ Some n → ((j : ℕ) → slice_get hot.numbers.users j ≡ Some u → ⊥) → kept hot.sets.rows id ≡ true → IsMember S u n → ⊥
  stranger_at id n u at absent h q =
      stranger S hot.numbers.nodes hot.numbers.users hot.marks hot.sets.rows is.valid is.all.kept u absent id h (subst (λ x. IsMember S u x) (sym (node_is hot.numbers.nodes id n at)) q)

  -- the users with the numbers that are kept are the members
  pub members_are : (id : ℕ) (n : Node) (ids : List ℕ) (found : List Object) → slice_get hot.numbers.nodes id ≡ Some n → Some ids ≡ option_map (λ (row : Row). row.members) (row_of hot.sets.rows id)
      → AreNamed hot.numbers.users ids found → (u : Object) → Contains found u ↔ IsMember S u n
  members_are id n ids found at e named u =
      let row = row_there (row_of hot.sets.rows id) ids e in (
        λ c. (let s = (named.exactly u).0 c in (member_at id s.0 n u at s.2 row.0).0 (ap (λ xs. has xs s.0) row.1 ∙ s.1)),
        λ m. ⊎_elim
            (λ s. (named.exactly u).1 (s.0, ap (λ xs. has xs s.0) (sym row.1) ∙ (member_at id s.0 n u at s.1 row.0).1 m, s.1))
            (λ absent. absurd (stranger_at id n u at absent row.0 m))
            (find_user hot.numbers.users u),
      )
