-- Who is kept of a node is who is a member of it.
use Rattle.std.proofs.Common.{ℕ, zero, suc, ◌≡◌, Bool, true, false, cond, not, nat_eq, List, [], ◌∷◌, length, refl, sym, ◌∙◌, ap, subst, arith, ⊎_elim, ◌⊎◌, inl, inr}
use Rattle.std.specs.Prelude.{◌↔◌, Some}
use Rattle.std.specs.List.{slice_get, list_any}
use Rattle.std.specs.Cmp.{eq_by_cmp_equiv}
use Rattle.std.specs.Ordering.{eq_by_cmp}
use Rattle.std.proofs.lemmas.Bool.{or_cases, and_parts, cases_Bool, true≢false, false≢true, eqb-true, eq-eqb}
use Rattle.std.proofs.lemmas.Option.{none-some, same_Some}
use Rattle.std.proofs.lemmas.Map.Views.{tells_apart}
use Rattle.names.specs.Order.{object_cmp}
use Rattle.names.specs.declared.object.Object.{Object}
use Rattle.names.specs.declared.node.Node.{Node}
use Rattle.meaning.specs.Snap.{Snap}
use Rattle.meaning.specs.Membership.{HasOne, IsMember}
use Rattle.meaning.specs.Reads.{IsValid}
use Rattle.meaning.proofs.TupleSets.{objects_total, exact_objects}
use Rattle.least_sets.specs.World.{Shape, Own, AnyOf, Reads, Either, Both, Except, has, gives, arcs_of}
use Rattle.least_sets.specs.Least.{Derived, outside, follows}
use Rattle.least_sets.proofs.Gives.{plain_named}
use Rattle.region.specs.Tables.{Rows, kept, holds}
use Rattle.graphs.specs.Graph.{IsGraphOf}
use Rattle.graphs.proofs.Memberships.{membership}
use Rattle.facts.specs.Numbers.{user_at, node_at}
use Rattle.facts.specs.inside.Tables.{past_none}
use Rattle.facts.specs.inside.Shapes.{shape_same}
use Rattle.hot.specs.Kept.{AreKept}

none_of : (from : ℕ → Bool) (xs : List ℕ) → ((m : ℕ) → from m ≡ true → ⊥) → list_any from xs ≡ true → ⊥
none_of from [] f h = absurd (false≢true h)
none_of from (x ∷ xs) f h = ⊎_elim (λ q. f x q) (λ q. none_of from xs f q) (or_cases (from x) (list_any from xs) h)

-- a rule gives nobody who is not held by itself, where no node holds the user
gives_none : (own : Bool) (from low : ℕ → Bool) (shape : Shape) → own ≡ false → ((m : ℕ) → from m ≡ true → ⊥) → gives own from low shape ≡ true → ⊥
gives_none own from low Own e f h = absurd (false≢true (sym e ∙ h))
gives_none own from low (AnyOf nodes) e f h = none_of from nodes f h
gives_none own from low (Reads nodes) e f h = absurd (false≢true h)
gives_none own from low (Either a b) e f h =
    ⊎_elim (λ q. gives_none own from low a e f q) (λ q. gives_none own from low b e f q) (or_cases (gives own from low a) (gives own from low b) h)
gives_none own from low (Both a b) e f h = gives_none own from low a e f (and_parts (gives own from low a) (gives own from low b) h).0
gives_none own from low (Except a b) e f h = gives_none own from low a e f (and_parts (gives own from low a) (not (gives own low low b)) h).0

-- the user has a number or none
pub find_user : (users : List Object) (u : Object) → ((j : ℕ) × (slice_get users j ≡ Some u)) ⊎ ((j : ℕ) → slice_get users j ≡ Some u → ⊥)
find_user [] u = inr (λ j h. none-some u h)
find_user (o ∷ os) u = ⊎_elim
    (λ e. inl (zero, ap (λ x. Some x) (tells_apart exact_objects o u e)))
    (λ e. ⊎_elim (λ q. inl (suc q.0, q.1)) (λ q. inr (other e q)) (find_user os u))
    (cases_Bool (eq_by_cmp object_cmp o u))
  where
    other : eq_by_cmp object_cmp o u ≡ false → ((j : ℕ) → slice_get os j ≡ Some u → ⊥) → (j : ℕ) → slice_get (o ∷ os) j ≡ Some u → ⊥
    other e f zero h = absurd (true≢false (sym (subst (λ x. eq_by_cmp object_cmp o x ≡ true) (same_Some o u h) ((eq_by_cmp_equiv objects_total).refl o)) ∙ e))
    other e f (suc j) h = f j h

module _ (S : Snap) (nodes : List Node) (users : List Object) (marks : List ℕ) (rows : Rows) (valid : IsValid S) (k : AreKept S nodes users marks rows) where
  graph : IsGraphOf S (user_at users) (node_at nodes) (kept rows) k.world
  graph n h = (k.told n h).fact_is

  pub closed : (n m : ℕ) → kept rows n ≡ true → has (arcs_of (k.world n).shape) m ≡ true → kept rows m ≡ true
  closed n m h arc = k.held.closed n m h (k.held.arcs n m h ∙ arc)

  pub member_of : (n user : ℕ) → kept rows n ≡ true → holds rows user n ≡ true ↔ IsMember S (user_at users user) (node_at nodes n)
  member_of n user h = membership S (user_at users) (node_at nodes) (kept rows) k.world user (holds rows user) valid graph k.levelled closed (k.held.least user) n h

  no_own : (n : ℕ) → kept rows n ≡ true → has (k.world n).own (length users) ≡ false
  no_own n h = ⊎_elim
      (λ q. let may = k.told n h in
      let s = may.seen (user_at users (length users)) ((may.own (length users)).0 q) in
      absurd (past_none users (length users) s.0 (omega arith) s.1))
      (λ q. q)
      (cases_Bool (has (k.world n).own (length users)))

  -- a number that no user has is held by no node
  nobody_derived : (n : ℕ) → kept rows n ≡ true → Derived k.world (kept rows) (length users) (holds rows (length users)) n → ⊥
  nobody_derived n h (outside off s) = absurd (false≢true (sym off ∙ h))
  nobody_derived n h (follows p from names froms g) = gives_none (has (k.world n).own (length users)) from (holds rows (length users)) (k.world n).shape (no_own n h)
      (λ m q. nobody_derived m (closed n m h (plain_named (k.world n).shape m (names m q))) (froms m q)) g

  module _ (u : Object) (absent : (j : ℕ) → slice_get users j ≡ Some u → ⊥) where
    others : ℕ → Object
    others i = cond (nat_eq i (length users)) u (user_at users i)

    others_there : others (length users) ≡ u
    unfolding others
    others_there = ap (λ b. cond b u (user_at users (length users))) (eq-eqb (length users) (length users) refl)

    others_elsewhere : (i : ℕ) → nat_eq i (length users) ≡ false → others i ≡ user_at users i
    unfolding others
    others_elsewhere i e = ap (λ b. cond b u (user_at users i)) e

    ones : (n i : ℕ) → kept rows n ≡ true → (has (k.world n).own i ≡ true ↔ HasOne S (node_at nodes n) (user_at users i)) → has (k.world n).own i ≡ true ↔ HasOne S (node_at nodes n) (others i)
    ones n i h both = ⊎_elim
        (λ e. (
          λ q. absurd (false≢true (sym (no_own n h) ∙ subst (λ x. has (k.world n).own x ≡ true) (eqb-true i (length users) e) q)),
          λ q. (let s = (k.told n h).seen u (subst (λ x. HasOne S (node_at nodes n) x) (ap others (eqb-true i (length users) e) ∙ others_there) q) in absurd (absent s.0 s.1)),
        ))
        (λ e. (
          λ q. subst (λ x. HasOne S (node_at nodes n) x) (sym (others_elsewhere i e)) (both.0 q),
          λ q. both.1 (subst (λ x. HasOne S (node_at nodes n) x) (others_elsewhere i e) q),
        ))
        (cases_Bool (nat_eq i (length users)))

    graph_other : IsGraphOf S others (node_at nodes) (kept rows) k.world
    graph_other n h = ⊎_elim
        (λ d. inl (
          d.0,
          d.1,
          d.2,
          shape_same S S (node_at nodes) (node_at nodes) (user_at users) others (node_at nodes n) (k.world n).own (k.world n).own refl (λ i both. ones n i h both)
              (λ m. (λ q. q, λ q. q)) d.0.form (k.world n).shape (λ m q. refl) (λ m q t e p. (λ o. o, λ o. o)) d.3,
        ))
        (λ d. inr d)
        (graph n h)

    -- who has no number is no member
    pub stranger : (n : ℕ) → kept rows n ≡ true → IsMember S u (node_at nodes n) → ⊥
    stranger n h member =
        let held = (membership S others (node_at nodes) (kept rows) k.world (length users) (holds rows (length users)) valid graph_other k.levelled closed (k.held.least (length users)) n h).1
        (subst (λ x. IsMember S x (node_at nodes n)) (sym others_there) member) in
        nobody_derived n h ((k.held.least (length users)).derived n h held)
