-- The direct groups of each user, as they are gathered.
use Rattle.std.proofs.Common.{◌≡◌, ℕ, zero, suc, ◌<◌, ◌≤◌, List, [], ◌∷◌, map, length, get_or, Bool, true, false, refl, ap, ap₂, sym, subst, ◌∙◌, inl, inr, ⊎_elim, arith}
use Rattle.std.specs.Prelude.{◌↔◌, ◌⊎◌, ◌&&◌, ◌||◌, not, Option, Some, None, Any, Contains, is_some, nat_eq, slice_index_or, slice_set}
use Rattle.std.specs.List.{slice_get}
use Rattle.std.specs.List.Sorted.{IsStrictlyIncreasing}
use Rattle.std.proofs.lemmas.Bool.{and_parts, false≢true, cases_lt, eqb-true, eq-eqb, or_cases}
use Rattle.std.proofs.lemmas.List.{get_or-set_same, get_or-set_other}
use Rattle.std.proofs.lemmas.Option.{same_Some}
use Rattle.names.specs.declared.object.Object.{Object}
use Rattle.names.specs.declared.node.Node.{Node}
use Rattle.names.specs.declared.subject.Subject.{Subject}
use Rattle.names.specs.declared.tuple.Tuple.{Tuple}
use Rattle.meaning.specs.TupleSet as set
use Rattle.meaning.specs.Config.{Configured, rel_of}
use Rattle.meaning.specs.Snap.{Snap, one}
use Rattle.config.specs.Valid.{is_indexed}
use Rattle.idsets.specs.Naming.{AreDistinct}
use Rattle.idsets.specs.Sets.{has}
use Rattle.leopard.specs.Groups.{MemberToGroup}
use Rattle.leopard.specs.Build.{AreSetsOf}
use Rattle.leopard.specs.inside.Building.{HasId, Tells, NamesOne, AreAscending}
use Rattle.leopard.proofs.Gather.{any_contains}

-- a group more in the user's set
pub put_id : (users : List Object) (sets sets2 : List (List ℕ)) (at : ℕ) (user : Object) (group : ℕ) (new : List ℕ) → slice_get users at ≡ Some user → at < length sets → sets2 ≡ slice_set sets at new
    → ((other : ℕ) → has new other ≡ (nat_eq other group || has (slice_index_or sets at []) other))
    → (u : Object) (id : ℕ) → HasId users sets2 u id ↔ (HasId users sets u id ⊎ ((u ≡ user) × (id ≡ group)))
put_id users sets sets2 at user group new there lt is put u id = (
  λ (k, here, h). by_place k here (subst (λ ss. has (get_or ss k []) id ≡ true) is h) (cases_lt k at) (cases_lt at k),
  λ h. ⊎_elim
      (λ (k, here, h2). (k, here, subst (λ ss. has (get_or ss k []) id ≡ true) (sym is) (stays k h2 (cases_lt k at) (cases_lt at k))))
      (λ (e, f). (
        at,
        there ∙ ap (λ x. Some x) (sym e),
        subst (λ ss. has (get_or ss at []) id ≡ true) (sym is) (subst (λ s. has s id ≡ true) (sym (get_or-set_same sets at new [] lt)) (put id ∙ ap (λ b. b || has (get_or sets at []) id) (eq-eqb id group f))),
      ))
      h,
)
  where
    other_place : (k : ℕ) → (k ≡ at → ⊥) → get_or (slice_set sets at new) k [] ≡ get_or sets k []
    other_place k apart = get_or-set_other sets at k new [] apart

    at_place : has (get_or (slice_set sets at new) at []) id ≡ true → (has (get_or sets at []) id ≡ true) ⊎ (id ≡ group)
    at_place h = ⊎_elim (λ e. inr (eqb-true id group e)) inl
        (or_cases (nat_eq id group) (has (get_or sets at []) id) (sym (put id) ∙ subst (λ s. has s id ≡ true) (get_or-set_same sets at new [] lt) h))

    by_place : (k : ℕ) → slice_get users k ≡ Some u → has (get_or (slice_set sets at new) k []) id ≡ true → (k < at) ⊎ (at ≤ k) → (at < k) ⊎ (k ≤ at) → HasId users sets u id ⊎ ((u ≡ user) × (id ≡ group))
    by_place k here h (inl l) q = inl (k, here, subst (λ s. has s id ≡ true) (other_place k (λ e. absurd (omega (arith, l, e)))) h)
    by_place k here h (inr l) (inl m) = inl (k, here, subst (λ s. has s id ≡ true) (other_place k (λ e. absurd (omega (arith, m, e)))) h)
    by_place k here h (inr l) (inr m) =
        let e : k ≡ at = omega (arith, l, m) in
        ⊎_elim
        (λ old. inl (at, subst (λ j. slice_get users j ≡ Some u) e here, old))
        (λ f. inr (same_Some u user (sym here ∙ ap (slice_get users) e ∙ there), f))
        (at_place (subst (λ j. has (get_or (slice_set sets at new) j []) id ≡ true) e h))

    kept_here : has (get_or sets at []) id ≡ true → has (get_or (slice_set sets at new) at []) id ≡ true
    kept_here h = subst (λ s. has s id ≡ true) (sym (get_or-set_same sets at new [] lt)) (put id ∙ either (nat_eq id group) h)
      where
        either : (b : Bool) → has (get_or sets at []) id ≡ true → (b || has (get_or sets at []) id) ≡ true
        either true e = refl
        either false e = e

    stays : (k : ℕ) → has (get_or sets k []) id ≡ true → (k < at) ⊎ (at ≤ k) → (at < k) ⊎ (k ≤ at) → has (get_or (slice_set sets at new) k []) id ≡ true
    stays k h (inl l) q = subst (λ s. has s id ≡ true) (sym (other_place k (λ e. absurd (omega (arith, l, e))))) h
    stays k h (inr l) (inl m) = subst (λ s. has s id ≡ true) (sym (other_place k (λ e. absurd (omega (arith, m, e))))) h
    stays k h (inr l) (inr m) =
        let e : k ≡ at = omega (arith, l, m) in
        subst (λ j. has (get_or (slice_set sets at new) j []) id ≡ true) (sym e) (kept_here (subst (λ j. has (get_or sets j []) id ≡ true) e h))

none_of : {A : Type 0} (o : Option A) → is_some o ≡ false → o ≡ None
none_of None e = refl
none_of (Some x) e = absurd (false≢true (sym e))

module _ (config : Configured) (names : List Node) (t : Tuple) (u : Object) (id : ℕ) where
  -- the tuple names a user, of a group that has an id
  pub tells_one : AreDistinct names → is_some t.subject.relation ≡ false → is_indexed config (rel_of t.node) ≡ true → (group : ℕ) → slice_get names group ≡ Some t.node
      → (user : Object) → user ≡ t.subject.object → ((u ≡ user) × (id ≡ group)) ↔ Tells config names u id t
  tells_one distinct single indexed group at user is_user = (
    λ (e, f). (indexed, ap₂ (λ (o : Object) (r : Option (List ℕ)). record { object = o; relation = r }) (sym is_user ∙ sym e) (none_of t.subject.relation single), subst (λ k. slice_get names k ≡ Some t.node) (sym f) at),
    λ (i, is, there). (sym (is_user ∙ ap (λ (s : Subject). s.object) is), distinct id group t.node there at),
  )

  pub tells_no_set : is_some t.subject.relation ≡ true → Tells config names u id t → ⊥
  tells_no_set some (i, is, there) = false≢true (sym (ap (λ (s : Subject). is_some s.relation) is) ∙ some)

  pub tells_no_other : is_indexed config (rel_of t.node) ≡ false → Tells config names u id t → ⊥
  tells_no_other unlike (i, is, there) = false≢true (sym unlike ∙ i)

  pub tells_unnumbered : ((k : ℕ) → slice_get names k ≡ Some t.node → ⊥) → Tells config names u id t → ⊥
  tells_unnumbered missing (i, is, there) = missing id there

-- ---- sets that have nothing yet, and sets in order

pub no_id : (users : List Object) (sets : List (List ℕ)) (u : Object) (id : ℕ) → ((at : ℕ) → slice_index_or sets at [] ≡ []) → HasId users sets u id → ⊥
no_id users sets u id empty (at, there, h) = false≢true (subst (λ s. has s id ≡ true) (empty at) h)

pub each_empty : (users : List Object) (sets : List (List ℕ)) → sets ≡ map (λ _. []) users → (at : ℕ) → slice_index_or sets at [] ≡ []
each_empty users sets is at = ap (λ ss. get_or ss at []) is ∙ none users at
  where
    none : (us : List Object) (k : ℕ) → get_or {A = List ℕ} (map (λ _. []) us) k [] ≡ []
    none [] k = refl
    none (u ∷ us) zero = refl
    none (u ∷ us) (suc k) = none us k

pub none_ascends : IsStrictlyIncreasing []
none_ascends k lt = absurd (omega (arith, lt))

pub put_ascends : (sets sets2 : List (List ℕ)) (at : ℕ) (set : List ℕ) → AreAscending sets → at < length sets → sets2 ≡ slice_set sets at set → IsStrictlyIncreasing set → AreAscending sets2
put_ascends sets sets2 at set all lt is more k = subst (λ ss. IsStrictlyIncreasing (get_or ss k [])) (sym is) (which (cases_lt k at) (cases_lt at k))
  where
    which : (k < at) ⊎ (at ≤ k) → (at < k) ⊎ (k ≤ at) → IsStrictlyIncreasing (get_or (slice_set sets at set) k [])
    which (inl l) q = subst IsStrictlyIncreasing (sym (get_or-set_other sets at k set [] (λ e. absurd (omega (arith, l, e))))) (all k)
    which (inr l) (inl m) = subst IsStrictlyIncreasing (sym (get_or-set_other sets at k set [] (λ e. absurd (omega (arith, m, e))))) (all k)
    which (inr l) (inr m) =
        let e : at ≡ k = omega (arith, l, m) in
        subst (λ j. IsStrictlyIncreasing (get_or (slice_set sets at set) j [])) e (subst IsStrictlyIncreasing (sym (get_or-set_same sets at set [] lt)) more)

-- ---- whom a tuple names

-- a tuple of a group names a user where its subject has no relation
pub user_test : (indexed single related : Bool) → indexed ≡ true → related ≡ not single → single ≡ (indexed && not related)
user_test indexed single related e f = sym (ap₂ (λ a b. a && not b) e f ∙ back single)
  where
    back : (b : Bool) → (true && not (not b)) ≡ b
    back true = refl
    back false = refl

not_is : (b : Bool) → not b ≡ true → b ≡ false
not_is true e = sym e
not_is false e = refl

module _ (config : Configured) (t : Tuple) (answer : Bool) (is : answer ≡ (is_indexed config (rel_of t.node) && not (is_some t.subject.relation))) where
  pub names_one : answer ≡ true → (is_indexed config (rel_of t.node) ≡ true) × (is_some t.subject.relation ≡ false)
  names_one e =
      let parts = and_parts (is_indexed config (rel_of t.node)) (not (is_some t.subject.relation)) (sym is ∙ e) in
      (parts.0, not_is (is_some t.subject.relation) parts.1)

  pub names_nobody : answer ≡ false → (u : Object) → NamesOne config u t → ⊥
  names_nobody e u (group, subject) = false≢true (sym e ∙ is ∙ ap₂ (λ a b. a && b) group (ap (λ (s : Subject). not (is_some s.relation)) subject))

  -- the user that it names, if it does
  pub names_this : answer ≡ true → (u : Object) → NamesOne config u t ↔ (u ≡ t.subject.object)
  names_this e u =
      let (group, single) = names_one e in (
        λ (g, subject). sym (ap (λ (s : Subject). s.object) subject),
        λ same. (group, ap₂ (λ (o : Object) (r : Option (List ℕ)). record { object = o; relation = r }) (sym same) (none_of t.subject.relation single)),
      )

-- ---- what a build has of users

module _ (S : Snap) (groups : List Node) (users : List Object) (named : (u : Object) → Contains users u ↔ Any (NamesOne S.config u) (set.items S.tuples)) where
  pub users_named : (u : Object) → Contains users u ↔ ((n : Node) × MemberToGroup S u n)
  users_named u = (
    λ c.
        let (k, t, lt, e, (group, subject)) = (named u).0 c in
        (t.node, (group, subst (Contains (set.items S.tuples)) (ap (λ (s : Subject). record { node = t.node; subject = s }) subject) (k, lt, e))),
    λ (n, (group, h)). (named u).1 (any_contains (NamesOne S.config u) (set.items S.tuples) (record { node = n; subject = one u }) h (group, refl)),
  )

  pub direct_sets : (sets : List (List ℕ)) → AreDistinct users → length sets ≡ length users → AreAscending sets
      → ((u : Object) (id : ℕ) → HasId users sets u id ↔ Any (Tells S.config groups u id) (set.items S.tuples)) → AreSetsOf groups (MemberToGroup S) users sets
  direct_sets sets distinct even ascending told = record {
    even = even;
    each = λ at u there. record {
      ascending = ascending at;
      ids = λ id. (
        λ h.
            let (k, t, lt, e, (group, subject, at_id)) = (told u id).0 (at, there, h) in
            (t.node, at_id, (group, subst (Contains (set.items S.tuples)) (ap (λ (s : Subject). record { node = t.node; subject = s }) subject) (k, lt, e))),
        λ (n, is, (group, h)).
            let (k, there2, in_set) = (told u id).1 (any_contains (Tells S.config groups u id) (set.items S.tuples) (record { node = n; subject = one u }) h (group, refl, is)) in
            subst (λ j. has (slice_index_or sets j []) id ≡ true) (distinct k at u there2 there) in_set,
      );
    };
  }
