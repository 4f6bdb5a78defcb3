-- Users and groups that have numbers, where more of them get one.
use Rattle.std.proofs.Common.{ℕ, zero, suc, ◌≡◌, ◌<◌, ◌≤◌, ◌+◌, ◌||◌, Bool, true, false, cond, nat_eq, List, [], ◌∷◌, ◌++◌, length, get_or, refl, sym, ◌∙◌, ap, subst, arith, length-append, ⊎_elim, ◌⊎◌, inl, inr}
use Rattle.std.specs.Prelude.{◌↔◌, Contains, Result, Ok, Err, IfOk, OnErr, Option, Some, None, is_some, nat_lt, slice_set, if◌then◌else◌}
use Rattle.std.specs.List.{slice_get}
use Rattle.std.proofs.lemmas.Bool.{cases_Bool, or_cases, or_left, or_right, false≢true, eqb-true, eq-eqb}
use Rattle.std.proofs.lemmas.List.{get_or-set_same, get_or-set_other}
use Rattle.std.proofs.lemmas.Option.{same_Some, slice_get_within, slice_get-get_or}
use Rattle.std.proofs.lemmas.List.Elements.{Contains-append_left, Contains-push, Contains-push_cases}
use Rattle.names.specs.declared.object.Object.{Object}
use Rattle.names.specs.declared.node.Node.{Node}
use Rattle.names.specs.declared.subject.Subject.{Subject}
use Rattle.names.specs.declared.tuple.Tuple.{Tuple}
use Rattle.meaning.specs.Config.{Configured, rel_of}
use Rattle.meaning.specs.Snap.{one}
use Rattle.meaning.proofs.Lists.{contains_none}
use Rattle.config.specs.Valid.{is_indexed}
use Rattle.idsets.specs.Sets.{has}
use Rattle.facts.specs.Numbers.{Grew}
use Rattle.facts.specs.inside.Tables.{grew_none, grew_both, grew_get, grew_longer}
use Rattle.leopard.specs.Groups.{IsGroup}
use Rattle.direct.specs.Named.{IsDirect, Names, AreWithin}
use Rattle.direct.specs.Before.{set_in}
use Rattle.direct.specs.inside.Keeping.{IsMore, HasNumbers, AreKept, tuple_of}
use Rattle.direct.specs.declared.memberships.Memberships.{Memberships}
use Rattle.direct.specs.declared.memberships.Membership.{Membership}

-- a number that was there has the name that it had
pub got_before : {N : Type 0} (a b : List N) (i : ℕ) (n : N) → Grew a b → i < length a → slice_get b i ≡ Some n → slice_get a i ≡ Some n
got_before a b i n grew lt at =
    let there = slice_get-get_or a i n lt in
    there ∙ ap (λ x. Some x) (same_Some _ n (sym (grew_get a b i _ grew there) ∙ at))

module _ (users users' : List Object) (groups groups' : List Node) (f f' : ℕ → List ℕ) (more : Grew users users') (others : Grew groups groups') (same : (user : ℕ) → f' user ≡ f user) where
  pub names_before : AreWithin users groups f → (u : Object) (n : Node) → Names users' groups' f' u n → Names users groups f u n
  names_before within u n h =
      let had : has (f h.user) h.group ≡ true = subst (λ s. has s h.group ≡ true) (same h.user) h.there in
      let lt = within h.user h.group had in
      record {
        user = h.user;
        group = h.group;
        user_is = got_before users users' h.user u more lt.0 h.user_is;
        group_is = got_before groups groups' h.group n others lt.1 h.group_is;
        there = had;
      }

  pub names_after : (u : Object) (n : Node) → Names users groups f u n → Names users' groups' f' u n
  names_after u n h = record {
    user = h.user;
    group = h.group;
    user_is = grew_get users users' h.user u more h.user_is;
    group_is = grew_get groups groups' h.group n others h.group_is;
    there = subst (λ s. has s h.group ≡ true) (sym (same h.user)) h.there;
  }

  pub within_after : AreWithin users groups f → AreWithin users' groups' f'
  within_after within user group h =
      let lt = within user group (subst (λ s. has s group ≡ true) (same user) h) in
      let a = grew_longer users users' more in
      let b = grew_longer groups groups' others in
      let x = lt.0 in
      let y = lt.1 in
      (omega (arith, a, x), omega (arith, b, y))

-- ---- a name is seen

pub see_longer : {N E : Type 0} (old new : List N) (n : N) (r : Result ℕ E) → IfOk r (λ id. new ≡ (if nat_lt id (length old) then old else old ++ n ∷ [])) → OnErr r (new ≡ old) → length new ≤ length old + 1
see_longer old new n (Ok id) ok err = ⊎_elim
    (λ h. let is : length new ≡ length old = ap length (ok ∙ ap (λ b. if b then old else old ++ n ∷ []) h) in omega (arith, is))
    (λ h. let is : length new ≡ length (old ++ n ∷ []) = ap length (ok ∙ ap (λ b. if b then old else old ++ n ∷ []) h) in omega (arith, is, length-append old (n ∷ [])))
    (cases_Bool (nat_lt id (length old)))
see_longer old new n (Err e) ok err = let is : length new ≡ length old = ap length err in omega (arith, is)

-- a set with nothing more is as none
pub set_push : (sets : List (List ℕ)) (user : ℕ) → set_in (sets ++ [] ∷ []) user ≡ set_in sets user
set_push [] zero = refl
set_push [] (suc user) = refl
set_push (s ∷ sets) zero = refl
set_push (s ∷ sets) (suc user) = set_push sets user

-- ---- one set is replaced

pub set_put : (sets : List (List ℕ)) (at : ℕ) (new : List ℕ) → at < length sets → (other : ℕ) → set_in (slice_set sets at new) other ≡ cond (nat_eq other at) new (set_in sets other)
set_put sets at new lt other = ⊎_elim
    (λ t. ap (λ k. get_or (slice_set sets at new) k []) (eqb-true other at t) ∙ get_or-set_same sets at new [] lt ∙ sym (ap (λ b. cond b new (get_or sets other [])) t))
    (λ f. get_or-set_other sets at other new [] (λ e. false≢true (sym f ∙ eq-eqb other at e)) ∙ sym (ap (λ b. cond b new (get_or sets other [])) f))
    (cases_Bool (nat_eq other at))

-- an id more in the set at a place
pub has_put : (sets : List (List ℕ)) (at id : ℕ) (new : List ℕ) → at < length sets → ((other : ℕ) → has new other ≡ (nat_eq other id || has (set_in sets at) other)) → (x y : ℕ)
    → (has (set_in (slice_set sets at new) x) y ≡ true) ↔ ((has (set_in sets x) y ≡ true) ⊎ ((x ≡ at) × (y ≡ id)))
has_put sets at id new lt puts x y = ⊎_elim
    (λ t.
    let e = eqb-true x at t in
    let is : has (set_in (slice_set sets at new) x) y ≡ (nat_eq y id || has (set_in sets x) y) =
    ap (λ s. has s y) (set_put sets at new lt x ∙ ap (λ b. cond b new (set_in sets x)) t) ∙ puts y ∙ ap (λ k. nat_eq y id || has (set_in sets k) y) (sym e) in (
      λ h. ⊎_elim (λ q. inr (e, eqb-true y id q)) (λ q. inl q) (or_cases (nat_eq y id) (has (set_in sets x) y) (sym is ∙ h)),
      λ h. is ∙ ⊎_elim (λ q. or_right (nat_eq y id) (has (set_in sets x) y) q) (λ q. or_left (nat_eq y id) (has (set_in sets x) y) (eq-eqb y id q.1)) h,
    ))
    (λ f.
    let is : has (set_in (slice_set sets at new) x) y ≡ has (set_in sets x) y = ap (λ s. has s y) (set_put sets at new lt x ∙ ap (λ b. cond b new (set_in sets x)) f) in (
      λ h. inl (sym is ∙ h),
      λ h. is ∙ ⊎_elim (λ q. q) (λ q. absurd (false≢true (sym f ∙ eq-eqb x at q.0))) h,
    ))
    (cases_Bool (nat_eq x at))

-- ---- what tuples tell

pub tuple_is : (config : Configured) (t : Tuple) → IsDirect config t → t ≡ tuple_of t.subject.object t.node
tuple_is config t direct = ap (λ (s : Subject). record { node = t.node; subject = s }) direct.1

pub direct_is : (config : Configured) (t : Tuple) (u : Object) (n : Node) → t ≡ tuple_of u n → IsGroup config n → IsDirect config t
direct_is config t u n is group = subst (λ (x : Tuple). IsDirect config x) (sym is) (group, refl)

-- the numbers of a tuple are those of its user and its group
pub numbered : (kept : Memberships) (t : Tuple) (m : Membership) (u : Object) (n : Node) → HasNumbers kept t m → slice_get kept.users m.user ≡ Some u → slice_get kept.groups m.group ≡ Some n
    → (t.subject.object ≡ u) × (t.node ≡ n)
numbered kept t m u n numbers user group = (same_Some _ u (sym numbers.user ∙ user), same_Some _ n (sym numbers.group ∙ group))

pub kept_none : (config : Configured) (kept : Memberships) → kept.sets.items ≡ [] → AreKept config [] kept
kept_none config kept none = record {
  names = λ u n. (
    λ h. absurd (nothing h.user h.group h.there),
    λ h. absurd (contains_none (tuple_of u n) h.1),
  );
  within = λ user group h. absurd (nothing user group h);
}
  where
    nothing : (user group : ℕ) → has (set_in kept.sets.items user) group ≡ true → ⊥
    nothing user group h = false≢true (subst (λ ss. has (set_in ss user) group ≡ true) none h)

module _ (config : Configured) (old new : Memberships) (t : Tuple) (more : IsMore old new) (ts : List Tuple) (are : AreKept config ts old) where
  -- the same, with more numbers
  pub kept_more : AreKept config ts new
  kept_more = record {
    names = λ u n. (
      λ h. (are.names u n).0 (names_before old.users new.users old.groups new.groups (set_in old.sets.items) (set_in new.sets.items) more.users more.groups more.sets are.within u n h),
      λ h. names_after old.users new.users old.groups new.groups (set_in old.sets.items) (set_in new.sets.items) more.users more.groups more.sets u n ((are.names u n).1 h),
    );
    within = within_after old.users new.users old.groups new.groups (set_in old.sets.items) (set_in new.sets.items) more.users more.groups more.sets are.within;
  }

  -- a tuple by which no group names a user tells nothing
  pub kept_passed : (IsDirect config t → ⊥) → AreKept config (ts ++ t ∷ []) new
  kept_passed not = record {
    names = λ u n. (
      λ h. let told = (kept_more.names u n).0 h in (told.0, Contains-append_left ts (t ∷ []) (tuple_of u n) told.1),
      λ h. (kept_more.names u n).1 (h.0, ⊎_elim (λ c. c) (λ e. absurd (not (direct_is config t u n e h.0))) (Contains-push_cases ts t (tuple_of u n) h.1)),
    );
    within = kept_more.within;
  }

  -- the others tell that the group names the user
  pub kept_put : (last : Memberships) (m : Membership) (set : List ℕ) → IsDirect config t → HasNumbers new t m → m.user < length new.sets.items
      → ((other : ℕ) → has set other ≡ (nat_eq other m.group || has (set_in new.sets.items m.user) other))
      → last.users ≡ new.users → last.groups ≡ new.groups → last.sets.items ≡ slice_set new.sets.items m.user set → AreKept config (ts ++ t ∷ []) last
  kept_put last m set direct numbers lt puts users groups sets = record {
    names = λ u n. (
      λ h. ⊎_elim
          (λ q. let told = (kept_more.names u n).0 (record { user = h.user; group = h.group; user_is = before_user h.user u h.user_is; group_is = before_group h.group n h.group_is; there = q }) in
          (told.0, Contains-append_left ts (t ∷ []) (tuple_of u n) told.1))
          (λ q.
          let is = numbered new t m u n numbers (ap (slice_get new.users) (sym q.0) ∙ before_user h.user u h.user_is) (ap (slice_get new.groups) (sym q.1) ∙ before_group h.group n h.group_is) in (
            subst (λ x. IsGroup config x) is.1 direct.0,
            subst (λ x. Contains (ts ++ t ∷ []) x) (tuple_is config t direct ∙ ap (λ o. tuple_of o t.node) is.0 ∙ ap (tuple_of u) is.1) (Contains-push ts t),
          ))
          ((has_put new.sets.items m.user m.group set lt puts h.user h.group).0 (before_set h.user h.group h.there)),
      λ h. ⊎_elim
          (λ c. let k = (kept_more.names u n).1 (h.0, c) in
          record { user = k.user; group = k.group; user_is = after_user k.user u k.user_is; group_is = after_group k.group n k.group_is; there = after_set k.user k.group (inl k.there) })
          (λ e. record {
            user = m.user;
            group = m.group;
            user_is = after_user m.user u (numbers.user ∙ ap (λ (x : Tuple). Some x.subject.object) e);
            group_is = after_group m.group n (numbers.group ∙ ap (λ (x : Tuple). Some x.node) e);
            there = after_set m.user m.group (inr (refl, refl));
          })
          (Contains-push_cases ts t (tuple_of u n) h.1),
    );
    within = λ user group h.
        let both : (user < length new.users) × (group < length new.groups) = ⊎_elim
        (λ q. kept_more.within user group q)
        (λ q. (subst (λ k. k < length new.users) (sym q.0) (slice_get_within new.users m.user _ numbers.user), subst (λ k. k < length new.groups) (sym q.1) (slice_get_within new.groups m.group _ numbers.group)))
        ((has_put new.sets.items m.user m.group set lt puts user group).0 (before_set user group h)) in
        (subst (λ (xs : List Object). user < length xs) (sym users) both.0, subst (λ (xs : List Node). group < length xs) (sym groups) both.1);
  }
    where
      before_user : (i : ℕ) (u : Object) → slice_get last.users i ≡ Some u → slice_get new.users i ≡ Some u
      before_user i u h = subst (λ (xs : List Object). slice_get xs i ≡ Some u) users h

      before_group : (i : ℕ) (n : Node) → slice_get last.groups i ≡ Some n → slice_get new.groups i ≡ Some n
      before_group i n h = subst (λ (xs : List Node). slice_get xs i ≡ Some n) groups h

      after_user : (i : ℕ) (u : Object) → slice_get new.users i ≡ Some u → slice_get last.users i ≡ Some u
      after_user i u h = subst (λ (xs : List Object). slice_get xs i ≡ Some u) (sym users) h

      after_group : (i : ℕ) (n : Node) → slice_get new.groups i ≡ Some n → slice_get last.groups i ≡ Some n
      after_group i n h = subst (λ (xs : List Node). slice_get xs i ≡ Some n) (sym groups) h

      before_set : (user group : ℕ) → has (set_in last.sets.items user) group ≡ true → has (set_in (slice_set new.sets.items m.user set) user) group ≡ true
      before_set user group h = subst (λ ss. has (set_in ss user) group ≡ true) sets h

      after_set : (user group : ℕ) → ((has (set_in new.sets.items user) group ≡ true) ⊎ ((user ≡ m.user) × (group ≡ m.group))) → has (set_in last.sets.items user) group ≡ true
      after_set user group h = subst (λ ss. has (set_in ss user) group ≡ true) (sym sets) ((has_put new.sets.items m.user m.group set lt puts user group).1 h)

-- ---- more numbers

pub more_none : (kept : Memberships) → IsMore kept kept
more_none kept = record { users = grew_none kept.users; groups = grew_none kept.groups; sets = λ user. refl }

pub more_both : (a b c : Memberships) → IsMore a b → IsMore b c → IsMore a c
more_both a b c one more = record {
  users = grew_both a.users b.users c.users one.users more.users;
  groups = grew_both a.groups b.groups c.groups one.groups more.groups;
  sets = λ user. more.sets user ∙ one.sets user;
}

pub numbers_more : (a b : Memberships) (t : Tuple) (m : Membership) → IsMore a b → HasNumbers a t m → HasNumbers b t m
numbers_more a b t m more numbers = record {
  user = grew_get a.users b.users m.user _ more.users numbers.user;
  group = grew_get a.groups b.groups m.group _ more.groups numbers.group;
}

-- a tuple whose subject has no relation names one user
pub single_is : (t : Tuple) → is_some t.subject.relation ≡ false → t.subject ≡ one t.subject.object
single_is t none = ap (λ (r : Option (List ℕ)). record { object = t.subject.object; relation = r }) (nothing t.subject.relation none)
  where
    nothing : (r : Option (List ℕ)) → is_some r ≡ false → r ≡ None
    nothing None e = refl
    nothing (Some x) e = absurd (false≢true (sym e))

pub is_single : (t : Tuple) → t.subject ≡ one t.subject.object → is_some t.subject.relation ≡ false
is_single t is = ap (λ (s : Subject). is_some s.relation) is

module _ (config : Configured) (t : Tuple) where
  pub direct_where : (indexed : Bool) → is_some t.subject.relation ≡ false → indexed ≡ is_indexed config (rel_of t.node) → (indexed ≡ true) ↔ IsDirect config t
  direct_where indexed single group = (λ h. (sym group ∙ h, single_is t single), λ d. group ∙ d.0)

  pub direct_nowhere : is_some t.subject.relation ≡ true → (false ≡ true) ↔ IsDirect config t
  direct_nowhere some = (λ h. absurd (false≢true h), λ d. sym (is_single t d.1) ∙ some)
