-- What is told of revisions after each change.
use Rattle.std.proofs.Common.{ℕ, ◌≡◌, ◌<◌, ◌≤◌, ◌+◌, ◌&&◌, true, List, [], length, sym, ◌∙◌, ap, subst, arith, ⊎_elim, inl, inr}
use Rattle.std.specs.Prelude.{◌↔◌, Contains, Option, Some, None, is_some, Result, Ok, Err, IfOk, IfNone, OnErr}
use Rattle.std.specs.List.{slice_get}
use Rattle.std.specs.Ordering.{nat_cmp}
use Rattle.std.specs.BTreeMap.{BTreeMap, get}
use Rattle.std.proofs.lemmas.Bool.{and_parts, cases_lt}
use Rattle.names.specs.declared.object.Object.{Object}
use Rattle.names.specs.declared.node.Node.{Node}
use Rattle.names.specs.declared.tuple.Tuple.{Tuple}
use Rattle.names.specs.declared.commit.Event.{Event}
use Rattle.names.specs.declared.commit.Commit.TheVariants.{Tuples}
use Rattle.meaning.specs.Config.{Configured, rel_of}
use Rattle.meaning.specs.Snap.{Snap}
use Rattle.meaning.specs.TupleSet as set
use Rattle.meaning.specs.History.{replay, after_commit}
use Rattle.meaning.proofs.TupleSets.{contains_iff}
use Rattle.config.specs.Valid.{is_indexed}
use Rattle.idsets.specs.Sets.{has}
use Rattle.idsets.proofs.Having.{same_tests}
use Rattle.facts.specs.Numbers.{Grew}
use Rattle.facts.specs.inside.Tables.{grew_none, grew_get}
use Rattle.leopard.specs.Finding.{IsNamedBy}
use Rattle.leopard.specs.Groups.{IsGroup, MemberToGroup}
use Rattle.direct.specs.Named.{IsDirect}
use Rattle.direct.specs.Before.{set_in, set_at, AreUpTo}
use Rattle.direct.specs.Revisions.{sets_at, NamesAt, Tells, IsDirectOf, IsNext, NotesChanged}
use Rattle.direct.specs.inside.Keeping.{IsMore, HasNumbers, AreKept, AreRight, names_by, tuple_of}
use Rattle.direct.specs.inside.Listing.{AreNamed}
use Rattle.direct.specs.inside.Renewing.{set_or, IsNumberOf, IsNoted}
use Rattle.direct.specs.declared.direct.Direct.{Direct}
use Rattle.direct.specs.declared.memberships.Memberships.{Memberships}
use Rattle.direct.specs.declared.memberships.Membership.{Membership}
use Rattle.direct.proofs.Past.{set_now, set_same}
use Rattle.direct.proofs.Tables.{names_before, names_after, within_after, direct_is}
use Rattle.direct.proofs.Replaying.{event_or_same}

-- ---- the same is told where the same sets are kept, and more users and groups have numbers

pub tells_more : (a b : Direct) (rev : ℕ) (S : Snap) → b.config ≡ a.config → Grew a.kept.users b.kept.users → Grew a.kept.groups b.kept.groups
    → ((user : ℕ) → sets_at b rev user ≡ sets_at a rev user) → Tells a rev S → Tells b rev S
tells_more a b rev S config users groups same tells = record {
  config = tells.config ∙ sym config;
  groups = λ u n. (
    λ h. (tells.groups u n).0 (names_before a.kept.users b.kept.users a.kept.groups b.kept.groups (sets_at a rev) (sets_at b rev) users groups same tells.within u n h),
    λ h. names_after a.kept.users b.kept.users a.kept.groups b.kept.groups (sets_at a rev) (sets_at b rev) users groups same u n ((tells.groups u n).1 h),
  );
  within = within_after a.kept.users b.kept.users a.kept.groups b.kept.groups (sets_at a rev) (sets_at b rev) users groups same tells.within;
}

-- more users and groups have numbers
pub direct_more : (a b : Direct) → b.config ≡ a.config → b.base ≡ a.base → b.cursor ≡ a.cursor → IsMore a.kept b.kept → b.earlier.items ≡ a.earlier.items
    → (snaps : ℕ → Snap) → IsDirectOf a snaps → IsDirectOf b snaps
direct_more a b config base cursor more earlier snaps is = record {
  order = let o = is.order in omega (arith, base, cursor, o);
  tells = λ rev from to. tells_more a b rev (snaps rev) config more.users more.groups
      (λ user. ap (λ es. set_at es b.kept.sets.items user rev) earlier ∙ set_same a.earlier.items a.kept.sets.items b.kept.sets.items user rev (more.sets user))
      (is.tells rev (omega (arith, base, from)) (omega (arith, cursor, to)));
}

-- ---- one revision

-- the group names the user by the snapshot
pub member_is : (S : Snap) (u : Object) (n : Node) → MemberToGroup S u n ↔ (IsGroup S.config n × Contains (set.items S.tuples) (tuple_of u n))
member_is S u n = (λ h. h, λ h. h)

pub direct_begins : (direct : Direct) (S : Snap) (rev : ℕ) → direct.config ≡ S.config → direct.base ≡ rev → direct.cursor ≡ rev → direct.earlier.items ≡ []
    → (ts : List Tuple) → ts ≡ set.items S.tuples → AreKept direct.config ts direct.kept → (snaps : ℕ → Snap) → snaps rev ≡ S → IsDirectOf direct snaps
direct_begins direct S rev config base cursor none ts all kept snaps at = record {
  order = omega (arith, base, cursor);
  tells = λ r from to.
      let here : r ≡ rev = omega (arith, base, cursor, from, to) in
      subst (λ (T : Snap). Tells direct r T) (sym (ap snaps here ∙ at)) (record {
        config = sym config;
        groups = λ u n. (
          λ h.
              let told = (kept.names u n).0 (names_before direct.kept.users direct.kept.users direct.kept.groups direct.kept.groups (set_in direct.kept.sets.items) (sets_at direct r)
              (grew_none direct.kept.users) (grew_none direct.kept.groups) (now r) kept.within u n h) in
              (subst (λ (c : Configured). IsGroup c n) config told.0, subst (λ xs. Contains xs (tuple_of u n)) all told.1),
          λ h. names_after direct.kept.users direct.kept.users direct.kept.groups direct.kept.groups (set_in direct.kept.sets.items) (sets_at direct r)
              (grew_none direct.kept.users) (grew_none direct.kept.groups) (now r) u n
              ((kept.names u n).1 (subst (λ (c : Configured). IsGroup c n) (sym config) h.0, subst (λ xs. Contains xs (tuple_of u n)) (sym all) h.1)),
        );
        within = within_after direct.kept.users direct.kept.users direct.kept.groups direct.kept.groups (set_in direct.kept.sets.items) (sets_at direct r)
            (grew_none direct.kept.users) (grew_none direct.kept.groups) (now r) kept.within;
      });
}
  where
    now : (r user : ℕ) → sets_at direct r user ≡ set_in direct.kept.sets.items user
    now r user = ap (λ es. set_at es direct.kept.sets.items user r) none

-- ---- a commit

-- whether a group names a user by the snapshot, as a test
pub member_test : (S : Snap) (u : Object) (n : Node) → MemberToGroup S u n ↔ (names_by S.config S.tuples u n ≡ true)
member_test S u n = (
  λ h. ap (λ b. b && set.contains S.tuples (tuple_of u n)) h.0 ∙ (contains_iff S.tuples (tuple_of u n)).1 h.1,
  λ h. let p = and_parts (is_indexed S.config (rel_of n)) (set.contains S.tuples (tuple_of u n)) h in (p.0, (contains_iff S.tuples (tuple_of u n)).0 p.1),
)

-- what is kept for the cursor is right, where more users and groups have numbers
pub right_before : (a : Direct) (mid : Memberships) (S : Snap) → IsMore a.kept mid → AreUpTo a.cursor a.earlier.items → Tells a a.cursor S → AreRight a.config mid (set_in mid.sets.items) S.tuples
right_before a mid S more up_to tells = record {
  right = λ u n user group user_is group_is. same_tests (has (set_in mid.sets.items user) group) (names_by a.config S.tuples u n)
      (λ h. to_test u n ((tells.groups u n).0 (names_before a.kept.users mid.users a.kept.groups mid.groups (sets_at a a.cursor) (set_in mid.sets.items) more.users more.groups same tells.within u n
      (record { user = user; group = group; user_is = user_is; group_is = group_is; there = h }))))
      (λ h.
      let k = names_after a.kept.users mid.users a.kept.groups mid.groups (sets_at a a.cursor) (set_in mid.sets.items) more.users more.groups same u n ((tells.groups u n).1 (from_test u n h)) in
      let user_same = mid.users_apart k.user user u k.user_is user_is in
      let group_same = mid.groups_apart k.group group n k.group_is group_is in
      subst (λ x. has (set_in mid.sets.items x) group ≡ true) user_same (subst (λ x. has (set_in mid.sets.items k.user) x ≡ true) group_same k.there));
  within = within_after a.kept.users mid.users a.kept.groups mid.groups (sets_at a a.cursor) (set_in mid.sets.items) more.users more.groups same tells.within;
}
  where
    same : (user : ℕ) → set_in mid.sets.items user ≡ sets_at a a.cursor user
    same user = more.sets user ∙ sym (set_now a.earlier.items a.kept.sets.items user a.cursor up_to.up_to)

    to_test : (u : Object) (n : Node) → MemberToGroup S u n → names_by a.config S.tuples u n ≡ true
    to_test u n h = subst (λ (c : Configured). names_by c S.tuples u n ≡ true) tells.config ((member_test S u n).0 h)

    from_test : (u : Object) (n : Node) → names_by a.config S.tuples u n ≡ true → MemberToGroup S u n
    from_test u n h = (member_test S u n).1 (subst (λ (c : Configured). names_by c S.tuples u n ≡ true) (sym tells.config) h)

-- what is kept for the new cursor is what its snapshot holds
pub tells_next : (a b : Direct) (mid : Memberships) (S : Snap) (events : List Event) (renewed : BTreeMap ℕ (List ℕ)) → b.config ≡ a.config → b.kept.users ≡ mid.users → b.kept.groups ≡ mid.groups
    → IsMore a.kept mid → AreUpTo a.cursor a.earlier.items → AreUpTo b.cursor b.earlier.items
    → ((user : ℕ) → set_in b.kept.sets.items user ≡ set_or renewed mid.sets.items user)
    → ((e : Event) → Contains events e → IsDirect a.config e.tuple → (m : Membership) × HasNumbers mid e.tuple m)
    → AreRight a.config mid (set_or renewed mid.sets.items) (replay S.tuples events)
    → Tells a a.cursor S → Tells b b.cursor (after_commit S (Tuples events))
tells_next a b mid S events renewed config users groups more up_to up_to' sets numbers are tells = record {
  config = tells.config ∙ sym config;
  groups = λ u n. (
    λ h. (member_test (after_commit S (Tuples events)) u n).1 (to_snap u n
        (sym (are.right u n h.user h.group (subst (λ (xs : List Object). slice_get xs h.user ≡ Some u) users h.user_is) (subst (λ (xs : List Node). slice_get xs h.group ≡ Some n) groups h.group_is))
        ∙ ap (λ s. has s h.group) (sym (now h.user)) ∙ h.there)),
    λ h. numbered_is u n h (⊎_elim
        (λ (e, c, is).
        let m = numbers e c (direct_is a.config e.tuple u n is (subst (λ (k : Configured). IsGroup k n) tells.config h.0)) in
        (m.0.user, m.0.group, m.1.user ∙ ap (λ (t : Tuple). Some t.subject.object) is, m.1.group ∙ ap (λ (t : Tuple). Some t.node) is))
        (λ same.
        let before : MemberToGroup S u n = (h.0, (contains_iff S.tuples (tuple_of u n)).0 (sym same ∙ (contains_iff (replay S.tuples events) (tuple_of u n)).1 h.1)) in
        let k = (tells.groups u n).1 before in
        (k.user, k.group, grew_get a.kept.users mid.users k.user u more.users k.user_is, grew_get a.kept.groups mid.groups k.group n more.groups k.group_is))
        (event_or_same (tuple_of u n) events S.tuples)),
  );
  within = λ user group h.
      let both = are.within user group (subst (λ s. has s group ≡ true) (now user) h) in
      (subst (λ (xs : List Object). user < length xs) (sym users) both.0, subst (λ (xs : List Node). group < length xs) (sym groups) both.1);
}
  where
    now : (user : ℕ) → sets_at b b.cursor user ≡ set_or renewed mid.sets.items user
    now user = set_now b.earlier.items b.kept.sets.items user b.cursor up_to'.up_to ∙ sets user

    to_snap : (u : Object) (n : Node) → names_by a.config (replay S.tuples events) u n ≡ true → names_by S.config (replay S.tuples events) u n ≡ true
    to_snap u n h = subst (λ (c : Configured). names_by c (replay S.tuples events) u n ≡ true) (sym tells.config) h

    numbered_is : (u : Object) (n : Node) → MemberToGroup (after_commit S (Tuples events)) u n → ((user : ℕ) × (group : ℕ) × (slice_get mid.users user ≡ Some u) × (slice_get mid.groups group ≡ Some n)) → NamesAt b b.cursor u n
    numbered_is u n h (user, group, user_is, group_is) = record {
      user = user;
      group = group;
      user_is = subst (λ (xs : List Object). slice_get xs user ≡ Some u) (sym users) user_is;
      group_is = subst (λ (xs : List Node). slice_get xs group ≡ Some n) (sym groups) group_is;
      there = ap (λ s. has s group) (now user) ∙ are.right u n user group user_is group_is
          ∙ subst (λ (c : Configured). names_by c (replay S.tuples events) u n ≡ true) tells.config ((member_test (after_commit S (Tuples events)) u n).0 h);
    }

-- all of it
pub direct_next : (a b : Direct) (mid : Memberships) (events : List Event) (renewed : BTreeMap ℕ (List ℕ)) → b.config ≡ a.config → b.base ≡ a.base → b.cursor ≡ a.cursor + 1
    → b.kept.users ≡ mid.users → b.kept.groups ≡ mid.groups → IsMore a.kept mid → AreUpTo a.cursor a.earlier.items → AreUpTo b.cursor b.earlier.items
    → ((user : ℕ) → set_in b.kept.sets.items user ≡ set_or renewed mid.sets.items user)
    → ((user at : ℕ) → at < a.cursor + 1 → set_at b.earlier.items b.kept.sets.items user at ≡ set_at a.earlier.items mid.sets.items user at)
    → ((e : Event) → Contains events e → IsDirect a.config e.tuple → (m : Membership) × HasNumbers mid e.tuple m)
    → ((tuples : set.Tuples) → AreRight a.config mid (set_in mid.sets.items) tuples → AreRight a.config mid (set_or renewed mid.sets.items) (replay tuples events))
    → (snaps : ℕ → Snap) → IsDirectOf a snaps → IsNext snaps a.cursor events → IsDirectOf b snaps
direct_next a b mid events renewed config base cursor users groups more up_to up_to' sets before numbers renews snaps is next = record {
  order = let o = is.order in omega (arith, base, cursor, o);
  tells = λ rev from to. ⊎_elim
      (λ lt. tells_more a b rev (snaps rev) config (subst (λ (xs : List Object). Grew a.kept.users xs) (sym users) more.users) (subst (λ (xs : List Node). Grew a.kept.groups xs) (sym groups) more.groups)
      (λ user. before user rev lt ∙ set_same a.earlier.items a.kept.sets.items mid.sets.items user rev (more.sets user))
      (is.tells rev (omega (arith, base, from)) (omega (arith, lt))))
      (λ le.
      let here : rev ≡ a.cursor + 1 = omega (arith, cursor, to, le) in
      let last : Tells a a.cursor (snaps a.cursor) = is.tells a.cursor is.order (omega arith) in
      let told : Tells b b.cursor (after_commit (snaps a.cursor) (Tuples events)) = tells_next a b mid (snaps a.cursor) events renewed config users groups more up_to up_to' sets numbers
      (renews (snaps a.cursor).tuples (right_before a mid (snaps a.cursor) more up_to last)) last in
      subst (λ r. Tells b r (snaps rev)) (cursor ∙ sym here) (subst (λ (T : Snap). Tells b b.cursor T) (sym (ap snaps here ∙ next)) told))
      (cases_lt rev (a.cursor + 1));
}

-- what was noted of whom
pub noted_changed : (a b : Direct) (mid : Memberships) (events : List Event) (renewed : BTreeMap ℕ (List ℕ)) → b.config ≡ a.config → b.kept.users ≡ mid.users
    → ((user : ℕ) → set_in mid.sets.items user ≡ set_in a.kept.sets.items user)
    → IsNoted b.cursor renewed mid.sets.items b.kept.sets.items a.earlier.items b.earlier.items
    → ((user : ℕ) → is_some (get nat_cmp renewed user) ≡ true → (e : Event) × Contains events e × IsNumberOf a.config mid e user) → NotesChanged a b events
noted_changed a b mid events renewed config users same noted of = record {
  more = noted.more;
  noted = noted.noted;
  once = noted.once;
  named = λ e c.
      let one = noted.each e c in
      let (event, among, is) = of e.user one.1 in
      (one.0, (event, among, subst (λ (k : Configured). IsDirect k event.tuple) (sym config) is.0, subst (λ (xs : List Object). slice_get xs e.user ≡ Some event.tuple.subject.object) (sym users) is.1));
  was = λ e c. let one = noted.was e c in (one.0 ∙ same e.user, one.1);
  others = λ user. ⊎_elim (λ one. inl one) (λ is. inr (is ∙ same user)) (noted.others user);
}

-- ---- what is answered

pub kept_ids : (direct : Direct) (u : Object) (user rev : ℕ) (ids : List ℕ) → slice_get direct.kept.users user ≡ Some u → ids ≡ set_at direct.earlier.items direct.kept.sets.items user rev
    → (snaps : ℕ → Snap) → IsDirectOf direct snaps → direct.base ≤ rev → rev ≤ direct.cursor → (n : Node) → IsNamedBy direct.kept.groups ids n ↔ MemberToGroup (snaps rev) u n
kept_ids direct u user rev ids at is snaps of from to n =
    let tells = of.tells rev from to in (
      λ (i, there, h). (tells.groups u n).0 (record { user = user; group = i; user_is = at; group_is = there; there = subst (λ s. has s i ≡ true) is h }),
      λ m.
          let k = (tells.groups u n).1 m in
          let same = direct.kept.users_apart k.user user u k.user_is at in
          (k.group, k.group_is, subst (λ s. has s k.group ≡ true) (ap (λ x. set_at direct.earlier.items direct.kept.sets.items x rev) same ∙ sym is) k.there),
    )

-- the names of what is kept
pub named_answer : (groups : List Node) (ids : List ℕ) (nodes : List Node) (P : Node → Type 0) → AreNamed groups ids nodes → ((n : Node) → IsNamedBy groups ids n ↔ P n) → (n : Node) → Contains nodes n ↔ P n
named_answer groups ids nodes P named kept n = (
  λ c. let (i, h, there) = (named n).0 c in (kept n).0 (i, there, h),
  λ m. let (i, there, h) = (kept n).1 m in (named n).1 (i, h, there),
)

pub answers_none : (direct : Direct) (u : Object) (rev : ℕ) → ((i : ℕ) → slice_get direct.kept.users i ≡ Some u → ⊥) → (snaps : ℕ → Snap) → IsDirectOf direct snaps → direct.base ≤ rev → rev ≤ direct.cursor
    → (n : Node) → MemberToGroup (snaps rev) u n → ⊥
answers_none direct u rev missing snaps of from to n m =
    let k = ((of.tells rev from to).groups u n).1 m in
    missing k.user k.user_is

-- ---- a new base

pub direct_rebased : (a b : Direct) (rev : ℕ) → b.config ≡ a.config → b.base ≡ rev → b.cursor ≡ a.cursor → b.kept ≡ a.kept → rev ≤ a.cursor
    → ((sets : List (List ℕ)) (user at : ℕ) → rev ≤ at → set_at b.earlier.items sets user at ≡ set_at a.earlier.items sets user at)
    → (snaps : ℕ → Snap) → IsDirectOf a snaps → a.base ≤ rev → IsDirectOf b snaps
direct_rebased a b rev config base cursor kept within same snaps is above = record {
  order = omega (arith, base, cursor, within);
  tells = λ r from to. tells_more a b r (snaps r) config
      (subst (λ (k : Memberships). Grew a.kept.users k.users) (sym kept) (grew_none a.kept.users))
      (subst (λ (k : Memberships). Grew a.kept.groups k.groups) (sym kept) (grew_none a.kept.groups))
      (λ user. same b.kept.sets.items user r (omega (arith, base, from)) ∙ ap (λ (k : Memberships). set_at a.earlier.items k.sets.items user r) kept)
      (is.tells r (omega (arith, base, above, from)) (omega (arith, cursor, to)));
}

-- ---- outcomes

pub err_any : {T E P : Type 0} (r : Result T E) → P → OnErr r P
err_any (Ok x) p = tt
err_any (Err e) p = p

pub if_ok : {T E : Type 0} (P Q : T → Type 0) (r : Result T E) → ((x : T) → P x → Q x) → IfOk r P → IfOk r Q
if_ok P Q (Ok x) f p = f x p
if_ok P Q (Err e) f p = tt

pub none_any : {T P : Type 0} (r : Option T) → P → IfNone r P
none_any None p = p
none_any (Some x) p = tt
