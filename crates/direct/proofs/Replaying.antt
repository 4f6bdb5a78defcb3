-- What events make of the groups that name a user.
use Rattle.std.proofs.Common.{ℕ, ◌≡◌, ◌<◌, Bool, true, false, not, cond, ◌&&◌, ◌||◌, nat_eq, List, [], ◌∷◌, ◌++◌, length, refl, sym, ◌∙◌, ap, subst, ⊎_elim, ◌⊎◌, inl, inr}
use Rattle.std.specs.Prelude.{Contains, Some}
use Rattle.std.specs.List.{slice_get}
use Rattle.std.specs.Cmp.{eq_by_cmp_equiv}
use Rattle.std.specs.Ordering.{eq_by_cmp}
use Rattle.std.proofs.lemmas.Bool.{cases_Bool, and_parts, true≢false, eqb-true, eq-eqb}
use Rattle.std.proofs.lemmas.Map.Views.{tells_apart}
use Rattle.std.proofs.lemmas.Option.{slice_get_within}
use Rattle.names.specs.Order.{tuple_cmp}
use Rattle.names.specs.declared.object.Object.{Object}
use Rattle.names.specs.declared.node.Node.{Node}
use Rattle.names.specs.declared.tuple.Tuple.{Tuple}
use Rattle.names.specs.declared.commit.Event.{Event}
use Rattle.names.specs.declared.commit.EventKind.{EventKind}
use Rattle.names.specs.declared.commit.EventKind.TheVariants.{Put, Del}
use Rattle.meaning.specs.TupleSet as set
use Rattle.meaning.specs.TupleSet.{Tuples}
use Rattle.meaning.specs.Config.{Configured, rel_of}
use Rattle.meaning.specs.History.{replay, after_event, after_kind}
use Rattle.meaning.proofs.Lists.{contains_here, contains_there}
use Rattle.meaning.proofs.TupleSets.{tuples_total, exact_tuples, contains_insert, contains_remove}
use Rattle.config.specs.Valid.{is_indexed}
use Rattle.idsets.specs.Sets.{has}
use Rattle.leopard.specs.Groups.{IsGroup}
use Rattle.direct.specs.Named.{IsDirect}
use Rattle.direct.specs.inside.Keeping.{HasNumbers, AreRight, names_by, tuple_of}
use Rattle.direct.specs.inside.Renewing.{is_put}
use Rattle.direct.specs.declared.memberships.Memberships.{Memberships}
use Rattle.direct.specs.declared.memberships.Membership.{Membership}
use Rattle.direct.proofs.Tables.{direct_is, tuple_is, numbered}

pub replay_push : (es : List Event) (e : Event) (s : Tuples) → replay s (es ++ e ∷ []) ≡ after_event (replay s es) e
replay_push [] e s = refl
replay_push (x ∷ es) e s = replay_push es e (after_event s x)

-- the tuple of an event is there where it was put
there_after : (kind : EventKind) (t : Tuple) (s : Tuples) → set.contains (after_kind kind t s) t ≡ is_put kind
there_after Put t s = contains_insert s t t ∙ ap (λ b. b || set.contains s t) ((eq_by_cmp_equiv tuples_total).refl t)
there_after Del t s = contains_remove s t t ∙ ap (λ b. not b && set.contains s t) ((eq_by_cmp_equiv tuples_total).refl t)

apart : (q : Tuple) (kind : EventKind) (t : Tuple) (s : Tuples) → eq_by_cmp tuple_cmp q t ≡ false → set.contains (after_kind kind t s) q ≡ set.contains s q
apart q Put t s off = contains_insert s t q ∙ ap (λ b. b || set.contains s q) off
apart q Del t s off = contains_remove s t q ∙ ap (λ b. not b && set.contains s q) off

-- there is an event on the tuple, or it is there where it was
pub event_or_same : (q : Tuple) (events : List Event) (s : Tuples) → ((e : Event) × Contains events e × (e.tuple ≡ q)) ⊎ (set.contains (replay s events) q ≡ set.contains s q)
event_or_same q [] s = inr refl
event_or_same q (e ∷ es) s = ⊎_elim
    (λ t. inl (e, contains_here e es, sym (tells_apart exact_tuples q e.tuple t)))
    (λ f. ⊎_elim
    (λ (x, c, is). inl (x, contains_there e x es c, is))
    (λ same. inr (same ∙ apart q e.kind e.tuple s f))
    (event_or_same q es (after_event s e)))
    (cases_Bool (eq_by_cmp tuple_cmp q e.tuple))

module _ (config : Configured) (tuples : Tuples) (e : Event) (u : Object) (n : Node) where
  names_put : e.tuple ≡ tuple_of u n → IsGroup config n → names_by config (after_event tuples e) u n ≡ is_put e.kind
  names_put is group =
      ap (λ b. b && set.contains (after_event tuples e) (tuple_of u n)) group
      ∙ ap (λ t. set.contains (after_event tuples e) t) (sym is)
      ∙ there_after e.kind e.tuple tuples

  names_same : (e.tuple ≡ tuple_of u n → IsGroup config n → ⊥) → names_by config (after_event tuples e) u n ≡ names_by config tuples u n
  names_same other = ⊎_elim
      (λ t.
      let off : is_indexed config (rel_of n) ≡ false = ⊎_elim (λ group. absurd (other (sym (tells_apart exact_tuples (tuple_of u n) e.tuple t)) group)) (λ f. f) (cases_Bool (is_indexed config (rel_of n))) in
      ap (λ b. b && set.contains (after_event tuples e) (tuple_of u n)) off ∙ sym (ap (λ b. b && set.contains tuples (tuple_of u n)) off))
      (λ f. ap (λ b. is_indexed config (rel_of n) && b) (apart (tuple_of u n) e.kind e.tuple tuples f))
      (cases_Bool (eq_by_cmp tuple_cmp (tuple_of u n) e.tuple))

both_true : (a b : Bool) → a ≡ true → b ≡ true → (a && b) ≡ true
both_true a b e f = ap (λ t. t && b) e ∙ f

-- an event by which a group names a user
pub right_put : (config : Configured) (kept : Memberships) (f f' : ℕ → List ℕ) (tuples : Tuples) (e : Event) (m : Membership) → IsDirect config e.tuple → HasNumbers kept e.tuple m
    → ((other id : ℕ) → has (f' other) id ≡ cond (nat_eq other m.user && nat_eq id m.group) (is_put e.kind) (has (f other) id))
    → AreRight config kept f tuples → AreRight config kept f' (after_event tuples e)
right_put config kept f f' tuples e m direct numbers puts are = record {
  right = λ u n user group user_is group_is. ⊎_elim
      (λ t.
      let p = and_parts (nat_eq user m.user) (nat_eq group m.group) t in
      let is = numbered kept e.tuple m u n numbers (ap (slice_get kept.users) (sym (eqb-true user m.user p.0)) ∙ user_is) (ap (slice_get kept.groups) (sym (eqb-true group m.group p.1)) ∙ group_is) in
      puts user group ∙ ap (λ b. cond b (is_put e.kind) (has (f user) group)) t
      ∙ sym (names_put config tuples e u n (tuple_is config e.tuple direct ∙ ap (λ o. tuple_of o e.tuple.node) is.0 ∙ ap (tuple_of u) is.1) (subst (λ x. IsGroup config x) is.1 direct.0)))
      (λ t. puts user group ∙ ap (λ b. cond b (is_put e.kind) (has (f user) group)) t ∙ are.right u n user group user_is group_is
      ∙ sym (names_same config tuples e u n (λ is in_group. true≢false (sym (both_true (nat_eq user m.user) (nat_eq group m.group)
      (eq-eqb user m.user (kept.users_apart user m.user u user_is (numbers.user ∙ ap (λ (x : Tuple). Some x.subject.object) is)))
      (eq-eqb group m.group (kept.groups_apart group m.group n group_is (numbers.group ∙ ap (λ (x : Tuple). Some x.node) is)))) ∙ t))))
      (cases_Bool (nat_eq user m.user && nat_eq group m.group));
  within = λ user group h. ⊎_elim
      (λ t.
      let p = and_parts (nat_eq user m.user) (nat_eq group m.group) t in (
        subst (λ k. k < length kept.users) (sym (eqb-true user m.user p.0)) (slice_get_within kept.users m.user _ numbers.user),
        subst (λ k. k < length kept.groups) (sym (eqb-true group m.group p.1)) (slice_get_within kept.groups m.group _ numbers.group),
      ))
      (λ t. are.within user group (sym (puts user group ∙ ap (λ b. cond b (is_put e.kind) (has (f user) group)) t) ∙ h))
      (cases_Bool (nat_eq user m.user && nat_eq group m.group));
}

-- another event
pub right_passed : (config : Configured) (kept : Memberships) (f : ℕ → List ℕ) (tuples : Tuples) (e : Event) → (IsDirect config e.tuple → (m : Membership) → HasNumbers kept e.tuple m → ⊥)
    → AreRight config kept f tuples → AreRight config kept f (after_event tuples e)
right_passed config kept f tuples e missing are = record {
  right = λ u n user group user_is group_is. are.right u n user group user_is group_is
      ∙ sym (names_same config tuples e u n (λ is in_group. missing (direct_is config e.tuple u n is in_group) (record { user = user; group = group }) (record {
        user = user_is ∙ ap (λ (x : Tuple). Some x.subject.object) (sym is);
        group = group_is ∙ ap (λ (x : Tuple). Some x.node) (sym is);
      })));
  within = are.within;
}
