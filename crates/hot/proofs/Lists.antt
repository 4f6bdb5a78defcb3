-- Numbers and users, one by one.
use Rattle.std.proofs.Common.{ℕ, ◌≡◌, ◌<◌, true, false, nat_eq, List, [], ◌∷◌, ◌++◌, length, take, get_or, refl, sym, ◌∙◌, ap, subst, ⊎_elim, arith, length-take}
use Rattle.std.specs.Prelude.{Some, None, Contains}
use Rattle.std.specs.List.{slice_get, list_any, IsDistinct}
use Rattle.std.specs.List.Sorted.{IsStrictlyIncreasing}
use Rattle.std.specs.Cmp.{eq_by_cmp_equiv}
use Rattle.std.specs.Ordering.{eq_by_cmp}
use Rattle.std.proofs.lemmas.Bool.{or_cases, or_left, or_right, false≢true, false_from_ne_true, eqb-true, eq-eqb}
use Rattle.std.proofs.lemmas.Option.{none-some, same_Some}
use Rattle.std.proofs.lemmas.List.{get_or-take}
use Rattle.std.proofs.lemmas.List.Elements.{Contains-push_cases}
use Rattle.std.proofs.lemmas.Map.Keys.{IsDistinct-push}
use Rattle.std.proofs.lemmas.Map.Views.{Contains-from_any, tells_apart}
use Rattle.names.specs.Order.{object_cmp}
use Rattle.names.specs.declared.object.Object.{Object}
use Rattle.names.specs.declared.node.Node.{Node}
use Rattle.names.specs.declared.commit.Event.{Event}
use Rattle.meaning.proofs.Lists.{contains_none}
use Rattle.meaning.proofs.TupleSets.{objects_total, exact_objects}
use Rattle.idsets.specs.Naming.{AreDistinct}
use Rattle.idsets.proofs.Having.{lacks}
use Rattle.idsets.proofs.Rising.{below_later}
use Rattle.least_sets.specs.World.{has}
use Rattle.facts.specs.inside.Tables.{has_push}
use Rattle.facts.proofs.Naming.{in_left, in_last}
use Rattle.hot.specs.inside.Events.{AreOfEvents}
use Rattle.hot.specs.inside.Named.{AreNamed}

pub events_none : (nodes : List Node) (ids : List ℕ) → ids ≡ [] → AreOfEvents nodes [] ids
events_none nodes ids e = record {
  sound = λ i h. absurd (false≢true (ap (λ xs. has xs i) (sym e) ∙ h));
  complete = λ e i c at. absurd (contains_none e c);
}

pub events_more : (nodes : List Node) (ids ids' : List ℕ) (id : ℕ) (event : Event) → AreDistinct nodes → slice_get nodes id ≡ Some event.tuple.node → ids' ≡ ids ++ id ∷ []
    → (events : List Event) → AreOfEvents nodes events ids → AreOfEvents nodes (events ++ event ∷ []) ids'
events_more nodes ids ids' id event distinct at is events are = record {
  sound = λ i h. ⊎_elim
      (λ f. let s = are.sound i f in (s.0, in_left events (event ∷ []) s.0 s.1, s.2))
      (λ f. (event, in_last events event, ap (slice_get nodes) (eqb-true i id f) ∙ at))
      (or_cases (has ids i) (nat_eq i id) (sym (has_push ids id i) ∙ ap (λ xs. has xs i) (sym is) ∙ h));
  complete = λ e i c there. ap (λ xs. has xs i) is ∙ has_push ids id i ∙ ⊎_elim
      (λ d. or_left (has ids i) (nat_eq i id) (are.complete e i d there))
      (λ d. or_right (has ids i) (nat_eq i id) (eq-eqb i id (distinct i id event.tuple.node (there ∙ ap (λ (x : Event). Some x.tuple.node) (sym d)) at)))
      (Contains-push_cases events event e c);
}

pub events_passed : (nodes : List Node) (ids : List ℕ) (event : Event) → ((id : ℕ) → slice_get nodes id ≡ Some event.tuple.node → ⊥)
    → (events : List Event) → AreOfEvents nodes events ids → AreOfEvents nodes (events ++ event ∷ []) ids
events_passed nodes ids event missing events are = record {
  sound = λ i h. let s = are.sound i h in (s.0, in_left events (event ∷ []) s.0 s.1, s.2);
  complete = λ e i c there. ⊎_elim
      (λ d. are.complete e i d there)
      (λ d. absurd (missing i (there ∙ ap (λ (x : Event). Some x.tuple.node) (sym d))))
      (Contains-push_cases events event e c);
}

-- no id of a rising list stands before its place
pub not_before : (ids : List ℕ) (i id : ℕ) → IsStrictlyIncreasing ids → i < length ids → id ≡ get_or ids i 0 → has (take i ids) id ≡ false
not_before ids i id up within is = lacks (take i ids) id (λ k lt e.
    let few : k < i = omega (arith, lt, length-take i ids) in
    let less = below_later ids k i up few within in
    absurd (omega (arith, less, is, e, get_or-take i ids k 0 few)))

pub named_none : (table : List Object) (found : List Object) → found ≡ [] → AreNamed table [] found
unfolding IsDistinct
named_none table found e = subst (λ xs. AreNamed table [] xs) (sym e) (record {
  exactly = λ u. (λ c. absurd (contains_none u c), λ s. absurd (false≢true s.1));
  once = tt;
})

pub named_more : (table : List Object) (found found' : List Object) (id : ℕ) (user : Object) → AreDistinct table → slice_get table id ≡ Some user → found' ≡ found ++ user ∷ []
    → (ids : List ℕ) → has ids id ≡ false → AreNamed table ids found → AreNamed table (ids ++ id ∷ []) found'
named_more table found found' id user distinct at is ids new named = subst (λ xs. AreNamed table (ids ++ id ∷ []) xs) (sym is) (record {
  exactly = λ u. (
    λ c. ⊎_elim
        (λ d. (let s = (named.exactly u).0 d in (s.0, has_push ids id s.0 ∙ or_left (has ids s.0) (nat_eq s.0 id) s.1, s.2)))
        (λ d. (id, has_push ids id id ∙ or_right (has ids id) (nat_eq id id) (eq-eqb id id refl), at ∙ ap (λ x. Some x) d))
        (Contains-push_cases found user u c),
    λ s. ⊎_elim
        (λ q. in_left found (user ∷ []) u ((named.exactly u).1 (s.0, q, s.2)))
        (λ q. subst (λ x. Contains (found ++ user ∷ []) x) (same_Some user u (sym at ∙ ap (slice_get table) (sym (eqb-true s.0 id q)) ∙ s.2)) (in_last found user))
        (or_cases (has ids s.0) (nat_eq s.0 id) (sym (has_push ids id s.0) ∙ s.1)),
  );
  once = IsDistinct-push (eq_by_cmp_equiv objects_total) found user named.once (false_from_ne_true (list_any (eq_by_cmp object_cmp user) found) (λ h.
      let s = (named.exactly user).0 (Contains-from_any (tells_apart exact_objects) user found h) in
      false≢true (sym new ∙ subst (λ j. has ids j ≡ true) (distinct s.0 id user s.2 at) s.1)));
})

pub named_passed : (table : List Object) (found : List Object) (id : ℕ) → None ≡ slice_get table id → (ids : List ℕ) → AreNamed table ids found → AreNamed table (ids ++ id ∷ []) found
named_passed table found id off ids named = record {
  exactly = λ u. (
    λ c. (let s = (named.exactly u).0 c in (s.0, has_push ids id s.0 ∙ or_left (has ids s.0) (nat_eq s.0 id) s.1, s.2)),
    λ s. ⊎_elim
        (λ q. (named.exactly u).1 (s.0, q, s.2))
        (λ q. absurd (none-some u (off ∙ ap (slice_get table) (sym (eqb-true s.0 id q)) ∙ s.2)))
        (or_cases (has ids s.0) (nat_eq s.0 id) (sym (has_push ids id s.0) ∙ s.1)),
  );
  once = named.once;
}
