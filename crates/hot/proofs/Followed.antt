-- What was told of a node follows an event.
use Rattle.std.proofs.Common.{ℕ, ◌≡◌, ◌<◌, length, true, not, nat_eq, List, [], ◌∷◌, ◌++◌, refl, sym, ◌∙◌, ap, subst, ⊎_elim, ◌⊎◌, inl, inr}
use Rattle.std.specs.Prelude.{◌↔◌, Contains, Some}
use Rattle.std.specs.List.{slice_get}
use Rattle.std.specs.Ordering.{eq_by_cmp}
use Rattle.std.specs.Cmp.{eq_by_cmp_equiv}
use Rattle.std.proofs.lemmas.Bool.{cases_Bool, false≢true, or_cases, or_left, or_right, and_parts, and_from, eqb-true, eq-eqb}
use Rattle.std.proofs.lemmas.Option.{none-some}
use Rattle.std.proofs.lemmas.Map.Views.{tells_apart}
use Rattle.names.specs.Order.{tuple_cmp}
use Rattle.names.specs.declared.object.Object.{Object}
use Rattle.names.specs.declared.node.Node.{Node}
use Rattle.names.specs.declared.tuple.Tuple.{Tuple}
use Rattle.names.specs.declared.subject.Subject.{Subject}
use Rattle.names.specs.declared.commit.Event.{Event}
use Rattle.names.specs.declared.commit.EventKind.{EventKind}
use Rattle.names.specs.declared.commit.EventKind.TheVariants.{Put, Del}
use Rattle.meaning.specs.Snap.{Snap, Tuples, one, set_of}
use Rattle.meaning.specs.TupleSet as set
use Rattle.meaning.specs.History.{replay, after_event, after_kind}
use Rattle.meaning.proofs.Lists.{contains_cases, contains_none}
use Rattle.meaning.proofs.TupleSets.{exact_tuples, tuples_total, contains_iff, contains_insert, contains_remove}
use Rattle.idsets.specs.Naming.{AreDistinct}
use Rattle.least_sets.specs.World.{Fact, Shape, has, arcs_of}
use Rattle.region.specs.declared.rule.Told.{Told}
use Rattle.region.specs.Rules.{fact_of}
use Rattle.region.specs.Tables.{Lists, listed}
use Rattle.facts.specs.Numbers.{user_at, node_at}
use Rattle.facts.specs.Telling.{MayTell}
use Rattle.facts.specs.inside.Tables.{grew_none, user_is, user_got, number_below, node_got, node_is}
use Rattle.facts.specs.inside.Shapes.{shape_same}
use Rattle.hot.proofs.Changing.{tuple_same, IsQuiet, may_after}
use Rattle.hot.specs.inside.Remembering.{AreApart}
use Rattle.hot.specs.inside.Following.{IsOwnAfter, IsToldAfter, event_after}

-- the tuples after one was put, or taken away
in_insert : (s : Tuples) (t q : Tuple) → Contains (set.items (set.insert s t)) q ↔ ((q ≡ t) ⊎ Contains (set.items s) q)
in_insert s t q = (
  λ c. ⊎_elim
      (λ h. inl (tells_apart exact_tuples q t h))
      (λ h. inr ((contains_iff s q).0 h))
      (or_cases (eq_by_cmp tuple_cmp q t) (set.contains s q) (sym (contains_insert s t q) ∙ (contains_iff (set.insert s t) q).1 c)),
  λ c. (contains_iff (set.insert s t) q).0 (contains_insert s t q ∙ ⊎_elim
      (λ e. or_left (eq_by_cmp tuple_cmp q t) (set.contains s q) (ap (eq_by_cmp tuple_cmp q) (sym e) ∙ (eq_by_cmp_equiv tuples_total).refl q))
      (λ h. or_right (eq_by_cmp tuple_cmp q t) (set.contains s q) ((contains_iff s q).1 h))
      c),
)

in_remove : (s : Tuples) (t q : Tuple) → Contains (set.items (set.remove s t)) q ↔ ((q ≡ t → ⊥) × Contains (set.items s) q)
in_remove s t q = (
  λ c.
      let both = and_parts (not (eq_by_cmp tuple_cmp q t)) (set.contains s q) (sym (contains_remove s t q) ∙ (contains_iff (set.remove s t) q).1 c) in (
        λ e. false≢true (sym (ap not (ap (eq_by_cmp tuple_cmp q) (sym e) ∙ (eq_by_cmp_equiv tuples_total).refl q)) ∙ both.0),
        (contains_iff s q).0 both.1,
      ),
  λ c. (contains_iff (set.remove s t) q).0 (contains_remove s t q
      ∙ and_from (not (eq_by_cmp tuple_cmp q t)) (set.contains s q)
      (⊎_elim (λ h. absurd (c.0 (tells_apart exact_tuples q t h))) (λ h. ap not h) (cases_Bool (eq_by_cmp tuple_cmp q t)))
      ((contains_iff s q).1 c.1)),
)

-- a user has one number
same_number : (users : List Object) (m k : ℕ) (user : Object) → AreDistinct users → slice_get users m ≡ Some user → user_at users k ≡ user → k ≡ m
same_number users m k user distinct at is =
    let within : k < length users = number_below users users k m distinct (grew_none users) (at ∙ ap (λ x. Some x) (sym is)) in
    distinct k m user (user_got users k within ∙ ap (λ x. Some x) is) at

module _ (n : Node) (user : Object) where
  -- the tuple of the node and a user
  abbrev tuple_of : Object → Tuple
  tuple_of u = record { node = n; subject = one u }

  user_of : (t q : Tuple) → t ≡ q → t.subject.object ≡ q.subject.object
  user_of t q e = ap (λ (x : Tuple). x.subject.object) e

  no_set : (u : Object) (m : Node) → (the : Tuple) → the ≡ record { node = n; subject = set_of m } → the ≡ tuple_of u → ⊥
  no_set u m the is here = none-some m.relation (sym (ap (λ (x : Tuple). x.subject.relation) here) ∙ ap (λ (x : Tuple). x.subject.relation) is)

  module _ (s : Tuples) (users : List Object) (own own' : List ℕ) (distinct : AreDistinct users)
      (was : (k : ℕ) → has own k ≡ true ↔ Contains (set.items s) (tuple_of (user_at users k)))
      (seen : (u : Object) → Contains (set.items s) (tuple_of u) → (j : ℕ) × (slice_get users j ≡ Some u)) where
    pub own_after : (kind : EventKind) → IsOwnAfter kind users user own own'
        → (k : ℕ) → has own' k ≡ true ↔ Contains (set.items (after_kind kind (tuple_of user) s)) (tuple_of (user_at users k))
    own_after Put p k = (
      λ h. (in_insert s (tuple_of user) (tuple_of (user_at users k))).1 (⊎_elim
          (λ here. inl (ap tuple_of (ap (user_at users) (eqb-true k p.0 here) ∙ user_is users p.0 user p.1)))
          (λ had. inr ((was k).0 had))
          (or_cases (nat_eq k p.0) (has own k) (sym (p.2 k) ∙ h))),
      λ c. p.2 k ∙ ⊎_elim
          (λ here. or_left (nat_eq k p.0) (has own k) (eq-eqb k p.0 (same_number users p.0 k user distinct p.1 (user_of (tuple_of (user_at users k)) (tuple_of user) here))))
          (λ had. or_right (nat_eq k p.0) (has own k) ((was k).1 had))
          ((in_insert s (tuple_of user) (tuple_of (user_at users k))).0 c),
    )
    own_after Del (inl p) k = (
      λ h.
          let both = and_parts (has own k) (not (nat_eq k p.0)) (sym (p.2 k) ∙ h) in
          (in_remove s (tuple_of user) (tuple_of (user_at users k))).1 (
            λ here. false≢true (sym (ap not (eq-eqb k p.0 (same_number users p.0 k user distinct p.1 (user_of (tuple_of (user_at users k)) (tuple_of user) here)))) ∙ both.1),
            (was k).0 both.0,
          ),
      λ c.
          let both = (in_remove s (tuple_of user) (tuple_of (user_at users k))).0 c in
          p.2 k ∙ and_from (has own k) (not (nat_eq k p.0)) ((was k).1 both.1) (⊎_elim
          (λ here. absurd (both.0 (ap tuple_of (ap (user_at users) (eqb-true k p.0 here) ∙ user_is users p.0 user p.1))))
          (λ off. ap not off)
          (cases_Bool (nat_eq k p.0))),
    )
    own_after Del (inr p) k = (
      λ h.
          let had = (was k).0 (sym (ap (λ xs. has xs k) p.1) ∙ h) in
          (in_remove s (tuple_of user) (tuple_of (user_at users k))).1 (
            λ here. let j = seen (user_at users k) had in p.0 j.0 (j.1 ∙ ap (λ x. Some x) (user_of (tuple_of (user_at users k)) (tuple_of user) here)),
            had,
          ),
      λ c. ap (λ xs. has xs k) p.1 ∙ (was k).1 ((in_remove s (tuple_of user) (tuple_of (user_at users k))).0 c).1,
    )

    pub seen_after : (kind : EventKind) → IsOwnAfter kind users user own own'
        → (u : Object) → Contains (set.items (after_kind kind (tuple_of user) s)) (tuple_of u) → (j : ℕ) × (slice_get users j ≡ Some u)
    seen_after Put p u c = ⊎_elim
        (λ here. (p.0, p.1 ∙ ap (λ x. Some x) (sym (user_of (tuple_of u) (tuple_of user) here))))
        (λ had. seen u had)
        ((in_insert s (tuple_of user) (tuple_of u)).0 c)
    seen_after Del p u c = seen u ((in_remove s (tuple_of user) (tuple_of u)).0 c).1

  pub sets_after : (kind : EventKind) (s : Tuples) (m : Node)
      → Contains (set.items s) (record { node = n; subject = set_of m }) ↔ Contains (set.items (after_kind kind (tuple_of user) s)) (record { node = n; subject = set_of m })
  sets_after Put s m =
      let q : Tuple = record { node = n; subject = set_of m } in (
        λ c. (in_insert s (tuple_of user) q).1 (inr c),
        λ c. ⊎_elim (λ here. absurd (no_set user m q refl here)) (λ had. had) ((in_insert s (tuple_of user) q).0 c),
      )
  sets_after Del s m =
      let q : Tuple = record { node = n; subject = set_of m } in (
        λ c. (in_remove s (tuple_of user) q).1 (λ here. no_set user m q refl here, c),
        λ c. ((in_remove s (tuple_of user) q).0 c).1,
      )

-- the one event of a list
only_one : (e x : Event) → Contains (e ∷ []) x → e ≡ x
only_one e x c = ⊎_elim (λ h. h) (λ h. absurd (contains_none x h)) (contains_cases e x [] c)

-- what was told of another node, which does not read the event's node as a tupleset
pub may_stay : (S : Snap) (e : Event) (nodes : List Node) (users : List Object) (i : ℕ) (fact : Fact)
    → (slice_get nodes i ≡ Some e.tuple.node → ⊥)
    → ((j : ℕ) → has (arcs_of fact.shape) j ≡ true → (node_at nodes j).object ≡ (node_at nodes i).object → slice_get nodes j ≡ Some e.tuple.node → ⊥)
    → MayTell S nodes users i fact → MayTell (event_after S e) nodes users i fact
may_stay S e nodes users i fact off apart may = may_after S (event_after S e) (e ∷ []) nodes users i fact refl refl
    (λ x c at. off (at ∙ ap (λ (y : Event). Some y.tuple.node) (sym (only_one e x c))))
    (λ j arc same x c at. apart j arc same (at ∙ ap (λ (y : Event). Some y.tuple.node) (sym (only_one e x c))))
    may

-- what was told of the event's node, by a tuple of a user
may_turn : (S : Snap) (kind : EventKind) (user : Object) (nodes : List Node) (users : List Object) (i : ℕ) (fact : Fact) (own' : List ℕ)
    → ((j : ℕ) → has (arcs_of fact.shape) j ≡ true → (node_at nodes j).object ≡ (node_at nodes i).object → slice_get nodes j ≡ Some (node_at nodes i) → ⊥)
    → IsOwnAfter kind users user fact.own own'
    → MayTell S nodes users i fact
    → MayTell (event_after S (record { tuple = record { node = node_at nodes i; subject = one user }; kind = kind })) nodes users i (record { level = fact.level; shape = fact.shape; own = own' })
may_turn S kind user nodes users i fact own' apart own may = record {
  named = may.named;
  fact_is = ⊎_elim
      (λ d. inl (
        d.0,
        d.1,
        d.2,
        shape_same S T (node_at nodes) (node_at nodes) (user_at users) (user_at users) n fact.own own' refl
            (λ u both. owns u) (λ m. sets_after n user kind S.tuples m) d.0.form fact.shape (λ m h. refl)
            (λ m h t is p. tuple_same (record { object = n.object; relation = t }) S T (e ∷ []) refl (quiet m h t is) (one p)) d.3,
      ))
      (λ d. inr d)
      may.fact_is;
  own = owns;
  low = may.low;
  within = may.within;
  distinct = may.distinct;
  seen = λ u h. seen_after n user S.tuples users fact.own own' may.distinct may.own may.seen kind own u h;
}
  where
    n : Node
    n = node_at nodes i

    e : Event
    e = record { tuple = record { node = n; subject = one user }; kind = kind }

    T : Snap
    T = event_after S e

    owns : (u : ℕ) → has own' u ≡ true ↔ Contains (set.items T.tuples) (record { node = n; subject = one (user_at users u) })
    owns u = own_after n user S.tuples users fact.own own' may.distinct may.own may.seen kind own u

    quiet : (m : ℕ) → has (arcs_of fact.shape) m ≡ true → (t : List ℕ) → node_at nodes m ≡ record { object = n.object; relation = t } → IsQuiet (record { object = n.object; relation = t }) (e ∷ [])
    quiet m h t is x c at = apart m h (ap (λ (y : Node). y.object) is)
        (node_got nodes m (may.within m h) ∙ ap (λ y. Some y) (is ∙ sym at ∙ ap (λ (y : Event). y.tuple.node) (sym (only_one e x c))))

pub may_follow : (S : Snap) (e : Event) (user : Object) (nodes : List Node) (users : List Object) (i : ℕ) (fact : Fact) (own' : List ℕ)
    → e.tuple ≡ record { node = node_at nodes i; subject = one user }
    → ((j : ℕ) → has (arcs_of fact.shape) j ≡ true → (node_at nodes j).object ≡ (node_at nodes i).object → slice_get nodes j ≡ Some (node_at nodes i) → ⊥)
    → IsOwnAfter e.kind users user fact.own own'
    → MayTell S nodes users i fact → MayTell (event_after S e) nodes users i (record { level = fact.level; shape = fact.shape; own = own' })
may_follow S e user nodes users i fact own' is apart own may =
    subst (λ (t : Tuple). MayTell (event_after S (record { tuple = t; kind = e.kind })) nodes users i (record { level = fact.level; shape = fact.shape; own = own' })) (sym is)
    (may_turn S e.kind user nodes users i fact own' apart own may)

-- events one after another
pub replay_push : (events : List Event) (e : Event) (s : Tuples) → replay s (events ++ e ∷ []) ≡ after_event (replay s events) e
replay_push [] e s = refl
replay_push (x ∷ xs) e s = replay_push xs e (after_event s x)

pair : {A B : Type 0} {a a' : A} {b b' : B} → a ≡ a' → b ≡ b' → ◌≡◌ {A = A × B} (a, b) (a', b')
pair {A} {B} {a} {a'} {b} {b'} e f = ap {B = A × B} (λ x. (x, b)) e ∙ ap {B = A × B} (λ y. (a', y)) f

module _ (S : Snap) (e : Event) (nodes : List Node) (users : List Object) (back : Lists) (id : ℕ) (distinct : AreDistinct nodes) (found : slice_get nodes id ≡ Some e.tuple.node) where
  -- what was told of another node
  pub still_told : (n : ℕ) (t : Told) → (n ≡ id → ⊥) → (listed back id n ≡ true → AreApart nodes id n)
      → MayTell S nodes users n (fact_of t) → ((m : ℕ) → has (arcs_of (fact_of t).shape) m ≡ true → listed back m n ≡ true) → MayTell (event_after S e) nodes users n (fact_of t)
  still_told n t off apart may leads = may_stay S e nodes users n (fact_of t)
      (λ at. off (distinct n id e.tuple.node at found))
      (λ j arc same at.
      apart (subst (λ m. listed back m n ≡ true) (distinct j id e.tuple.node at found) (leads j arc)) e.tuple.node may.named.0 found may.named.1
      (ap (λ (x : Node). x.object) (sym (node_is nodes j e.tuple.node at)) ∙ same ∙ ap (λ (x : Node). x.object) (node_is nodes n may.named.0 may.named.1)))
      may

  -- what was told of the event's node
  pub turned_told : (user : Object) (s t : Told) → e.tuple.subject ≡ one user → (listed back id id ≡ true → AreApart nodes id id) → IsToldAfter e.kind users user s t
      → MayTell S nodes users id (fact_of s) → ((m : ℕ) → has (arcs_of (fact_of s).shape) m ≡ true → listed back m id ≡ true) → MayTell (event_after S e) nodes users id (fact_of t)
  turned_told user s t subject apart after may leads =
      subst (λ (f : Fact). MayTell (event_after S e) nodes users id f)
      (ap (λ (p : ℕ × Shape). record { level = p.0; shape = p.1; own = t.own }) (pair (sym after.level) (sym after.rule)))
      (may_follow S e user nodes users id (fact_of s) t.own tuple
      (λ j arc same at.
      let is : j ≡ id = distinct j id (node_at nodes id) at (found ∙ ap (λ x. Some x) (sym here)) in
      apart (subst (λ m. listed back m id ≡ true) is (leads j arc)) e.tuple.node e.tuple.node found found refl)
      after.own may)
    where
      here : node_at nodes id ≡ e.tuple.node
      here = node_is nodes id e.tuple.node found

      tuple : e.tuple ≡ record { node = node_at nodes id; subject = one user }
      tuple = ap (λ (p : Node × Subject). record { node = p.0; subject = p.1 }) (pair (sym here) subject)
