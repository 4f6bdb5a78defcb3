-- What may be told of a node may be told of it after a commit that has no event on it, nor on what it names of the same object: its tuplesets.
use Rattle.std.proofs.Common.{ℕ, ◌≡◌, true, false, not, ◌&&◌, ◌||◌, List, [], ◌∷◌, refl, sym, ◌∙◌, ap, subst, ⊎_elim, inl, inr}
use Rattle.std.specs.Prelude.{◌↔◌, Contains, Some}
use Rattle.std.specs.List.{slice_get}
use Rattle.std.specs.Ordering.{eq_by_cmp}
use Rattle.std.proofs.lemmas.Bool.{cases_Bool}
use Rattle.std.proofs.lemmas.Option.{slice_get_within}
use Rattle.std.proofs.lemmas.Map.Views.{tells_apart}
use Rattle.names.specs.Order.{tuple_cmp}
use Rattle.names.specs.declared.object.Object.{Object}
use Rattle.names.specs.declared.node.Node.{Node}
use Rattle.names.specs.declared.tuple.Tuple.{Tuple}
use Rattle.names.specs.declared.subject.Subject.{Subject}
use Rattle.names.specs.declared.commit.Event.{Event}
use Rattle.names.specs.declared.commit.EventKind.{EventKind}
use Rattle.names.specs.declared.commit.EventKind.TheVariants.{Put, Del}
use Rattle.meaning.specs.Snap.{Snap, Tuples, one, set_of}
use Rattle.meaning.specs.TupleSet as set
use Rattle.meaning.specs.Config.{Configured, Defines, Has, IsAt, rel_of}
use Rattle.meaning.specs.History.{replay, after_event, after_kind}
use Rattle.meaning.proofs.Lists.{contains_here, contains_there}
use Rattle.meaning.proofs.TupleSets.{exact_tuples, contains_iff, contains_insert, contains_remove}
use Rattle.least_sets.specs.World.{Fact, has, arcs_of}
use Rattle.facts.specs.Numbers.{user_at, node_at}
use Rattle.facts.specs.Telling.{MayTell}
use Rattle.facts.specs.inside.Tables.{node_got}
use Rattle.facts.specs.inside.Shapes.{shape_same}

module _ (n : Node) where
  -- no event is on a tuple of the node
  abbrev pub IsQuiet : List Event → Type 0
  IsQuiet events = (e : Event) → Contains events e → e.tuple.node ≡ n → ⊥

  apart : (t q : Tuple) → q.node ≡ n → (t.node ≡ n → ⊥) → eq_by_cmp tuple_cmp q t ≡ false
  apart t q is off = ⊎_elim
      (λ h. absurd (off (ap (λ (x : Tuple). x.node) (sym (tells_apart exact_tuples q t h)) ∙ is)))
      (λ h. h)
      (cases_Bool (eq_by_cmp tuple_cmp q t))

  event_same : (kind : EventKind) (t q : Tuple) (s : Tuples) → q.node ≡ n → (t.node ≡ n → ⊥) → set.contains (after_kind kind t s) q ≡ set.contains s q
  event_same Put t q s is off = contains_insert s t q ∙ ap (λ b. b || set.contains s q) (apart t q is off)
  event_same Del t q s is off = contains_remove s t q ∙ ap (λ b. not b && set.contains s q) (apart t q is off)

  replay_same : (events : List Event) (q : Tuple) (s : Tuples) → q.node ≡ n → IsQuiet events → set.contains (replay s events) q ≡ set.contains s q
  replay_same [] q s is quiet = refl
  replay_same (e ∷ es) q s is quiet =
      replay_same es q (after_event s e) is (λ x c. quiet x (contains_there e x es c)) ∙ event_same e.kind e.tuple q s is (quiet e (contains_here e es))

  pub tuple_same : (S T : Snap) (events : List Event) → T.tuples ≡ replay S.tuples events → IsQuiet events → (s : Subject)
      → Contains (set.items S.tuples) (record { node = n; subject = s }) ↔ Contains (set.items T.tuples) (record { node = n; subject = s })
  tuple_same S T events is quiet s =
      let q : Tuple = record { node = n; subject = s } in
      let same : set.contains T.tuples q ≡ set.contains S.tuples q = ap (λ (x : Tuples). set.contains x q) is ∙ replay_same events q S.tuples refl quiet in (
        λ c. (contains_iff T.tuples q).0 (same ∙ (contains_iff S.tuples q).1 c),
        λ c. (contains_iff S.tuples q).0 (sym same ∙ (contains_iff T.tuples q).1 c),
      )

-- the events are on no tuple of the node with this number
abbrev pub IsQuietAt : List Node → List Event → ℕ → Type 0
IsQuietAt nodes events j = (e : Event) → Contains events e → slice_get nodes j ≡ Some e.tuple.node → ⊥

pub may_after : (S T : Snap) (events : List Event) (nodes : List Node) (users : List Object) (i : ℕ) (fact : Fact) → S.config ≡ T.config → T.tuples ≡ replay S.tuples events
    → IsQuietAt nodes events i → ((j : ℕ) → has (arcs_of fact.shape) j ≡ true → (node_at nodes j).object ≡ (node_at nodes i).object → IsQuietAt nodes events j)
    → MayTell S nodes users i fact → MayTell T nodes users i fact
may_after S T events nodes users i fact config tuples quiet named may = record {
  named = may.named;
  fact_is = ⊎_elim
      (λ d. inl (
        d.0,
        subst (λ (c : Configured). Defines c (rel_of n) d.0) config d.1,
        subst (λ (c : Configured). IsAt c n fact.level) config d.2,
        shape_same S T (node_at nodes) (node_at nodes) (user_at users) (user_at users) n fact.own fact.own config
            (λ u both. let same = here (one (user_at users u)) in (λ h. same.0 (both.0 h), λ h. both.1 (same.1 h)))
            (λ m. here (set_of m)) d.0.form fact.shape (λ m h. refl)
            (λ m h t e p. tuple_same (record { object = n.object; relation = t }) S T events tuples (there m h t e) (one p)) d.3,
      ))
      (λ d. inr ((λ h. d.0 (subst (λ (c : Configured). Has c (rel_of n)) (sym config) h)), d.1))
      may.fact_is;
  own = λ u. let same = here (one (user_at users u)) in (λ h. same.0 ((may.own u).0 h), λ h. (may.own u).1 (same.1 h));
  low = λ off. may.low (λ h. off (subst (λ (c : Configured). Has c (rel_of n)) config h));
  within = may.within;
  distinct = may.distinct;
  seen = λ u h. may.seen u ((here (one u)).1 h);
}
  where
    n : Node
    n = node_at nodes i

    at : slice_get nodes i ≡ Some n
    at = node_got nodes i (slice_get_within nodes i may.named.0 may.named.1)

    here : (s : Subject) → Contains (set.items S.tuples) (record { node = n; subject = s }) ↔ Contains (set.items T.tuples) (record { node = n; subject = s })
    here s = tuple_same n S T events tuples (λ e c is. quiet e c (at ∙ ap (λ x. Some x) (sym is))) s

    there : (m : ℕ) → has (arcs_of fact.shape) m ≡ true → (t : List ℕ) → node_at nodes m ≡ record { object = n.object; relation = t } → IsQuiet (record { object = n.object; relation = t }) events
    there m h t is e c tuple = named m h (ap (λ (x : Node). x.object) is) e c (node_got nodes m (may.within m h) ∙ ap (λ x. Some x) (is ∙ sym tuple))
