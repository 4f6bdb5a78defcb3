-- The tuples after a commit.
use Rattle.std.proofs.Common.{◌≡◌, false, not, ◌&&◌, ◌||◌, List, [], ◌∷◌, refl, sym, ◌∙◌, ap, ⊎_elim, ◌⊎◌, inl, inr}
use Rattle.std.specs.Prelude.{◌↔◌, Contains}
use Rattle.std.specs.Ordering.{eq_by_cmp}
use Rattle.std.proofs.lemmas.Bool.{cases_Bool}
use Rattle.std.proofs.lemmas.Map.Views.{tells_apart}
use Rattle.names.specs.Order.{tuple_cmp}
use Rattle.names.specs.declared.tuple.Tuple.{Tuple}
use Rattle.names.specs.declared.commit.Event.{Event}
use Rattle.names.specs.declared.commit.EventKind.{EventKind}
use Rattle.names.specs.declared.commit.EventKind.TheVariants.{Put, Del}
use Rattle.names.specs.declared.commit.Commit.TheVariants.{Tuples}
use Rattle.meaning.specs.Snap.{Snap}
use Rattle.meaning.specs.Snap as snap
use Rattle.meaning.specs.TupleSet as set
use Rattle.meaning.specs.History.{replay, after_event, after_kind, after_commit}
use Rattle.meaning.proofs.Lists.{contains_here, contains_there}
use Rattle.meaning.proofs.TupleSets.{exact_tuples, contains_iff, contains_insert, contains_remove}

module _ (q : Tuple) where
  apart : (kind : EventKind) (t : Tuple) (s : snap.Tuples) → eq_by_cmp tuple_cmp q t ≡ false → set.contains (after_kind kind t s) q ≡ set.contains s q
  apart Put t s off = contains_insert s t q ∙ ap (λ b. b || set.contains s q) off
  apart Del t s off = contains_remove s t q ∙ ap (λ b. not b && set.contains s q) off

  -- there is an event on the tuple, or it is there where it was
  pub event_or_same : (events : List Event) (s : snap.Tuples) → ((e : Event) × Contains events e × (e.tuple ≡ q)) ⊎ (set.contains (replay s events) q ≡ set.contains s q)
  event_or_same [] s = inr refl
  event_or_same (e ∷ es) s = ⊎_elim
      (λ t. inl (e, contains_here e es, sym (tells_apart exact_tuples q e.tuple t)))
      (λ f. ⊎_elim
      (λ (x, c, is). inl (x, contains_there e x es c, is))
      (λ same. inr (same ∙ apart e.kind e.tuple s f))
      (event_or_same es (after_event s e)))
      (cases_Bool (eq_by_cmp tuple_cmp q e.tuple))

  pub tuple_or_same : (S T : Snap) (events : List Event) → T ≡ after_commit S (Tuples events)
      → ((e : Event) × Contains events e × (e.tuple ≡ q)) ⊎ (Contains (set.items S.tuples) q ↔ Contains (set.items T.tuples) q)
  tuple_or_same S T events is = ⊎_elim
      (λ e. inl e)
      (λ same.
      let both : set.contains T.tuples q ≡ set.contains S.tuples q = ap (λ (x : Snap). set.contains x.tuples q) is ∙ same in
      inr (
        λ c. (contains_iff T.tuples q).0 (both ∙ (contains_iff S.tuples q).1 c),
        λ c. (contains_iff S.tuples q).0 (sym both ∙ (contains_iff T.tuples q).1 c),
      ))
      (event_or_same events S.tuples)
