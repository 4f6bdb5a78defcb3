-- A tuple more.
use Rattle.std.proofs.Common.{◌≡◌, ℕ, ◌+◌, ◌<◌, List, length, take, get_or, ap, sym, ◌∙◌, ⊎_elim, true}
use Rattle.std.specs.Prelude.{◌&&◌, ◌||◌}
use mathlib.Core.Bool.{true≢false}
use Rattle.std.specs.Cmp.{eq_by_cmp_equiv}
use Rattle.std.specs.Ordering.{eq_by_cmp}
use Rattle.std.specs.List.{list_any}
use Rattle.std.proofs.lemmas.List.Folds.{list_any_more}
use Rattle.std.proofs.lemmas.Map.Views.{tells_apart}
use Rattle.names.specs.Order.{tuple_cmp, is_same_tuple}
use Rattle.names.specs.declared.tuple.Tuple.{Tuple}
use Rattle.names.specs.declared.commit.Event.{Event}
use Rattle.names.specs.declared.commit.EventKind.{EventKind}
use Rattle.names.specs.declared.commit.EventKind.TheVariants.{Put, Del}
use Rattle.meaning.specs.TupleSet as set
use Rattle.meaning.specs.TupleSet.{Tuples}
use Rattle.meaning.proofs.TupleSets.{contains_empty, contains_insert, contains_from_list, tuples_total, exact_tuples}
use Rattle.by_subject.specs.Turned.{turned}
use Rattle.by_subject.specs.Complete.{Covers, puts_tuple, is_put}
use Rattle.by_subject.specs.inside.Putting.{HasPuts, Keeps, with_event}
use Rattle.by_subject.proofs.Tests.{first_of, second_of, one_of}

-- no tuple is covered at first
pub covers_none : (found : Tuples) → Covers found set.empty
covers_none found = λ t has. absurd (true≢false (sym has ∙ contains_empty t))

-- what was there stays
put_keeps : (s : Tuples) (u t : Tuple) → set.contains s t ≡ true → set.contains (set.insert s u) t ≡ true
put_keeps s u t has = contains_insert s u t ∙ second_of (eq_by_cmp tuple_cmp t u) (set.contains s t) has

-- and the tuple is there
put_has : (s : Tuples) (u t : Tuple) → is_same_tuple t u ≡ true → set.contains (set.insert s (turned u)) (turned t) ≡ true
put_has s u t same =
    contains_insert s (turned u) (turned t)
    ∙ first_of (eq_by_cmp tuple_cmp (turned t) (turned u)) (set.contains s (turned t))
    (ap (λ (v : Tuple). eq_by_cmp tuple_cmp (turned t) (turned v)) (sym (tells_apart exact_tuples t u same)) ∙ (eq_by_cmp_equiv tuples_total).refl (turned t))

pub covers_more : (found new : Tuples) (ts : List Tuple) (i : ℕ) (x : Tuple) → i < length ts → x ≡ get_or ts i x → new ≡ set.insert found (turned x)
    → Covers found (set.from_list (take i ts)) → Covers new (set.from_list (take (i + 1) ts))
covers_more found new ts i x small is now covers = λ t has.
    ap (λ (s : Tuples). set.contains s (turned t)) now
    ∙ ⊎_elim
    (λ before. put_keeps found (turned x) (turned t) (covers t (contains_from_list (take i ts) t ∙ before)))
    (λ here. put_has found x t (ap (λ (u : Tuple). is_same_tuple t u) is ∙ here))
    (one_of (list_any (eq_by_cmp tuple_cmp t) (take i ts)) (eq_by_cmp tuple_cmp t (get_or ts i x))
    (sym (list_any_more (eq_by_cmp tuple_cmp t) ts i x small) ∙ sym (contains_from_list (take (i + 1) ts) t) ∙ has))

-- ---- an event more

by_kind_keeps : (k : EventKind) (u : Tuple) (found : Tuples) (t : Tuple) → set.contains found t ≡ true → set.contains (with_event k u found) t ≡ true
by_kind_keeps Put u found t has = put_keeps found (turned u) t has
by_kind_keeps Del u found t has = has

by_kind_has : (k : EventKind) (u : Tuple) (found : Tuples) (t : Tuple) → (is_put k && is_same_tuple t u) ≡ true → set.contains (with_event k u found) (turned t) ≡ true
by_kind_has Put u found t puts = put_has found u t puts
by_kind_has Del u found t puts = absurd (true≢false (sym puts))

module _ (e : Event) (found new : Tuples) (now : new ≡ with_event e.kind e.tuple found) where
  pub event_taken : (es : List Event) (i : ℕ) → i < length es → e ≡ get_or es i e → HasPuts (take i es) found → HasPuts (take (i + 1) es) new
  event_taken es i small is taken = λ t put.
      ap (λ (s : Tuples). set.contains s (turned t)) now
      ∙ ⊎_elim
      (λ before. by_kind_keeps e.kind e.tuple found (turned t) (taken t before))
      (λ here. by_kind_has e.kind e.tuple found t here)
      (one_of (list_any (puts_tuple t) (take i es)) (puts_tuple t e)
      (ap (λ (f : Event). list_any (puts_tuple t) (take i es) || puts_tuple t f) is ∙ sym (list_any_more (puts_tuple t) es i e small) ∙ put))

  pub event_kept : (old : Tuples) → Keeps old found → Keeps old new
  event_kept old keeps = λ t has. ap (λ (s : Tuples). set.contains s t) now ∙ by_kind_keeps e.kind e.tuple found t (keeps t has)
