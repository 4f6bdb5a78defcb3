-- A text put in, as the set of the tuples sees it.
use Rattle.std.proofs.Common.{◌≡◌, ℕ, List, [], ◌∷◌, refl, ap, sym, ◌∙◌, Bool, true, false}
use Rattle.std.specs.Prelude.{◌||◌}
use Rattle.std.specs.BTreeMap.{insert_entry}
use Rattle.std.specs.Ordering.{match_ordering}
use Rattle.std.specs.declared.cmp.Ordering.{Ordering}
use Rattle.std.specs.declared.cmp.Ordering.TheVariants.{Less, Equal, Greater}
use Rattle.std.proofs.lemmas.Map.Lookups.{exact_bytes}
use Rattle.names.specs.Order.{is_same_tuple}
use Rattle.names.specs.declared.tuple.Tuple.{Tuple}
use Rattle.meaning.specs.TupleSet as set
use Rattle.meaning.proofs.TupleSets.{contains_insert, same_tuples}
use Rattle.shelf.specs.Texts.{text_cmp}
use Rattle.tuple_keys.specs.Spelled.{tuple_of, IsSpelling}
use Rattle.by_subject.specs.inside.Texts.{Texts, found_in, AreSpelled}

once_more : (a b : Bool) → (a || b) ≡ (a || (a || b))
once_more true b = refl
once_more false b = refl

swapped : (a b c : Bool) → (a || (b || c)) ≡ (b || (a || c))
swapped true true c = refl
swapped true false c = refl
swapped false b c = refl

module _ (k : List ℕ) (is : IsSpelling k) where
  pub spelled_insert : (es : Texts) → AreSpelled es → AreSpelled (insert_entry text_cmp es k tt)
  spelled_insert [] s = (is, s)
  spelled_insert (e ∷ es) s = by_order (text_cmp k e.0) (spelled_insert es s.1)
    where
      by_order : (r : Ordering) → AreSpelled (insert_entry text_cmp es k tt) → AreSpelled (match_ordering r ((k, tt) ∷ e ∷ es) ((e.0, tt) ∷ es) (e ∷ insert_entry text_cmp es k tt))
      by_order Less rest = (is, s)
      by_order Equal rest = s
      by_order Greater rest = (s.0, rest)

  has_insert : (es : Texts) (q : Tuple) → set.contains (found_in (insert_entry text_cmp es k tt)) q ≡ (is_same_tuple q (tuple_of k) || set.contains (found_in es) q)
  has_insert [] q = contains_insert set.empty (tuple_of k) q
  has_insert (e ∷ es) q = by_order (text_cmp k e.0) refl (has_insert es q)
    where
      by_order : (r : Ordering) → text_cmp k e.0 ≡ r → set.contains (found_in (insert_entry text_cmp es k tt)) q ≡ (is_same_tuple q (tuple_of k) || set.contains (found_in es) q)
          → set.contains (found_in (match_ordering r ((k, tt) ∷ e ∷ es) ((e.0, tt) ∷ es) (e ∷ insert_entry text_cmp es k tt))) q ≡ (is_same_tuple q (tuple_of k) || set.contains (found_in (e ∷ es)) q)
      by_order Less same rest = contains_insert (found_in (e ∷ es)) (tuple_of k) q
      by_order Equal same rest =
          contains_insert (found_in es) (tuple_of e.0) q
          ∙ once_more (is_same_tuple q (tuple_of e.0)) (set.contains (found_in es) q)
          ∙ ap (λ (l : List ℕ). is_same_tuple q (tuple_of l) || (is_same_tuple q (tuple_of e.0) || set.contains (found_in es) q)) (sym (exact_bytes k e.0 same))
          ∙ ap (λ b. is_same_tuple q (tuple_of k) || b) (sym (contains_insert (found_in es) (tuple_of e.0) q))
      by_order Greater same rest =
          contains_insert (found_in (insert_entry text_cmp es k tt)) (tuple_of e.0) q
          ∙ ap (λ b. is_same_tuple q (tuple_of e.0) || b) rest
          ∙ swapped (is_same_tuple q (tuple_of e.0)) (is_same_tuple q (tuple_of k)) (set.contains (found_in es) q)
          ∙ ap (λ b. is_same_tuple q (tuple_of k) || b) (sym (contains_insert (found_in es) (tuple_of e.0) q))

  pub found_insert : (es : Texts) → found_in (insert_entry text_cmp es k tt) ≡ set.insert (found_in es) (tuple_of k)
  found_insert es =
      same_tuples (found_in (insert_entry text_cmp es k tt)) (set.insert (found_in es) (tuple_of k)) (λ q. has_insert es q ∙ sym (contains_insert (found_in es) (tuple_of k) q))
