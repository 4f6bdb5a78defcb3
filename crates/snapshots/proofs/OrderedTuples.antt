-- Sets of tuples as ordered lists.
use Rattle.std.proofs.Common.{◌≡◌, List, Bool, true, false, cond, refl, ap, ◌∙◌, sym}
use Rattle.std.specs.Prelude.{◌&&◌, ◌||◌, not}
use Rattle.std.specs.List.{list_any}
use Rattle.std.specs.Cmp.{eq_by_cmp_equiv}
use Rattle.std.specs.Ordering.{eq_by_cmp}
use Rattle.names.specs.Order.{tuple_cmp}
use Rattle.names.specs.declared.tuple.Tuple.{Tuple}
use Rattle.meaning.specs.TupleSet as set
use Rattle.meaning.proofs.TupleSets.{tuples_total, contains_from_list, contains_insert, contains_remove, same_tuples}

or_put : (b x : Bool) → cond b true x ≡ (b || x)
or_put true x = refl
or_put false x = refl

and_drop : (b x : Bool) → cond b false x ≡ (not b && x)
and_drop true x = refl
and_drop false x = refl

module _ (old new : List Tuple) (t : Tuple) where
  swapped : (q : Tuple) → eq_by_cmp tuple_cmp t q ≡ eq_by_cmp tuple_cmp q t
  swapped q = (eq_by_cmp_equiv tuples_total).symm t q

  -- a list that has one tuple more
  pub put_tuple : ((q : Tuple) → list_any (eq_by_cmp tuple_cmp q) new ≡ cond (eq_by_cmp tuple_cmp t q) true (list_any (eq_by_cmp tuple_cmp q) old)) → set.from_list new ≡ set.insert (set.from_list old) t
  put_tuple h = same_tuples _ _ (λ q.
      contains_from_list new q ∙ h q ∙ ap (λ b. cond b true (list_any (eq_by_cmp tuple_cmp q) old)) (swapped q) ∙ or_put (eq_by_cmp tuple_cmp q t) (list_any (eq_by_cmp tuple_cmp q) old)
      ∙ ap (λ b. eq_by_cmp tuple_cmp q t || b) (sym (contains_from_list old q)) ∙ sym (contains_insert (set.from_list old) t q))

  -- a list without one tuple
  pub drop_tuple : ((q : Tuple) → list_any (eq_by_cmp tuple_cmp q) new ≡ cond (eq_by_cmp tuple_cmp t q) false (list_any (eq_by_cmp tuple_cmp q) old)) → set.from_list new ≡ set.remove (set.from_list old) t
  drop_tuple h = same_tuples _ _ (λ q.
      contains_from_list new q ∙ h q ∙ ap (λ b. cond b false (list_any (eq_by_cmp tuple_cmp q) old)) (swapped q) ∙ and_drop (eq_by_cmp tuple_cmp q t) (list_any (eq_by_cmp tuple_cmp q) old)
      ∙ ap (λ b. not (eq_by_cmp tuple_cmp q t) && b) (sym (contains_from_list old q)) ∙ sym (contains_remove (set.from_list old) t q))
