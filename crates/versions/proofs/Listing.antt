-- The tuples of a revision in order, by the versions.
use Rattle.std.proofs.Common.{◌≡◌, List, [], ◌∷◌, refl, ap, sym, ◌∙◌}
use Rattle.std.specs.Prelude.{Bool, true, false, cond, ◌&&◌, ◌||◌, filter, Some, Result, Ok, Err, IfOk, OnOk}
use Rattle.std.specs.List.{list_any}
use Rattle.std.specs.Map.{lookup, keys_of}
use Rattle.std.specs.List.Sorted.{IsStrictlySortedBy}
use Rattle.std.proofs.lemmas.List.Kept.{IsStrictlySortedBy-filter}
use Rattle.names.specs.Order.{tuple_cmp, is_same_tuple}
use Rattle.names.specs.declared.tuple.Tuple.{Tuple}
use Rattle.meaning.specs.TupleSet as set
use Rattle.meaning.specs.TupleSet.{Tuples}
use Rattle.meaning.proofs.TupleSets.{contains_from_list, items_from_list, same_tuples}
use Rattle.versions.specs.declared.version.Version.{Version}
use Rattle.versions.specs.Versions.{Entries, keys, versions_at, items_or}
use Rattle.versions.proofs.Bases.{any_filtered}

-- a tuple that is no key has no versions, so that a test which fails of none fails of it
tested_key : (p : List Version → Bool) → p [] ≡ false → (q : Tuple) (es : List (Tuple × List Version))
    → (list_any (is_same_tuple q) (keys_of es) && p (items_or (lookup (is_same_tuple q) es))) ≡ p (items_or (lookup (is_same_tuple q) es))
tested_key p none q [] = sym none
tested_key p none q (e ∷ es) = by_same (is_same_tuple q e.0) (tested_key p none q es)
  where
    by_same : (same : Bool) → (list_any (is_same_tuple q) (keys_of es) && p (items_or (lookup (is_same_tuple q) es))) ≡ p (items_or (lookup (is_same_tuple q) es))
        → ((same || list_any (is_same_tuple q) (keys_of es)) && p (items_or (cond same (Some e.1) (lookup (is_same_tuple q) es)))) ≡ p (items_or (cond same (Some e.1) (lookup (is_same_tuple q) es)))
    by_same true rest = refl
    by_same false rest = rest

-- the items of a set whose members are those with such versions
pub items_by : (m : Entries) (tuples : Tuples) (p : List Version → Bool) → p [] ≡ false → IsStrictlySortedBy tuple_cmp (keys m)
    → ((q : Tuple) → set.contains tuples q ≡ p (versions_at m q)) → set.items tuples ≡ filter (λ t. p (versions_at m t)) (keys m)
items_by m tuples p none ordered is =
    let ts : List Tuple = filter (λ t. p (versions_at m t)) (keys m) in
    let same : tuples ≡ set.from_list ts = same_tuples tuples (set.from_list ts) (λ q.
    is q ∙ sym (contains_from_list ts q ∙ any_filtered (λ t. p (versions_at m t)) q (keys m) ∙ tested_key p none q m)) in
    ap set.items same ∙ items_from_list ts (IsStrictlySortedBy-filter tuple_cmp (λ t. p (versions_at m t)) (keys m) ordered)

-- two facts of what was found
pub both_ok : {T E : Type 0} (r : Result T E) (P Q : T → Type 0) → IfOk r P → IfOk r Q → IfOk r (λ x. P x × Q x)
both_ok (Ok x) P Q p q = (p, q)
both_ok (Err e) P Q p q = tt

-- the same where the value does not count
pub on_ok : {T E : Type 0} (r : Result T E) (P Q R : Type 0) → (P → Q → R) → OnOk r P → OnOk r Q → OnOk r R
on_ok (Ok x) P Q R f p q = f p q
on_ok (Err e) P Q R f p q = tt
