-- The tuples that the floor holds, by the versions.
use Rattle.std.proofs.Common.{◌≡◌, ℕ, ◌+◌, List, [], ◌∷◌, ◌++◌, refl, ap, sym, ◌∙◌, arith}
use Rattle.std.specs.Prelude.{Bool, true, false, cond, ◌||◌, ◌&&◌, ◌==◌, filter, Some}
use Rattle.std.specs.List.{list_any}
use Rattle.std.specs.Map.{lookup, keys_of}
use Rattle.std.specs.Cmp.{eq_by_cmp_equiv}
use Rattle.names.specs.Order.{is_same_tuple}
use Rattle.names.specs.declared.tuple.Tuple.{Tuple}
use Rattle.names.specs.declared.commit.Event.{Event}
use Rattle.names.specs.declared.commit.Commit.TheVariants as kinds
use Rattle.meaning.specs.TupleSet as set
use Rattle.meaning.specs.TupleSet.{Tuples}
use Rattle.meaning.specs.History.{History}
use Rattle.meaning.proofs.TupleSets.{contains_from_list, same_tuples, exact_tuples, tuples_total}
use Rattle.std.proofs.lemmas.Bool.Decides.{nat_tests}
use Rattle.std.proofs.lemmas.Map.Views.{tells_apart}
use Rattle.versions.specs.declared.version.Version.{Version}
use Rattle.versions.specs.Versions.{Entries, keys, version_of, versions_in, versions_after, base_versions, is_based, items_or, versions_at, base_tuples, AreVersions}

pub same_is : (q t : Tuple) → is_same_tuple q t ≡ true → q ≡ t
same_is = tells_apart exact_tuples

pub same_turned : (q t : Tuple) → is_same_tuple q t ≡ is_same_tuple t q
same_turned = (eq_by_cmp_equiv tuples_total).symm

-- a test over the keys
filtered_one : (b same : Bool) (p : Tuple → Bool) (q t : Tuple) (ts : List Tuple) → (same ≡ true → q ≡ t) → p t ≡ b → is_same_tuple q t ≡ same → list_any (is_same_tuple q) (filter p ts) ≡ (list_any (is_same_tuple q) ts && p q)
    → list_any (is_same_tuple q) (cond b (t ∷ filter p ts) (filter p ts)) ≡ ((same || list_any (is_same_tuple q) ts) && p q)
filtered_one true true p q t ts is at e rest = ap (λ c. c || list_any (is_same_tuple q) (filter p ts)) e ∙ sym (ap p (is refl) ∙ at)
filtered_one true false p q t ts is at e rest = ap (λ c. c || list_any (is_same_tuple q) (filter p ts)) e ∙ rest
filtered_one false true p q t ts is at e rest = rest ∙ none (list_any (is_same_tuple q) ts) (p q) (ap p (is refl) ∙ at) ∙ sym (ap p (is refl) ∙ at)
  where
    none : (a b : Bool) → b ≡ false → (a && b) ≡ false
    none true b h = h
    none false b h = refl
filtered_one false false p q t ts is at e rest = rest

pub any_filtered : (p : Tuple → Bool) (q : Tuple) (ts : List Tuple) → list_any (is_same_tuple q) (filter p ts) ≡ (list_any (is_same_tuple q) ts && p q)
any_filtered p q [] = refl
any_filtered p q (t ∷ ts) = filtered_one (p t) (is_same_tuple q t) p q t ts (same_is q t) refl refl (any_filtered p q ts)

-- a tuple that is no key has no versions
pub based_key : (q : Tuple) (es : List (Tuple × List Version)) → (list_any (is_same_tuple q) (keys_of es) && is_based (items_or (lookup (is_same_tuple q) es))) ≡ is_based (items_or (lookup (is_same_tuple q) es))
based_key q [] = refl
based_key q (e ∷ es) = by_same (is_same_tuple q e.0) (based_key q es)
  where
    by_same : (same : Bool) → (list_any (is_same_tuple q) (keys_of es) && is_based (items_or (lookup (is_same_tuple q) es))) ≡ is_based (items_or (lookup (is_same_tuple q) es))
        → ((same || list_any (is_same_tuple q) (keys_of es)) && is_based (items_or (cond same (Some e.1) (lookup (is_same_tuple q) es)))) ≡ is_based (items_or (cond same (Some e.1) (lookup (is_same_tuple q) es)))
    by_same true rest = refl
    by_same false rest = rest

pub contains_base : (m : Entries) (q : Tuple) → set.contains (base_tuples m) q ≡ is_based (versions_at m q)
contains_base m q =
    contains_from_list (filter (λ t. is_based (versions_at m t)) (keys m)) q
    ∙ any_filtered (λ t. is_based (versions_at m t)) q (keys m)
    ∙ based_key q m

-- versions of commits are of revisions above 0
pub not_zero : (n : ℕ) → (n + 1 == 0) ≡ false
not_zero n = grind (arith, nat_tests)

pub based_in : (n : ℕ) (es : List Event) (q : Tuple) (later : List Version) → is_based later ≡ false → is_based (versions_in (n + 1) es q ++ later) ≡ false
based_in n [] q later h = h
based_in n (e ∷ es) q later h = by_same (is_same_tuple q e.tuple) (based_in n es q later h)
  where
    by_same : (same : Bool) → is_based (versions_in (n + 1) es q ++ later) ≡ false → is_based (cond same (version_of (n + 1) e ∷ versions_in (n + 1) es q) (versions_in (n + 1) es q) ++ later) ≡ false
    by_same true rest = not_zero n
    by_same false rest = rest

pub based_after : (n : ℕ) (h : History) (q : Tuple) → is_based (versions_after n h q) ≡ false
based_after n [] q = refl
based_after n (kinds.Tuples es ∷ h) q = based_in n es q (versions_after (n + 1) h q) (based_after (n + 1) h q)
based_after n (kinds.Config config ∷ h) q = based_after (n + 1) h q

based_both : (b : Bool) (n : ℕ) (h : History) (q : Tuple) → is_based (base_versions b ++ versions_after n h q) ≡ b
based_both true n h q = refl
based_both false n h q = based_after n h q

-- the floor holds what the versions say
pub base_is : (m : Entries) (tuples : Tuples) (n : ℕ) (h : History) → AreVersions m tuples n h → base_tuples m ≡ tuples
base_is m tuples n h versions = same_tuples (base_tuples m) tuples (λ q. contains_base m q ∙ ap is_based (versions q) ∙ based_both (set.contains tuples q) n h q)
