-- A change at one tuple, as its versions.
use Rattle.std.proofs.Common.{◌≡◌, List, [], ◌∷◌, refl, ap, sym, ◌∙◌}
use Rattle.std.specs.Prelude.{Bool, true, false, cond, Option, Some, IsSome}
use Rattle.std.specs.Map.{lookup, set_value}
use Rattle.std.specs.BTreeMap.{insert_entry}
use Rattle.std.specs.Ordering.{match_ordering, is_eq}
use Rattle.std.specs.declared.cmp.Ordering.{Ordering}
use Rattle.std.specs.declared.cmp.Ordering.TheVariants.{Less, Equal, Greater}
use Rattle.std.specs.Cmp.{eq_by_cmp_equiv}
use Rattle.std.proofs.lemmas.Map.{lookup-set_value}
use Rattle.names.specs.Order.{tuple_cmp, is_same_tuple}
use Rattle.names.specs.declared.tuple.Tuple.{Tuple}
use Rattle.meaning.proofs.TupleSets.{tuples_total, exact_tuples}
use Rattle.versions.specs.declared.version.Version.{Version}
use Rattle.versions.specs.Versions.{Entries, versions_at, items_or}
use Rattle.versions.proofs.Bases.{same_is, same_turned}

same_versions : (es : Entries) (q key : Tuple) → is_same_tuple q key ≡ true → versions_at es key ≡ versions_at es q
same_versions es q key h = ap (versions_at es) (sym (same_is q key h))

cond_items : (b : Bool) (w x : Option (List Version)) → items_or (cond b w x) ≡ cond b (items_or w) (items_or x)
cond_items true w x = refl
cond_items false w x = refl

at_same : (b : Bool) (x y z : List Version) (f : List Version → List Version) → (b ≡ true → x ≡ y) → cond b (f x) z ≡ cond b (f y) z
at_same true x y z f h = ap f (h refl)
at_same false x y z f h = refl

pub placed : (es fs : Entries) (key : Tuple) (w : List Version) (f : List Version → List Version)
    → ((q : Tuple) → lookup (is_same_tuple q) fs ≡ cond (is_same_tuple q key) (Some w) (lookup (is_same_tuple q) es)) → w ≡ f (versions_at es key)
    → (q : Tuple) → versions_at fs q ≡ cond (is_same_tuple q key) (f (versions_at es q)) (versions_at es q)
placed es fs key w f changed gives q =
    ap items_or (changed q) ∙ cond_items (is_same_tuple q key) (Some w) (lookup (is_same_tuple q) es)
    ∙ ap (λ (ms : List Version). cond (is_same_tuple q key) ms (versions_at es q)) gives
    ∙ at_same (is_same_tuple q key) (versions_at es key) (versions_at es q) (versions_at es q) f (same_versions es q key)

-- the versions of a tuple that has some, written
pub set_at : (es : Entries) (key : Tuple) (w : List Version) → IsSome (lookup (is_same_tuple key) es)
    → (q : Tuple) → lookup (is_same_tuple q) (set_value (is_same_tuple key) es w) ≡ cond (is_same_tuple q key) (Some w) (lookup (is_same_tuple q) es)
set_at es key w has q =
    lookup-set_value (eq_by_cmp_equiv tuples_total) (is_same_tuple key) ((eq_by_cmp_equiv tuples_total).congr key) q w es has
    ∙ ap (λ b. cond b (Some w) (lookup (is_same_tuple q) es)) (same_turned key q)

-- a tuple with its versions, put in
pub inserted_at : (es : Entries) (key : Tuple) (w : List Version) (q : Tuple) → lookup (is_same_tuple q) (insert_entry tuple_cmp es key w) ≡ cond (is_same_tuple q key) (Some w) (lookup (is_same_tuple q) es)
inserted_at [] key w q = refl
inserted_at (e ∷ es) key w q = by_order (tuple_cmp key e.0) refl (inserted_at es key w q)
  where
    covered : (a b : Bool) → a ≡ b → cond a (Some w) (lookup (is_same_tuple q) es) ≡ cond b (Some w) (cond a (Some e.1) (lookup (is_same_tuple q) es))
    covered true b h = ap (λ c. cond c (Some w) (Some e.1)) h
    covered false b h = ap (λ c. cond c (Some w) (lookup (is_same_tuple q) es)) h

    apart : (a b : Bool) → (a ≡ true → b ≡ false) → cond a (Some e.1) (cond b (Some w) (lookup (is_same_tuple q) es)) ≡ cond b (Some w) (cond a (Some e.1) (lookup (is_same_tuple q) es))
    apart true b h = sym (ap (λ c. cond c (Some w) (Some e.1)) (h refl))
    apart false b h = refl

    by_order : (r : Ordering) → tuple_cmp key e.0 ≡ r → lookup (is_same_tuple q) (insert_entry tuple_cmp es key w) ≡ cond (is_same_tuple q key) (Some w) (lookup (is_same_tuple q) es)
        → lookup (is_same_tuple q) (match_ordering r ((key, w) ∷ e ∷ es) ((e.0, w) ∷ es) (e ∷ insert_entry tuple_cmp es key w)) ≡ cond (is_same_tuple q key) (Some w) (cond (is_same_tuple q e.0) (Some e.1) (lookup (is_same_tuple q) es))
    by_order Less is rest = refl
    by_order Equal is rest = covered (is_same_tuple q e.0) (is_same_tuple q key) (ap (is_same_tuple q) (sym (exact_tuples key e.0 is)))
    by_order Greater is rest =
        ap (λ (o : Option (List Version)). cond (is_same_tuple q e.0) (Some e.1) o) rest
        ∙ apart (is_same_tuple q e.0) (is_same_tuple q key) (λ h. ap (λ t. is_same_tuple t key) (same_is q e.0 h) ∙ same_turned e.0 key ∙ ap is_eq is)

cond_both : {A : Type 0} (b : Bool) (x : A) → cond b x x ≡ x
cond_both true x = refl
cond_both false x = refl

pub stays : (q key : Tuple) (ms : List Version) → cond (is_same_tuple q key) ms ms ≡ ms
stays q key ms = cond_both (is_same_tuple q key) ms

none_changed : (b : Bool) (f : List Version → List Version) (ms : List Version) → f [] ≡ [] → (b ≡ true → [] ≡ ms) → ms ≡ cond b (f ms) ms
none_changed true f ms nil h = sym (h refl) ∙ sym nil ∙ ap f (h refl)
none_changed false f ms nil h = refl

-- where the tuple has none, nothing changes
pub nothing_changed : (es : Entries) (q key : Tuple) (f : List Version → List Version) → f [] ≡ [] → [] ≡ versions_at es key → versions_at es q ≡ cond (is_same_tuple q key) (f (versions_at es q)) (versions_at es q)
nothing_changed es q key f nil none = none_changed (is_same_tuple q key) f (versions_at es q) nil (λ h. none ∙ same_versions es q key h)
