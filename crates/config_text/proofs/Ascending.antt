-- Members come in the order of their keys, so what is read of them does too.
use Rattle.std.proofs.Common.{◌≡◌, ℕ, zero, suc, ◌<◌, List, [], ◌∷◌, ◌++◌, length, get_or, Some, All, Contains, map, arith, refl, sym, ap, subst, ◌∙◌, append-nil, Ordering, Less, String, Global, string_bytes, string_cmp}
use Rattle.std.specs.Prelude.{option_and_then}
use Rattle.std.specs.List.{AllByRecursion}
use Rattle.std.specs.List.Sorted.{IsStrictlySortedBy}
use Rattle.std.specs.Ordering.{ordering_then}
use Rattle.std.specs.Map.{keys_of}
use Rattle.std.proofs.lemmas.Cmp.{nat_list_cmp_total, tied_itself}
use Rattle.std.proofs.lemmas.List.{map-append}
use Rattle.std.proofs.lemmas.List.Elements.{All-from_recursion, recursion_from_All}
use Rattle.std.proofs.lemmas.Option.{none-some, same_Some, option_and_then_some}
use Rattle.serde_json.specs.Data.{Data, null, boolean, number, string, array, object, Members, no_members, member}
use Rattle.serde_json.specs.Find.{as_object}
use Rattle.serde_json.specs.View.{view, members_view}
use Rattle.serde_json.proofs.Views.{Entry}
use Rattle.names.specs.declared.relation.RelationName.{RelationName}
use Rattle.config_text.specs.Order.{name_cmp, relation_cmp}
use Rattle.config_text.specs.Keyed.{keys_in, AreInOrder, IsInOrder, HaveOrder, name_of, AreOrdered}
use Rattle.config_text.specs.Texts.{RelationTexts, ConfigTexts}
use Rattle.config_text.specs.Shape.{relation_read, relations_read, namespaces_read}
use Rattle.config_text.proofs.Whole.{both_some, relation_some, with_some}

keys_below : (k : String Global) (es : List Entry) → AllByRecursion (λ y. string_cmp k y ≡ Less) (keys_of es) → AllByRecursion (λ y. name_cmp (string_bytes k) y ≡ Less) (keys_in (members_view es))
keys_below k [] h = tt
keys_below k (e ∷ es) h = (h.0, keys_below k es h.1)

-- a map's entries
pub entries_in_order : (es : List Entry) → IsStrictlySortedBy string_cmp (keys_of es) → AreInOrder (members_view es)
unfolding IsStrictlySortedBy
entries_in_order [] h = tt
entries_in_order (e ∷ es) h = (keys_below e.0 es h.0, entries_in_order es h.1)

pub values_more : (done : List Entry) (e : Entry) → HaveOrder (members_view done) → IsInOrder (view e.1) → HaveOrder (members_view (done ++ e ∷ []))
values_more [] e h is = (is, tt)
values_more (d ∷ done) e h is = (h.0, values_more done e h.1 is)

pub values_done : (done left all : List Entry) → all ≡ done ++ left → left ≡ [] → HaveOrder (members_view done) → HaveOrder (members_view all)
values_done done left all is end h = let same : all ≡ done = is ∙ ap (λ xs. done ++ xs) end ∙ append-nil done in subst (λ es. HaveOrder (members_view es)) (sym same) h

pub all_weaker : {X : Type 0} (P Q : X → Type 0) → ((x : X) → P x → Q x) → (xs : List X) → AllByRecursion P xs → AllByRecursion Q xs
all_weaker P Q f [] h = tt
all_weaker P Q f (x ∷ xs) h = (f x h.0, all_weaker P Q f xs h.1)

-- ---- what is read of them

abbrev pub of_namespace : List ℕ → List ℕ → RelationName
of_namespace n r = record { namespace = n; relation = r }

relations_named : (n : List ℕ) (ms : Members) (ts : List RelationTexts) → relations_read n ms ≡ Some ts → map name_of ts ≡ map (of_namespace n) (keys_in ms)
relations_named n no_members ts e = ap (map name_of) (sym (same_Some _ _ e))
relations_named n (member r d ms) ts e = both_some (relation_read n r d) (relations_read n ms) ts e (λ t us p q same.
    let name : name_of t ≡ of_namespace n r = relation_some n r d t p (λ types form indexed read is. ap name_of (sym is)) in
    ap (map name_of) (sym same) ∙ ap (λ x. x ∷ map name_of us) name ∙ ap (λ xs. of_namespace n r ∷ xs) (relations_named n ms us q))

namespaces_named : (ms : Members) (t : ConfigTexts) → namespaces_read ms ≡ Some t → t.namespaces ≡ keys_in ms
namespaces_named no_members t e = ap (λ c. c.namespaces) (sym (same_Some _ _ e))
namespaces_named (member n d ms) t e = with_some n (option_and_then (relations_read n) (as_object d)) (namespaces_read ms) t e (λ rs rest p q same.
    ap (λ c. c.namespaces) (sym same) ∙ ap (λ ns. n ∷ ns) (namespaces_named ms rest q))

same_all : (P : List ℕ → Type 0) (n : List ℕ) → P n → (ks : List (List ℕ)) → AllByRecursion (λ r. P r.namespace) (map (of_namespace n) ks)
same_all P n p [] = tt
same_all P n p (k ∷ ks) = (p, same_all P n p ks)

append_all : {X : Type 0} (P : X → Type 0) (xs ys : List X) → AllByRecursion P xs → AllByRecursion P ys → AllByRecursion P (xs ++ ys)
append_all P [] ys h k = k
append_all P (x ∷ xs) ys h k = (h.0, append_all P xs ys h.1 k)

-- the names of the relations that are read
names_split : (rs : List RelationTexts) (rest t : ConfigTexts) (n : List ℕ) → record { namespaces = n ∷ rest.namespaces; relations = rs ++ rest.relations } ≡ t → map name_of t.relations ≡ map name_of rs ++ map name_of rest.relations
names_split rs rest t n same = ap (λ c. map name_of c.relations) (sym same) ∙ map-append name_of rs rest.relations

-- what holds of each namespace holds of each relation's
homes_all : (P : List ℕ → Type 0) (ms : Members) (t : ConfigTexts) → namespaces_read ms ≡ Some t → AllByRecursion P (keys_in ms) → AllByRecursion (λ r. P r.namespace) (map name_of t.relations)
homes_all P no_members t e h = subst (λ c. AllByRecursion (λ r. P r.namespace) (map name_of c.relations)) (same_Some _ _ e) tt
homes_all P (member n d ms) t e h = with_some n (option_and_then (relations_read n) (as_object d)) (namespaces_read ms) t e (λ rs rest p q same.
    option_and_then_some (relations_read n) (as_object d) rs p (λ os is read.
    rw (names_split rs rest t n same, relations_named n os rs read)
    (append_all (λ r. P r.namespace) (map (of_namespace n) (keys_in os)) (map name_of rest.relations) (same_all P n h.0 (keys_in os)) (homes_all P ms rest q h.1))))

then_same : (n : List ℕ) (o : Ordering) → ordering_then (name_cmp n n) o ≡ o
then_same n o = ap (λ x. ordering_then x o) (tied_itself nat_list_cmp_total n)

above_same : (n k : List ℕ) (ks : List (List ℕ)) → AllByRecursion (λ y. name_cmp k y ≡ Less) ks → AllByRecursion (λ r. relation_cmp (of_namespace n k) r ≡ Less) (map (of_namespace n) ks)
above_same n k [] h = tt
above_same n k (l ∷ ks) h = (then_same n (name_cmp k l) ∙ h.0, above_same n k ks h.1)

-- those of one namespace
same_sorted : (n : List ℕ) (ks : List (List ℕ)) → IsStrictlySortedBy name_cmp ks → IsStrictlySortedBy relation_cmp (map (of_namespace n) ks)
unfolding IsStrictlySortedBy
same_sorted n [] h = tt
same_sorted n (k ∷ ks) h = (above_same n k ks h.0, same_sorted n ks h.1)

above_later : (n k : List ℕ) (rs : List RelationName) → AllByRecursion (λ r. name_cmp n r.namespace ≡ Less) rs → AllByRecursion (λ r. relation_cmp (of_namespace n k) r ≡ Less) rs
above_later n k rs h = all_weaker (λ r. name_cmp n r.namespace ≡ Less) (λ r. relation_cmp (of_namespace n k) r ≡ Less) (λ r p. ap (λ o. ordering_then o (name_cmp k r.relation)) p) rs h

-- and then those of later namespaces
run_sorted : (n : List ℕ) (ks : List (List ℕ)) (rs : List RelationName) → IsStrictlySortedBy relation_cmp (map (of_namespace n) ks) → AllByRecursion (λ r. name_cmp n r.namespace ≡ Less) rs
    → IsStrictlySortedBy relation_cmp rs → IsStrictlySortedBy relation_cmp (map (of_namespace n) ks ++ rs)
unfolding IsStrictlySortedBy
run_sorted n [] rs h above later = later
run_sorted n (k ∷ ks) rs h above later = (append_all (λ r. relation_cmp (of_namespace n k) r ≡ Less) (map (of_namespace n) ks) rs h.0 (above_later n k rs above), run_sorted n ks rs h.1 above later)

members_ordered : (d : Data) (ms : Members) → as_object d ≡ Some ms → IsInOrder d → AreInOrder ms
members_ordered null ms e h = absurd (none-some ms e)
members_ordered (boolean b) ms e h = absurd (none-some ms e)
members_ordered (number n) ms e h = absurd (none-some ms e)
members_ordered (string s) ms e h = absurd (none-some ms e)
members_ordered (array ds) ms e h = absurd (none-some ms e)
members_ordered (object os) ms e h = subst AreInOrder (same_Some _ _ e) h

relations_sorted : (ms : Members) (t : ConfigTexts) → namespaces_read ms ≡ Some t → AreInOrder ms → HaveOrder ms → IsStrictlySortedBy relation_cmp (map name_of t.relations)
unfolding IsStrictlySortedBy
relations_sorted no_members t e h kept = subst (λ c. IsStrictlySortedBy relation_cmp (map name_of c.relations)) (same_Some _ _ e) tt
relations_sorted (member n d ms) t e h kept = with_some n (option_and_then (relations_read n) (as_object d)) (namespaces_read ms) t e (λ rs rest p q same.
    option_and_then_some (relations_read n) (as_object d) rs p (λ os is read.
    let here = same_sorted n (keys_in os) (members_ordered d os is kept.0) in
    let above = homes_all (λ k. name_cmp n k ≡ Less) ms rest q h.0 in
    rw (names_split rs rest t n same, relations_named n os rs read)
    (run_sorted n (keys_in os) (map name_of rest.relations) here above (relations_sorted ms rest q h.1 kept.1))))

get_or_same : {X : Type 0} (xs : List X) (k : ℕ) (d e : X) → k < length xs → get_or xs k d ≡ get_or xs k e
get_or_same [] k d e lt = absurd (omega arith)
get_or_same (x ∷ xs) zero d e lt = refl
get_or_same (x ∷ xs) (suc k) d e lt = get_or_same xs k d e (omega arith)

all_self : {X : Type 0} (xs : List X) → All (λ x. Contains xs x) xs
all_self xs k d lt = (k, lt, get_or_same xs k (get_or xs k d) d lt)

pub texts_ordered : (ms : Members) (t : ConfigTexts) → namespaces_read ms ≡ Some t → AreInOrder ms → HaveOrder ms → AreOrdered t
texts_ordered ms t read h kept =
    let homes = homes_all (λ n. Contains (keys_in ms) n) ms t read (recursion_from_All (λ n. Contains (keys_in ms) n) (keys_in ms) (all_self (keys_in ms))) in
    record {
      namespaces = rw (namespaces_named ms t read) h;
      relations = relations_sorted ms t read h kept;
      homes = rw (namespaces_named ms t read) (All-from_recursion (λ r. Contains (keys_in ms) r.namespace) (map name_of t.relations) homes);
    }
