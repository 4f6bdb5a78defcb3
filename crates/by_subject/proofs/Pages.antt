-- The tuples that a read by subject finds are those that the read of a view gives.
use Rattle.std.proofs.Common.{◌≡◌, ℕ, List, [], ◌∷◌, take, refl, ap, sym, subst, ◌∙◌, Bool, true, false, true≢false}
use Rattle.std.specs.Prelude.{◌&&◌, ◌↔◌, T, nat_eq, Contains, Option, Some, None, filter, map}
use Rattle.std.specs.Cmp.Lexicographic.{pointwise, slice_cmp, texts_ties}
use Rattle.std.specs.Cmp.{IsEquivalence, eq_by_cmp_equiv, both_tied}
use Rattle.std.specs.List.{AllByRecursion, dedup}
use Rattle.std.specs.List.Sorted.{IsSorted, IsStrictlySortedBy, IsPermutation}
use Rattle.std.specs.Option.{option_eq, option_cmp}
use Rattle.std.specs.Ordering.{eq_by_cmp, is_lt, nat_cmp}
use Rattle.std.specs.declared.cmp.Ordering.{Ordering}
use Rattle.std.specs.declared.cmp.Ordering.TheVariants.{Less, Equal, Greater}
use Rattle.std.specs.FinMap as finite
use Rattle.std.specs.FinMap.Entries.{is_sorted, below_all}
use Rattle.std.proofs.lemmas.Bool.{and_parts, and_from}
use Rattle.std.proofs.lemmas.List.Kept.{IsStrictlySortedBy-filter, IsStrictlySortedBy-dedup, Contains-dedup, Contains-from_dedup}
use Rattle.std.proofs.lemmas.List.Sorted.{Contains-permutation, IsPermutation-sym}
use Rattle.std.proofs.lemmas.Map.Views.{tells_apart}
use Rattle.names.specs.Order.{object_cmp, node_cmp, subject_cmp, tuple_cmp}
use Rattle.names.specs.declared.object.Object.{Object}
use Rattle.names.specs.declared.node.Node.{Node}
use Rattle.names.specs.declared.subject.Subject.{Subject}
use Rattle.names.specs.declared.tuple.Tuple.{Tuple}
use Rattle.meaning.specs.TupleSet as set
use Rattle.meaning.specs.TupleSet.{Tuples}
use Rattle.meaning.proofs.Lists.{contains_map, contains_map_back}
use Rattle.meaning.proofs.TupleSets.{contains_iff, items_contain, items_from_list, same_tuples, tuples_total, subjects_total, exact_subjects, exact_tuples}
use Rattle.rows.specs.declared.tupleset.Tupleset.{Tupleset}
use Rattle.rows.specs.Tuplesets.{has_text, has_subject, is_after, matches, page}
use Rattle.rows.proofs.Naming.{contains_kept, kept_contains}
use Rattle.by_subject.specs.Turned.{turned}
use Rattle.by_subject.specs.Complete.{Covers}
use Rattle.by_subject.specs.inside.Standing.{tuple_with, is_asked, stands}

-- ---- the parts that are asked for

-- where the subject passes, what is asked but for it is all that is asked
but_for_subject : (n o r s a : Bool) → s ≡ true → ((n && (o && (r && s))) && a) ≡ (n && (o && (r && a)))
but_for_subject true true true true a h = refl
but_for_subject true true false true a h = refl
but_for_subject true false r true a h = refl
but_for_subject false o r true a h = refl
but_for_subject n o r false a h = absurd (true≢false (sym h))

-- the part is the one that is asked for
pub has_it : (asked : Option (List ℕ)) (one text : List ℕ) (answer : Bool) → asked ≡ Some one → answer ≡ pointwise nat_eq text one → answer ≡ has_text asked text
has_it asked one text answer is says = says ∙ texts_ties text one ∙ sym (ap (λ (o : Option (List ℕ)). has_text o text) is)

-- ---- the equality of tuples, as `derive` gives it, is that of their order

objects_tie : (a b : Object) → (pointwise nat_eq a.namespace b.namespace && pointwise nat_eq a.id b.id) ≡ eq_by_cmp object_cmp a b
objects_tie a b =
    both_tied (pointwise nat_eq a.namespace b.namespace) (pointwise nat_eq a.id b.id) (slice_cmp nat_cmp a.namespace b.namespace) (slice_cmp nat_cmp a.id b.id)
    (texts_ties a.namespace b.namespace) (texts_ties a.id b.id)

names_tie : (a b : Option (List ℕ)) → option_eq (pointwise nat_eq) a b ≡ eq_by_cmp (option_cmp (slice_cmp nat_cmp)) a b
names_tie None None = refl
names_tie None (Some b) = refl
names_tie (Some a) None = refl
names_tie (Some a) (Some b) = texts_ties a b

nodes_tie : (a b : Node) → ((pointwise nat_eq a.object.namespace b.object.namespace && pointwise nat_eq a.object.id b.object.id) && pointwise nat_eq a.relation b.relation) ≡ eq_by_cmp node_cmp a b
nodes_tie a b =
    both_tied (pointwise nat_eq a.object.namespace b.object.namespace && pointwise nat_eq a.object.id b.object.id) (pointwise nat_eq a.relation b.relation)
    (object_cmp a.object b.object) (slice_cmp nat_cmp a.relation b.relation)
    (objects_tie a.object b.object) (texts_ties a.relation b.relation)

subjects_tie : (a b : Subject) → ((pointwise nat_eq a.object.namespace b.object.namespace && pointwise nat_eq a.object.id b.object.id) && option_eq (pointwise nat_eq) a.relation b.relation) ≡ eq_by_cmp subject_cmp a b
subjects_tie a b =
    both_tied (pointwise nat_eq a.object.namespace b.object.namespace && pointwise nat_eq a.object.id b.object.id) (option_eq (pointwise nat_eq) a.relation b.relation)
    (object_cmp a.object b.object) (option_cmp (slice_cmp nat_cmp) a.relation b.relation)
    (objects_tie a.object b.object) (names_tie a.relation b.relation)

abbrev same_parts : Tuple → Tuple → Bool
same_parts x y =
    ((pointwise nat_eq x.node.object.namespace y.node.object.namespace && pointwise nat_eq x.node.object.id y.node.object.id) && pointwise nat_eq x.node.relation y.node.relation)
    && ((pointwise nat_eq x.subject.object.namespace y.subject.object.namespace && pointwise nat_eq x.subject.object.id y.subject.object.id) && option_eq (pointwise nat_eq) x.subject.relation y.subject.relation)

pub tuples_tie : (x y : Tuple) → same_parts x y ≡ eq_by_cmp tuple_cmp x y
tuples_tie x y =
    both_tied
    ((pointwise nat_eq x.node.object.namespace y.node.object.namespace && pointwise nat_eq x.node.object.id y.node.object.id) && pointwise nat_eq x.node.relation y.node.relation)
    ((pointwise nat_eq x.subject.object.namespace y.subject.object.namespace && pointwise nat_eq x.subject.object.id y.subject.object.id) && option_eq (pointwise nat_eq) x.subject.relation y.subject.relation)
    (node_cmp x.node y.node) (subject_cmp x.subject y.subject)
    (nodes_tie x.node y.node) (subjects_tie x.subject y.subject)

-- ---- lists in order

one_answer : (a b : Bool) → (a ≡ true → b ≡ true) → (b ≡ true → a ≡ true) → a ≡ b
one_answer true b f g = sym (f refl)
one_answer false true f g = g refl
one_answer false false f g = refl

-- two lists in order with the same members are one
same_lists : (xs ys : List Tuple) → IsStrictlySortedBy tuple_cmp xs → IsStrictlySortedBy tuple_cmp ys → ((t : Tuple) → Contains xs t ↔ Contains ys t) → xs ≡ ys
same_lists xs ys sx sy same = sym (items_from_list xs sx) ∙ ap set.items (same_tuples (set.from_list xs) (set.from_list ys) answers) ∙ items_from_list ys sy
  where
    goes : (us vs : List Tuple) (q : Tuple) → (Contains us q → Contains vs q) → set.contains (set.from_list us) q ≡ true → set.contains (set.from_list vs) q ≡ true
    goes us vs q over has = (contains_iff (set.from_list vs) q).1 ((items_contain vs q).1 (over ((items_contain us q).0 ((contains_iff (set.from_list us) q).0 has))))

    answers : (q : Tuple) → set.contains (set.from_list xs) q ≡ set.contains (set.from_list ys) q
    answers q = one_answer (set.contains (set.from_list xs) q) (set.contains (set.from_list ys) q) (goes xs ys q (same q).0) (goes ys xs q (same q).1)

less_is : (o : Ordering) → T (is_lt o) → o ≡ Less
less_is Less h = refl
less_is Equal h = absurd h
less_is Greater h = absurd h

both_left : (a b : Bool) → T (a && b) → T a
both_left true b h = tt
both_left false b h = h

both_right : (a b : Bool) → T (a && b) → T b
both_right true b h = h
both_right false b h = absurd h

below_keys : (t : Tuple) (es : List (Tuple × Unit {0})) → T (below_all tuple_cmp t es) → AllByRecursion (λ y. tuple_cmp t y ≡ Less) (map (λ e. e.0) es)
below_keys t [] h = tt
below_keys t (e ∷ es) h = (less_is (tuple_cmp t e.0) (both_left (is_lt (tuple_cmp t e.0)) (below_all tuple_cmp t es) h), below_keys t es (both_right (is_lt (tuple_cmp t e.0)) (below_all tuple_cmp t es) h))

sorted_keys : (es : List (Tuple × Unit {0})) → T (is_sorted tuple_cmp es) → IsStrictlySortedBy tuple_cmp (map (λ e. e.0) es)
unfolding IsStrictlySortedBy
sorted_keys [] h = tt
sorted_keys (e ∷ es) h = (below_keys e.0 es (both_left (below_all tuple_cmp e.0 es) (is_sorted tuple_cmp es) h), sorted_keys es (both_right (below_all tuple_cmp e.0 es) (is_sorted tuple_cmp es) h))

sorted_items : (s : Tuples) → IsStrictlySortedBy tuple_cmp (set.items s)
sorted_items s = sorted_keys (finite.entries s) (finite.entries_sorted s)

-- ---- what is found

abbrev wanted : Tupleset → Tuple → Bool
wanted asked t = matches asked t && is_after asked.after t

asked_subject : (asked : Tupleset) (s : Subject) → asked.subject ≡ Some s → (t : Tuple) → has_subject asked.subject t.subject ≡ eq_by_cmp subject_cmp t.subject s
asked_subject asked s is t = ap (λ o. has_subject o t.subject) is

wanted_subject : (asked : Tupleset) (s : Subject) → asked.subject ≡ Some s → (t : Tuple) → wanted asked t ≡ true → t.subject ≡ s
wanted_subject asked s is t passes =
    let n = has_text (Some asked.namespace) t.node.object.namespace in
    let o = has_text asked.object t.node.object.id in
    let r = has_text asked.relation t.node.relation in
    let u = has_subject asked.subject t.subject in
    let matched : (n && (o && (r && u))) ≡ true = (and_parts (n && (o && (r && u))) (is_after asked.after t) passes).0 in
    let named : u ≡ true = (and_parts r u (and_parts o (r && u) (and_parts n (o && (r && u)) matched).1).1).1 in
    tells_apart exact_subjects t.subject s (sym (asked_subject asked s is t) ∙ named)

wanted_is : (asked : Tupleset) (s : Subject) → asked.subject ≡ Some s → (t : Tuple) → t.subject ≡ s → wanted asked t ≡ is_asked asked t
wanted_is asked s is t same =
    but_for_subject (has_text (Some asked.namespace) t.node.object.namespace) (has_text asked.object t.node.object.id) (has_text asked.relation t.node.relation)
    (has_subject asked.subject t.subject) (is_after asked.after t)
    (asked_subject asked s is t ∙ ap (λ (u : Subject). eq_by_cmp subject_cmp u s) same ∙ (eq_by_cmp_equiv subjects_total).refl s)

module _ (asked : Tupleset) (s : Subject) (is : asked.subject ≡ Some s) (found tuples : Tuples) (covers : Covers found tuples)
    (nodes : List Node) (named : (n : Node) → Contains nodes n ↔ (set.contains found (turned (tuple_with s n)) ≡ true))
  where
    only : (t : Tuple) → Contains (filter (stands asked tuples) (map (tuple_with s) nodes)) t → Contains (filter (wanted asked) (set.items tuples)) t
    only t c =
        let k = contains_kept (stands asked tuples) (map (tuple_with s) nodes) t c in
        let both = and_parts (is_asked asked t) (set.contains tuples t) k.1 in
        let back = contains_map_back (tuple_with s) nodes t k.0 in
        let same : t.subject ≡ s = sym (ap (λ (u : Tuple). u.subject) back.2) in
        kept_contains (wanted asked) (set.items tuples) t
        ((contains_iff tuples t).0 both.1)
        (wanted_is asked s is t same ∙ both.0)

    all : (t : Tuple) → Contains (filter (wanted asked) (set.items tuples)) t → Contains (filter (stands asked tuples) (map (tuple_with s) nodes)) t
    all t c =
        let k = contains_kept (wanted asked) (set.items tuples) t c in
        let has = (contains_iff tuples t).1 k.0 in
        let same : t.subject ≡ s = wanted_subject asked s is t k.1 in
        let one : tuple_with s t.node ≡ t = ap (λ (u : Subject). record { node = t.node; subject = u }) (sym same) in
        let at : Contains nodes t.node = (named t.node).1 (ap (λ (u : Tuple). set.contains found (turned u)) one ∙ covers t has) in
        kept_contains (stands asked tuples) (map (tuple_with s) nodes) t
        (subst (Contains (map (tuple_with s) nodes)) one (contains_map (tuple_with s) nodes t.node at))
        (and_from (is_asked asked t) (set.contains tuples t) (sym (wanted_is asked s is t same) ∙ k.1) has)

    -- sorted, without repeats and cut off, they are the page
    pub page_by_subject : (E : Tuple → Tuple → Bool) → ((x y : Tuple) → E x y ≡ eq_by_cmp tuple_cmp x y)
        → (first sorted kept last : List Tuple) → first ≡ filter (stands asked tuples) (map (tuple_with s) nodes) → IsPermutation first sorted → IsSorted tuple_cmp sorted → kept ≡ dedup E sorted → last ≡ take asked.limit kept
        → last ≡ page asked tuples
    page_by_subject E ties first sorted kept last is_first moved order is_kept is_last = is_last ∙ ap (take asked.limit) (is_kept ∙ whole)
      where
        tells : (x y : Tuple) → E x y ≡ true → x ≡ y
        tells x y e = tells_apart exact_tuples x y (sym (ties x y) ∙ e)

        equal : IsEquivalence (eq_by_cmp tuple_cmp)
        equal = eq_by_cmp_equiv tuples_total

        equality : IsEquivalence E
        equality = record {
          refl = λ x. ties x x ∙ equal.refl x;
          symm = λ x y. ties x y ∙ equal.symm x y ∙ sym (ties y x);
          congr = λ x y z e. ties x z ∙ equal.congr x y z (sym (ties x y) ∙ e) ∙ sym (ties y z);
        }

        whole : dedup E sorted ≡ filter (wanted asked) (set.items tuples)
        whole =
            same_lists (dedup E sorted) (filter (wanted asked) (set.items tuples))
            (IsStrictlySortedBy-dedup tuples_total ties sorted order)
            (IsStrictlySortedBy-filter tuple_cmp (wanted asked) (set.items tuples) (sorted_items tuples))
            (λ t. (
              λ c. only t (subst (λ (ts : List Tuple). Contains ts t) is_first (Contains-permutation sorted first t (IsPermutation-sym first sorted moved) (Contains-from_dedup E sorted t c))),
              λ c. Contains-dedup equality tells sorted t (Contains-permutation first sorted t moved (subst (λ (ts : List Tuple). Contains ts t) (sym is_first) (all t c))),
            ))
