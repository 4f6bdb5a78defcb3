-- Going over a namespace's tuples, page by page.
use Rattle.std.proofs.Common.{◌≡◌, ℕ, zero, suc, ◌<◌, List, [], ◌∷◌, ◌++◌, length, take, drop, Bool, true, false, cond, T, refl, ap, sym, subst, ◌∙◌, arith, append_assoc}
use Rattle.std.specs.Prelude.{◌&&◌, Contains, filter, map, Option, Some, None, IsSome}
use Rattle.std.specs.FinMap as finite
use Rattle.std.specs.FinMap.{is_sorted}
use Rattle.std.specs.FinMap.Entries.{below_all}
use Rattle.std.specs.List.{AllByRecursion}
use Rattle.std.specs.List.Sorted.{IsStrictlySortedBy}
use Rattle.std.specs.Option.{option_to_list, option_map}
use Rattle.std.specs.Cmp.{eq_by_cmp_equiv}
use Rattle.std.specs.Cmp.Lexicographic.{slice_cmp, nat_list_cmp_total}
use Rattle.std.specs.Ordering.{nat_cmp, eq_by_cmp, is_lt, ordering_then, ordering_reverse}
use Rattle.std.specs.declared.cmp.Ordering.{Ordering}
use Rattle.std.specs.declared.cmp.Ordering.TheVariants.{Less, Equal, Greater}
use Rattle.std.proofs.lemmas.Bool.{and_parts, false≢true}
use Rattle.std.proofs.lemmas.Cmp.{tied_itself}
use Rattle.std.proofs.lemmas.List.{take-append-drop, length-append, map-append}
use Rattle.std.proofs.lemmas.List.Elements.{All-contains, Contains-append_right}
use Rattle.std.proofs.lemmas.List.Kept.{IsStrictlySortedBy-filter}
use Rattle.std.proofs.lemmas.Map.Keys.{sorted_tail}
use Rattle.std.proofs.lemmas.Map.Lookups.{exact_bytes}
use Rattle.std.proofs.lemmas.Map.Views.{All-after_first, tells_apart}
use Rattle.names.specs.Order.{object_cmp, node_cmp, subject_cmp, tuple_cmp}
use Rattle.names.specs.declared.object.Object.{Object}
use Rattle.names.specs.declared.tuple.Tuple.{Tuple}
use Rattle.meaning.specs.Config.{Defined, IsWhole}
use Rattle.meaning.specs.Snap.{Snap, one}
use Rattle.meaning.specs.TupleSet as set
use Rattle.meaning.specs.TupleSet.{Tuples}
use Rattle.meaning.proofs.Lists.{contains_here, contains_there, contains_map, contains_map_back}
use Rattle.meaning.proofs.TupleSets.{tuples_total}
use Rattle.rows.specs.Tuplesets.{matches, is_after, page}
use Rattle.rows.specs.declared.tupleset.Tupleset.{Tupleset}
use Rattle.rows.specs.declared.tupleset.TheConstants.{MAX_PAGE}
use Rattle.rows.proofs.Naming.{contains_kept, kept_contains}
use Rattle.rows.proofs.Paging.{filter_same, filter_both}
use Rattle.lookup.specs.declared.asked.Lookup.{Lookup}
use Rattle.lookup.specs.declared.looking.Found.{Found}
use Rattle.lookup.specs.Found.{node_of, is_later, IsFound}
use Rattle.lookup.specs.inside.Pages.{tuples_in, start_of, unread, ids_of}
use Rattle.lookup.specs.inside.Underway.{IsRising, IsUnderway}
use Rattle.lookup.proofs.Ids.{is_less}
use Rattle.lookup.proofs.Steps.{begins}
use Rattle.lookup.proofs.Known.{only_known}

-- ---- the items of a set are in order

both_left : (a b : Bool) → T (a && b) → T a
both_left true b h = tt
both_left false b h = h

both_right : (a b : Bool) → T (a && b) → T b
both_right true b h = h
both_right false b h = absurd h

less_is : (o : Ordering) → T (is_lt o) → o ≡ Less
less_is Less h = refl
less_is Equal h = absurd h
less_is Greater h = absurd h

below_keys : (t : Tuple) (es : List (Tuple × Unit {0})) → T (below_all tuple_cmp t es) → AllByRecursion (λ y. tuple_cmp t y ≡ Less) (map (λ e. e.0) es)
below_keys t [] h = tt
below_keys t (e ∷ es) h = (less_is (tuple_cmp t e.0) (both_left (is_lt (tuple_cmp t e.0)) (below_all tuple_cmp t es) h), below_keys t es (both_right (is_lt (tuple_cmp t e.0)) (below_all tuple_cmp t es) h))

sorted_keys : (es : List (Tuple × Unit {0})) → T (is_sorted tuple_cmp es) → IsStrictlySortedBy tuple_cmp (map (λ e. e.0) es)
unfolding IsStrictlySortedBy
sorted_keys [] h = tt
sorted_keys (e ∷ es) h = (below_keys e.0 es (both_left (below_all tuple_cmp e.0 es) (is_sorted tuple_cmp es) h), sorted_keys es (both_right (below_all tuple_cmp e.0 es) (is_sorted tuple_cmp es) h))

sorted_items : (s : Tuples) → IsStrictlySortedBy tuple_cmp (set.items s)
sorted_items s = sorted_keys (finite.entries s) (finite.entries_sorted s)

-- ---- the tuples that come later than one of them

passes_each : (p : Tuple → Bool) (ts : List Tuple) → ((t : Tuple) → Contains ts t → p t ≡ true) → filter p ts ≡ ts
passes_each p [] each = refl
passes_each p (t ∷ ts) each =
    ap (λ b. cond b (t ∷ filter p ts) (filter p ts)) (each t (contains_here t ts))
    ∙ ap (λ xs. t ∷ xs) (passes_each p ts (λ s c. each s (contains_there t s ts c)))

after_first : (t : Tuple) (ts : List Tuple) → IsStrictlySortedBy tuple_cmp (t ∷ ts) → (s : Tuple) → Contains ts s → tuple_cmp t s ≡ Less
after_first t ts sorted s c = All-contains (λ y. tuple_cmp t y ≡ Less) ts s (All-after_first tuple_cmp t ts sorted) c

after_last : (xs : List Tuple) (l : Tuple) (ys : List Tuple) → IsStrictlySortedBy tuple_cmp (xs ++ l ∷ ys) → filter (λ t. is_lt (tuple_cmp l t)) (xs ++ l ∷ ys) ≡ ys
after_last [] l ys sorted =
    ap (λ b. cond b (l ∷ filter (λ t. is_lt (tuple_cmp l t)) ys) (filter (λ t. is_lt (tuple_cmp l t)) ys)) (ap is_lt (tied_itself tuples_total l))
    ∙ passes_each (λ t. is_lt (tuple_cmp l t)) ys (λ s c. ap is_lt (after_first l ys sorted s c))
after_last (x ∷ xs) l ys sorted =
    let before : is_lt (tuple_cmp l x) ≡ false = ap is_lt (tuples_total.antisymm l x ∙ ap ordering_reverse (after_first x (xs ++ l ∷ ys) sorted l (Contains-append_right xs (l ∷ ys) l (contains_here l ys)))) in
    ap (λ b. cond b (x ∷ filter (λ t. is_lt (tuple_cmp l t)) (xs ++ l ∷ ys)) (filter (λ t. is_lt (tuple_cmp l t)) (xs ++ l ∷ ys))) before
    ∙ after_last xs l ys (sorted_tail tuple_cmp x (xs ++ l ∷ ys) sorted)

-- what comes later than a later one comes later than an earlier one
later : (after : Option Tuple) (l t : Tuple) → is_after after l ≡ true → is_after (Some l) t ≡ true → is_after after t ≡ true
later None l t h k = refl
later (Some a) l t h k = ap is_lt (tuples_total.trans a l t (is_less (tuple_cmp a l) h) (is_less (tuple_cmp l t) k))

weaker : (m a b : Bool) → (b ≡ true → a ≡ true) → ((m && a) && b) ≡ (m && b)
weaker true true b h = refl
weaker true false true h = absurd (false≢true (h refl))
weaker true false false h = refl
weaker false a b h = refl

-- what was not read is a page and what comes later than its last tuple
after_page : (m : Tuple → Bool) (after : Option Tuple) (ts : List Tuple) → IsStrictlySortedBy tuple_cmp ts
    → (xs : List Tuple) (l : Tuple) (ys : List Tuple) → filter (λ t. m t && is_after after t) ts ≡ xs ++ l ∷ ys
    → filter (λ t. m t && is_after (Some l) t) ts ≡ ys
after_page m after ts sorted xs l ys is =
    let test : Tuple → Bool = λ t. m t && is_after after t in
    let there : Contains (filter test ts) l = subst (λ (zs : List Tuple). Contains zs l) (sym is) (Contains-append_right xs (l ∷ ys) l (contains_here l ys)) in
    let passes = (and_parts (m l) (is_after after l) (contains_kept test ts l there).1).1 in
    sym (filter_both (λ t. is_lt (tuple_cmp l t)) test ts
    ∙ filter_same (λ t. test t && is_lt (tuple_cmp l t)) (λ t. m t && is_after (Some l) t) (λ t. weaker (m t) (is_after after t) (is_lt (tuple_cmp l t)) (later after l t passes)) ts)
    ∙ ap (filter (λ t. is_lt (tuple_cmp l t))) is
    ∙ after_last xs l ys (subst (IsStrictlySortedBy tuple_cmp) is (IsStrictlySortedBy-filter tuple_cmp test ts sorted))

-- ---- tuples of one namespace

-- the tuple of an object with a lesser id comes before
by_id : (s t : Tuple) → s.node.object.namespace ≡ t.node.object.namespace → slice_cmp nat_cmp s.node.object.id t.node.object.id ≡ Less → tuple_cmp s t ≡ Less
by_id s t same less =
    let namespace : slice_cmp nat_cmp s.node.object.namespace t.node.object.namespace ≡ Equal =
    ap (slice_cmp nat_cmp s.node.object.namespace) (sym same) ∙ tied_itself nat_list_cmp_total s.node.object.namespace in
    let object : object_cmp s.node.object t.node.object ≡ Less = ap (λ o. ordering_then o (slice_cmp nat_cmp s.node.object.id t.node.object.id)) namespace ∙ less in
    let node : node_cmp s.node t.node ≡ Less = ap (λ o. ordering_then o (slice_cmp nat_cmp s.node.relation t.node.relation)) object in
    ap (λ o. ordering_then o (subject_cmp s.subject t.subject)) node

never_both : (s t : Tuple) → tuple_cmp s t ≡ Less → tuple_cmp t s ≡ Less → ⊥
never_both s t e f = unlike (sym (tuples_total.trans s t s e f) ∙ tied_itself tuples_total s)
  where
    unlike : Less ≡ Equal → ⊥
    unlike e = cc

ids_rising : (namespace : List ℕ) (ts : List Tuple) → ((t : Tuple) → Contains ts t → t.node.object.namespace ≡ namespace) → IsStrictlySortedBy tuple_cmp ts → IsRising (ids_of ts)
ids_rising namespace [] within sorted = tt
ids_rising namespace (t ∷ ts) within sorted = (
  λ j c less.
      let (s, there, is) = contains_map_back (λ (x : Tuple). x.node.object.id) ts j c in
      never_both t s (after_first t ts sorted s there)
      (by_id s t (within s (contains_there t s ts there) ∙ sym (within t (contains_here t ts))) (subst (λ (i : List ℕ). slice_cmp nat_cmp i t.node.object.id ≡ Less) (sym is) less)),
  ids_rising namespace ts (λ s c. within s (contains_there t s ts c)) (sorted_tail tuple_cmp t ts sorted),
)

module _ (namespace : List ℕ) (after : Option Tuple) (tuples : Tuples) where
  abbrev wanted : Tuple → Bool
  wanted t = matches (tuples_in namespace after) t && is_after after t

  in_namespace : (t : Tuple) → Contains (unread (tuples_in namespace after) tuples) t → t.node.object.namespace ≡ namespace
  in_namespace t c =
      let matched = (and_parts (matches (tuples_in namespace after) t) (is_after after t) (contains_kept wanted (set.items tuples) t c).1).0 in
      tells_apart exact_bytes t.node.object.namespace namespace (and_parts (eq_by_cmp (slice_cmp nat_cmp) t.node.object.namespace namespace) true matched).0

  unread_rising : IsRising (ids_of (unread (tuples_in namespace after) tuples))
  unread_rising = ids_rising namespace (unread (tuples_in namespace after) tuples) in_namespace (IsStrictlySortedBy-filter tuple_cmp wanted (set.items tuples) (sorted_items tuples))

  unread_has : (t : Tuple) → Contains (set.items tuples) t → t.node.object.namespace ≡ namespace → is_after after t ≡ true → Contains (unread (tuples_in namespace after) tuples) t
  unread_has t c same later =
      let matched : eq_by_cmp (slice_cmp nat_cmp) t.node.object.namespace namespace ≡ true = subst (λ (n : List ℕ). eq_by_cmp (slice_cmp nat_cmp) t.node.object.namespace n ≡ true) same ((eq_by_cmp_equiv nat_list_cmp_total).refl t.node.object.namespace) in
      kept_contains wanted (set.items tuples) t c (both (eq_by_cmp (slice_cmp nat_cmp) t.node.object.namespace namespace) (is_after after t) matched later)
    where
      both : (a b : Bool) → a ≡ true → b ≡ true → ((a && true) && b) ≡ true
      both true true x y = refl
      both true false x y = y
      both false b x y = x

-- ---- the first page

-- what is of a later object comes later than the tuple that is begun with
start_passes : (asked : Lookup) (after : Option (List ℕ)) (t : Tuple) → t.node.object.namespace ≡ asked.relation.namespace → is_later after t.node.object.id ≡ true
    → is_after (option_map (λ id. record { node = node_of asked.relation id; subject = one asked.user }) after) t ≡ true
start_passes asked None t same later = refl
start_passes asked (Some id) t same later = ap is_lt (by_id (record { node = node_of asked.relation id; subject = one asked.user }) t (sym same) (is_less (slice_cmp nat_cmp id t.node.object.id) later))

pub starts : (S : Snap) (asked : Lookup) (found : Found) (tupleset : Tupleset) → ((d : Defined) → Contains S.config.relations d → IsWhole d.form)
    → found.ids.items ≡ [] → found.last ≡ asked.after → tupleset ≡ tuples_in asked.relation.namespace (start_of asked) → IsUnderway S asked found (ids_of (unread tupleset S.tuples))
starts S asked found tupleset whole none last is =
    subst (λ (q : Tupleset). IsUnderway S asked found (ids_of (unread q S.tuples))) (sym is)
    (begins S asked found (ids_of (unread (tuples_in asked.relation.namespace (start_of asked)) S.tuples)) (unread_rising asked.relation.namespace (start_of asked) S.tuples) of_tuple none last)
  where
    of_tuple : (id : List ℕ) → IsFound S asked id → Contains (ids_of (unread (tuples_in asked.relation.namespace (start_of asked)) S.tuples)) id
    of_tuple id f =
        let (t, c, is) = only_known S asked.user (node_of asked.relation id) whole f.0 in
        let same_id : t.node.object.id ≡ id = ap (λ (o : Object). o.id) is in
        let same : t.node.object.namespace ≡ asked.relation.namespace = ap (λ (o : Object). o.namespace) is in
        let later : is_later asked.after t.node.object.id ≡ true = ap (is_later asked.after) same_id ∙ f.1 in
        let there = unread_has asked.relation.namespace (start_of asked) S.tuples t c same (start_passes asked asked.after t same later) in
        subst (Contains (ids_of (unread (tuples_in asked.relation.namespace (start_of asked)) S.tuples))) same_id
        (contains_map (λ (x : Tuple). x.node.object.id) (unread (tuples_in asked.relation.namespace (start_of asked)) S.tuples) t there)

-- ---- page after page

pub asks_first : (namespace : List ℕ) (after : Option Tuple) (tupleset : Tupleset) → tupleset ≡ tuples_in namespace after → tupleset ≡ tuples_in namespace tupleset.after
asks_first namespace after tupleset is = is ∙ ap (λ (q : Tupleset). tuples_in namespace q.after) (sym is)

abbrev pub with_after : Tupleset → Option Tuple → Tupleset
with_after tupleset after = record tupleset { after = after }

-- the tuples after a page
abbrev pub rest_of : Tupleset → Tuples → List Tuple
rest_of tupleset tuples = drop tupleset.limit (unread tupleset tuples)

module _ (tuples : Tuples) (namespace : List ℕ) (tupleset : Tupleset) (asks : tupleset ≡ tuples_in namespace tupleset.after) (got : List Tuple) (gives : got ≡ page tupleset tuples) where
  abbrev rest : List Tuple
  rest = rest_of tupleset tuples

  all_of : got ++ rest ≡ unread tupleset tuples
  all_of = ap (λ (ts : List Tuple). ts ++ rest) gives ∙ take-append-drop tupleset.limit (unread tupleset tuples)

  pub splits : ids_of (unread tupleset tuples) ≡ ids_of got ++ ids_of rest
  splits = ap ids_of (sym all_of) ∙ map-append (λ (t : Tuple). t.node.object.id) got rest

  -- a page that is not full is the last
  pub last_page : length got < MAX_PAGE → ids_of rest ≡ []
  last_page few =
      let most : tupleset.limit ≡ MAX_PAGE = ap (λ (q : Tupleset). q.limit) asks in
      ap ids_of (none_left tupleset.limit (unread tupleset tuples) (subst (λ (ts : List Tuple). length ts < tupleset.limit) gives (subst (λ (k : ℕ). length got < k) (sym most) few)))
    where
      none_left : (k : ℕ) (xs : List Tuple) → length (take k xs) < k → drop k xs ≡ []
      none_left zero xs h = absurd (omega (arith, h))
      none_left (suc k) [] h = refl
      none_left (suc k) (x ∷ xs) h = none_left k xs (omega (arith, h))

  module _ (before : List Tuple) (last : Tuple) (pops : got ≡ before ++ last ∷ []) where
    left_is : unread (with_after tupleset (Some last)) tuples ≡ rest
    left_is =
        after_page (matches tupleset) tupleset.after (set.items tuples) (sorted_items tuples) before last rest
        (sym all_of ∙ ap (λ (ts : List Tuple). ts ++ rest) pops ∙ append_assoc before (last ∷ []) rest)

    left_fewer : length (unread (with_after tupleset (Some last)) tuples) < length (unread tupleset tuples)
    left_fewer =
        let all = ap length all_of in
        let sum = length-append got rest in
        let some = ap length pops ∙ length-append before (last ∷ []) in
        let left = ap length left_is in
        omega (arith, all, sum, some, left)

  -- where a page is not empty, one reads on after its last tuple
  pub goes_on : (last : Option Tuple) → IsSome last → (before : List Tuple) → got ≡ before ++ option_to_list last → unread (with_after tupleset last) tuples ≡ rest
  goes_on None some before pops = absurd (false≢true some)
  goes_on (Some last) some before pops = left_is before last pops

  -- and fewer tuples are left than before
  pub fewer : (last : Option Tuple) → IsSome last → (before : List Tuple) → got ≡ before ++ option_to_list last → length (unread (with_after tupleset last) tuples) < length (unread tupleset tuples)
  fewer None some before pops = absurd (false≢true some)
  fewer (Some last) some before pops = left_fewer before last pops

  pub asks_on : (last : Option Tuple) → with_after tupleset last ≡ tuples_in namespace last
  asks_on last = ap (λ (q : Tupleset). with_after q last) asks

-- after a page what is left are the tuples after it
pub page_done : (S : Snap) (asked : Lookup) (old now : Found) (tupleset : Tupleset) → tupleset ≡ tuples_in asked.relation.namespace tupleset.after → (got looked : List Tuple) → got ≡ page tupleset S.tuples → looked ≡ got
    → IsUnderway S asked old (ids_of (unread tupleset S.tuples)) → ((left : List (List ℕ)) → IsUnderway S asked old (ids_of looked ++ left) → IsUnderway S asked now left) → IsUnderway S asked now (ids_of (rest_of tupleset S.tuples))
page_done S asked old now tupleset asks got looked gives same is goes =
    goes (ids_of (rest_of tupleset S.tuples))
    (subst (λ (ids : List (List ℕ)). IsUnderway S asked old ids)
    (splits S.tuples asked.relation.namespace tupleset asks got gives ∙ ap (λ (ts : List Tuple). ids_of ts ++ ids_of (rest_of tupleset S.tuples)) (sym same))
    is)
