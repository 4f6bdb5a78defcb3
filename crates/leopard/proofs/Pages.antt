-- Reading the tuples of a relation that name a user, page by page.
use Rattle.std.proofs.Common.{◌≡◌, ℕ, zero, suc, ◌<◌, List, [], ◌∷◌, ◌++◌, length, take, drop, Bool, true, false, cond, T, refl, ap, ap₂, sym, subst, ◌∙◌, inl, inr, ⊎_elim, arith, append_assoc}
use Rattle.std.specs.Prelude.{◌↔◌, ◌⊎◌, ◌&&◌, Any, Contains, filter, map, Option, Some, None, IsSome}
use Rattle.std.specs.FinMap as finite
use Rattle.std.specs.FinMap.{is_sorted}
use Rattle.std.specs.FinMap.Entries.{below_all}
use Rattle.std.specs.List.{AllByRecursion}
use Rattle.std.specs.List.Sorted.{IsStrictlySortedBy}
use Rattle.std.specs.Option.{option_to_list}
use Rattle.std.specs.Cmp.{eq_by_cmp_equiv}
use Rattle.std.specs.Cmp.Lexicographic.{slice_cmp, nat_list_cmp_total}
use Rattle.std.specs.Ordering.{nat_cmp, eq_by_cmp, is_lt, ordering_reverse}
use Rattle.std.specs.declared.cmp.Ordering.{Ordering}
use Rattle.std.specs.declared.cmp.Ordering.TheVariants.{Less, Equal, Greater}
use Rattle.std.proofs.lemmas.Bool.{and_parts, false≢true}
use Rattle.std.proofs.lemmas.Cmp.{tied_itself}
use Rattle.std.proofs.lemmas.List.{take-append-drop, length-append}
use Rattle.std.proofs.lemmas.List.Elements.{Contains-append_left, Contains-append_right, Contains-append_cases}
use Rattle.std.proofs.lemmas.List.Kept.{IsStrictlySortedBy-filter}
use Rattle.std.proofs.lemmas.Map.Lookups.{exact_bytes}
use Rattle.std.proofs.lemmas.Map.Views.{tells_apart}
use Rattle.names.specs.Order.{subject_cmp, tuple_cmp}
use Rattle.names.specs.declared.object.Object.{Object}
use Rattle.names.specs.declared.node.Node.{Node}
use Rattle.names.specs.declared.relation.RelationName.{RelationName}
use Rattle.names.specs.declared.tuple.Tuple.{Tuple}
use Rattle.meaning.specs.Config.{rel_of}
use Rattle.meaning.specs.Snap.{Snap, one}
use Rattle.meaning.specs.TupleSet as set
use Rattle.meaning.specs.TupleSet.{Tuples}
use Rattle.meaning.proofs.TupleSets.{tuples_total, subjects_total, exact_subjects}
use Rattle.rows.specs.Tuplesets.{matches, is_after, page}
use Rattle.rows.specs.declared.tupleset.Tupleset.{Tupleset}
use Rattle.rows.specs.declared.tupleset.TheConstants.{MAX_PAGE}
use Rattle.rows.proofs.Naming.{contains_kept, kept_contains}
use Rattle.rows.proofs.Paging.{filter_same, filter_both}
use Rattle.leopard.specs.inside.Asking.{Gains}
use Rattle.leopard.specs.inside.Direct.{Names, sought, unread}
use Rattle.leopard.proofs.Gather.{any_contains}

-- ---- what some item of two lists has

module _ {A : Type 0} (P : A → Type 0) (xs ys : List A) where
  any_before : Any P xs → Any P (xs ++ ys)
  any_before (k, x, lt, e, p) = any_contains P (xs ++ ys) x (Contains-append_left xs ys x (k, lt, e)) p

  any_after : Any P ys → Any P (xs ++ ys)
  any_after (k, x, lt, e, p) = any_contains P (xs ++ ys) x (Contains-append_right xs ys x (k, lt, e)) p

  any_either : Any P (xs ++ ys) → Any P xs ⊎ Any P ys
  any_either (k, x, lt, e, p) = ⊎_elim
      (λ h. inl (any_contains P xs x h p))
      (λ h. inr (any_contains P ys x h p))
      (Contains-append_cases xs ys x (k, lt, e))

-- ---- the items of a set are in order

less_is : (o : Ordering) → T (is_lt o) → o ≡ Less
less_is Less h = refl
less_is Equal h = absurd h
less_is Greater h = absurd h

both_left : (a b : Bool) → T (a && b) → T a
both_left true b h = tt
both_left false b h = h

both_right : (a b : Bool) → T (a && b) → T b
both_right true b h = h
both_right false b h = absurd h

below_keys : (t : Tuple) (es : List (Tuple × Unit {0})) → T (below_all tuple_cmp t es) → AllByRecursion (λ y. tuple_cmp t y ≡ Less) (map (λ e. e.0) es)
below_keys t [] h = tt
below_keys t (e ∷ es) h = (less_is (tuple_cmp t e.0) (both_left (is_lt (tuple_cmp t e.0)) (below_all tuple_cmp t es) h), below_keys t es (both_right (is_lt (tuple_cmp t e.0)) (below_all tuple_cmp t es) h))

sorted_keys : (es : List (Tuple × Unit {0})) → T (is_sorted tuple_cmp es) → IsStrictlySortedBy tuple_cmp (map (λ e. e.0) es)
unfolding IsStrictlySortedBy
sorted_keys [] h = tt
sorted_keys (e ∷ es) h = (below_keys e.0 es (both_left (below_all tuple_cmp e.0 es) (is_sorted tuple_cmp es) h), sorted_keys es (both_right (below_all tuple_cmp e.0 es) (is_sorted tuple_cmp es) h))

pub sorted_items : (s : Tuples) → IsStrictlySortedBy tuple_cmp (set.items s)
sorted_items s = sorted_keys (finite.entries s) (finite.entries_sorted s)

-- ---- what comes after one of them

all_above : (l : Tuple) (ys : List Tuple) → AllByRecursion (λ y. tuple_cmp l y ≡ Less) ys → filter (λ t. is_lt (tuple_cmp l t)) ys ≡ ys
all_above l [] h = refl
all_above l (y ∷ ys) h =
    ap (λ b. cond b (y ∷ filter (λ t. is_lt (tuple_cmp l t)) ys) (filter (λ t. is_lt (tuple_cmp l t)) ys)) (ap is_lt h.0)
    ∙ ap (λ zs. y ∷ zs) (all_above l ys h.1)

at_place : (P : Tuple → Type 0) (xs : List Tuple) (l : Tuple) (ys : List Tuple) → AllByRecursion P (xs ++ l ∷ ys) → P l
at_place P [] l ys h = h.0
at_place P (x ∷ xs) l ys h = at_place P xs l ys h.1

not_above : (x l : Tuple) → tuple_cmp x l ≡ Less → is_lt (tuple_cmp l x) ≡ false
not_above x l h = ap is_lt (tuples_total.antisymm l x ∙ ap ordering_reverse h)

after_last : (xs : List Tuple) (l : Tuple) (ys : List Tuple) → IsStrictlySortedBy tuple_cmp (xs ++ l ∷ ys) → filter (λ t. is_lt (tuple_cmp l t)) (xs ++ l ∷ ys) ≡ ys
unfolding IsStrictlySortedBy
after_last [] l ys h =
    ap (λ b. cond b (l ∷ filter (λ t. is_lt (tuple_cmp l t)) ys) (filter (λ t. is_lt (tuple_cmp l t)) ys)) (ap is_lt (tied_itself tuples_total l))
    ∙ all_above l ys h.0
after_last (x ∷ xs) l ys h =
    ap (λ b. cond b (x ∷ filter (λ t. is_lt (tuple_cmp l t)) (xs ++ l ∷ ys)) (filter (λ t. is_lt (tuple_cmp l t)) (xs ++ l ∷ ys)))
    (not_above x l (at_place (λ y. tuple_cmp x y ≡ Less) xs l ys h.0))
    ∙ after_last xs l ys h.1

is_less : (o : Ordering) → is_lt o ≡ true → o ≡ Less
is_less Less h = refl
is_less Equal h = absurd (false≢true h)
is_less Greater h = absurd (false≢true h)

-- what comes after a later one comes after an earlier one
later : (after : Option Tuple) (l t : Tuple) → is_after after l ≡ true → is_after (Some l) t ≡ true → is_after after t ≡ true
later None l t h k = refl
later (Some a) l t h k = ap is_lt (tuples_total.trans a l t (is_less (tuple_cmp a l) h) (is_less (tuple_cmp l t) k))

weaker : (m a b : Bool) → (b ≡ true → a ≡ true) → ((m && a) && b) ≡ (m && b)
weaker true true b h = refl
weaker true false true h = absurd (false≢true (h refl))
weaker true false false h = refl
weaker false a b h = refl

in_middle : (xs : List Tuple) (l : Tuple) (ys : List Tuple) → Contains (xs ++ l ∷ ys) l
in_middle xs l ys = Contains-append_right xs (l ∷ ys) l (0, omega arith, refl)

-- what was not read is a page and what comes after its last tuple
after_page : (m : Tuple → Bool) (after : Option Tuple) (ts : List Tuple) → IsStrictlySortedBy tuple_cmp ts
    → (xs : List Tuple) (l : Tuple) (ys : List Tuple) → filter (λ t. m t && is_after after t) ts ≡ xs ++ l ∷ ys
    → filter (λ t. m t && is_after (Some l) t) ts ≡ ys
after_page m after ts sorted xs l ys is =
    let test : Tuple → Bool = λ t. m t && is_after after t in
    let there : Contains (filter test ts) l = subst (λ (zs : List Tuple). Contains zs l) (sym is) (in_middle xs l ys) in
    let passes = (and_parts (m l) (is_after after l) (contains_kept test ts l there).1).1 in
    sym (filter_both (λ t. is_lt (tuple_cmp l t)) test ts
    ∙ filter_same (λ t. test t && is_lt (tuple_cmp l t)) (λ t. m t && is_after (Some l) t) (λ t. weaker (m t) (is_after after t) (is_lt (tuple_cmp l t)) (later after l t passes)) ts)
    ∙ ap (filter (λ t. is_lt (tuple_cmp l t))) is
    ∙ after_last xs l ys (subst (IsStrictlySortedBy tuple_cmp) is (IsStrictlySortedBy-filter tuple_cmp test ts sorted))

-- ---- the tuples that are sought

module _ (S : Snap) (r : RelationName) (u : Object) (n : Node) where
  same_text : (a b : List ℕ) → eq_by_cmp (slice_cmp nat_cmp) a b ≡ true → a ≡ b
  same_text = tells_apart exact_bytes

  text_itself : (a : List ℕ) → eq_by_cmp (slice_cmp nat_cmp) a a ≡ true
  text_itself = (eq_by_cmp_equiv nat_list_cmp_total).refl

  sought_named : Any (λ t. n ≡ t.node) (unread (sought r u None) S.tuples) → Names S r u n
  sought_named (k, t, lt, e, is) =
      let test : Tuple → Bool = λ x. matches (sought r u None) x && is_after None x in
      let kept = contains_kept test (set.items S.tuples) t (k, lt, e) in
      let all = (and_parts (matches (sought r u None) t) true kept.1).0 in
      let namespace = and_parts (eq_by_cmp (slice_cmp nat_cmp) t.node.object.namespace r.namespace) (eq_by_cmp (slice_cmp nat_cmp) t.node.relation r.relation && eq_by_cmp subject_cmp t.subject (one u)) all in
      let others = and_parts (eq_by_cmp (slice_cmp nat_cmp) t.node.relation r.relation) (eq_by_cmp subject_cmp t.subject (one u)) namespace.1 in
      let rel : rel_of t.node ≡ r = ap₂ (λ a b. record { namespace = a; relation = b }) (same_text t.node.object.namespace r.namespace namespace.0) (same_text t.node.relation r.relation others.0) in
      let subject : t.subject ≡ one u = tells_apart exact_subjects t.subject (one u) others.1 in
      let tuple : t ≡ record { node = n; subject = one u } = ap₂ (λ a b. record { node = a; subject = b }) (sym is) subject in
      (ap rel_of is ∙ rel, subst (λ (x : Tuple). Contains (set.items S.tuples) x) tuple kept.0)

  named_sought : Names S r u n → Any (λ t. n ≡ t.node) (unread (sought r u None) S.tuples)
  named_sought (rel, has) =
      let test : Tuple → Bool = λ x. matches (sought r u None) x && is_after None x in
      let t : Tuple = record { node = n; subject = one u } in
      let namespace : eq_by_cmp (slice_cmp nat_cmp) n.object.namespace r.namespace ≡ true = ap (λ (q : RelationName). eq_by_cmp (slice_cmp nat_cmp) n.object.namespace q.namespace) (sym rel) ∙ text_itself n.object.namespace in
      let relation : eq_by_cmp (slice_cmp nat_cmp) n.relation r.relation ≡ true = ap (λ (q : RelationName). eq_by_cmp (slice_cmp nat_cmp) n.relation q.relation) (sym rel) ∙ text_itself n.relation in
      let subject : eq_by_cmp subject_cmp (one u) (one u) ≡ true = (eq_by_cmp_equiv subjects_total).refl (one u) in
      let passes : test t ≡ true = all_true (eq_by_cmp (slice_cmp nat_cmp) n.object.namespace r.namespace) (eq_by_cmp (slice_cmp nat_cmp) n.relation r.relation) (eq_by_cmp subject_cmp (one u) (one u)) namespace relation subject in
      any_contains (λ x. n ≡ x.node) (unread (sought r u None) S.tuples) t (kept_contains test (set.items S.tuples) t has passes) refl
    where
      all_true : (a b c : Bool) → a ≡ true → b ≡ true → c ≡ true → ((a && (true && (b && c))) && true) ≡ true
      all_true true true true x y z = refl
      all_true true true false x y z = z
      all_true true false c x y z = y
      all_true false b c x y z = x

-- ---- page after page

abbrev pub with_after : Tupleset → Option Tuple → Tupleset
with_after asked after = record { namespace = asked.namespace; object = asked.object; relation = asked.relation; subject = asked.subject; after = after; limit = asked.limit }

-- Of the tuples that are sought those that were read have their nodes among the new ones; what is asked next comes after them.
pub record IsReading (S : Snap) (r : RelationName) (u : Object) (asked : Tupleset) (old new : List Node) : Type 0 where
  pub asks : asked ≡ sought r u asked.after
  pub gathers : (n : Node) → (Contains new n ⊎ Any (λ t. n ≡ t.node) (unread asked S.tuples)) ↔ (Contains old n ⊎ Any (λ t. n ≡ t.node) (unread (sought r u None) S.tuples))

pub starts : (S : Snap) (r : RelationName) (u : Object) (asked : Tupleset) (nodes : List Node) → asked ≡ sought r u None → IsReading S r u asked nodes nodes
starts S r u asked nodes is = record {
  asks = is ∙ ap (λ (q : Tupleset). sought r u q.after) (sym is);
  gathers = λ n. (
    λ h. subst (λ (q : Tupleset). Contains nodes n ⊎ Any (λ t. n ≡ t.node) (unread q S.tuples)) is h,
    λ h. subst (λ (q : Tupleset). Contains nodes n ⊎ Any (λ t. n ≡ t.node) (unread q S.tuples)) (sym is) h,
  );
}

module _ (S : Snap) (r : RelationName) (u : Object) (asked : Tupleset) (old new : List Node) (is : IsReading S r u asked old new)
    (got : List Tuple) (gives : got ≡ page asked S.tuples) (more : List Node) (gains : Gains (λ n. Any (λ t. n ≡ t.node) got) new more) where
  most : asked.limit ≡ MAX_PAGE
  most = ap (λ (q : Tupleset). q.limit) is.asks

  splits : got ++ drop asked.limit (unread asked S.tuples) ≡ unread asked S.tuples
  splits = ap (λ (ts : List Tuple). ts ++ drop asked.limit (unread asked S.tuples)) gives ∙ take-append-drop asked.limit (unread asked S.tuples)

  after_it : (rest : List Tuple) → got ++ rest ≡ unread asked S.tuples → (n : Node) → (Contains more n ⊎ Any (λ t. n ≡ t.node) rest) ↔ (Contains old n ⊎ Any (λ t. n ≡ t.node) (unread (sought r u None) S.tuples))
  after_it rest all n = (
    λ h. (is.gathers n).0 (⊎_elim
        (λ c. ⊎_elim inl (λ a. inr (subst (Any (λ t. n ≡ t.node)) all (any_before (λ t. n ≡ t.node) got rest a))) ((gains n).0 c))
        (λ a. inr (subst (Any (λ t. n ≡ t.node)) all (any_after (λ t. n ≡ t.node) got rest a)))
        h),
    λ h. ⊎_elim
        (λ c. inl ((gains n).1 (inl c)))
        (λ a. ⊎_elim
        (λ p. inl ((gains n).1 (inr p)))
        inr
        (any_either (λ t. n ≡ t.node) got rest (subst (Any (λ t. n ≡ t.node)) (sym all) a)))
        ((is.gathers n).1 h),
  )

  -- a page that is not full is the last
  pub ends : length got < MAX_PAGE → Gains (Names S r u) old more
  ends few n =
      let whole : got ≡ unread asked S.tuples = last_page in
      let both = after_it [] (append_none got ∙ whole) n in (
        λ c. ⊎_elim inl (λ a. inr (sought_named S r u n a)) (both.0 (inl c)),
        λ h. ⊎_elim (λ c. c) (λ a. absurd (none a)) (both.1 (⊎_elim inl (λ q. inr (named_sought S r u n q)) h)),
      )
    where
      none : {P : Tuple → Type 0} → Any P [] → ⊥
      none (k, x, lt, e, p) = absurd (omega (arith, lt))

      append_none : (xs : List Tuple) → xs ++ [] ≡ xs
      append_none [] = refl
      append_none (x ∷ xs) = ap (λ ys. x ∷ ys) (append_none xs)

      last_page : got ≡ unread asked S.tuples
      last_page = gives ∙ short asked.limit (unread asked S.tuples) (subst (λ (ts : List Tuple). length ts < asked.limit) gives (subst (λ (k : ℕ). length got < k) (sym most) few))
        where
          short : (k : ℕ) (xs : List Tuple) → length (take k xs) < k → take k xs ≡ xs
          short zero xs h = absurd (omega (arith, h))
          short (suc k) [] h = refl
          short (suc k) (x ∷ xs) h = ap (λ ys. x ∷ ys) (short k xs (omega (arith, h)))

  module _ (before : List Tuple) (last : Tuple) (pops : got ≡ before ++ last ∷ []) where
    left_is : unread (with_after asked (Some last)) S.tuples ≡ drop asked.limit (unread asked S.tuples)
    left_is =
        after_page (matches asked) asked.after (set.items S.tuples) (sorted_items S.tuples) before last (drop asked.limit (unread asked S.tuples))
        (sym splits ∙ ap (λ (ts : List Tuple). ts ++ drop asked.limit (unread asked S.tuples)) pops ∙ append_assoc before (last ∷ []) (drop asked.limit (unread asked S.tuples)))

    read_on : IsReading S r u (with_after asked (Some last)) old more
    read_on = record {
      asks = ap (λ (q : Tupleset). with_after q (Some last)) is.asks;
      gathers = after_it (unread (with_after asked (Some last)) S.tuples) (ap (λ (ts : List Tuple). got ++ ts) left_is ∙ splits);
    }

    left_fewer : length (unread (with_after asked (Some last)) S.tuples) < length (unread asked S.tuples)
    left_fewer =
        let all = ap length splits in
        let sum = length-append got (drop asked.limit (unread asked S.tuples)) in
        let some = ap length pops ∙ length-append before (last ∷ []) in
        let left = ap length left_is in
        omega (arith, all, sum, some, left)

  -- where a page is not empty, one reads on after its last tuple
  pub goes_on : (last : Option Tuple) → IsSome last → (before : List Tuple) → got ≡ before ++ option_to_list last → IsReading S r u (with_after asked last) old more
  goes_on None some before pops = absurd (false≢true some)
  goes_on (Some last) some before pops = read_on before last pops

  -- and fewer tuples are left than before
  pub fewer : (last : Option Tuple) → IsSome last → (before : List Tuple) → got ≡ before ++ option_to_list last → length (unread (with_after asked last) S.tuples) < length (unread asked S.tuples)
  fewer None some before pops = absurd (false≢true some)
  fewer (Some last) some before pops = left_fewer before last pops
