-- What it says that a commit can follow.
use Rattle.std.proofs.Common.{◌≡◌, ℕ, ◌+◌, ◌<◌, ◌≤◌, List, [], ◌∷◌, length, refl, sym, ap, subst, ◌∙◌, inl, inr, arith}
use Rattle.std.specs.Prelude.{Bool, true, false, cond, not, ◌||◌, ◌⊎◌, map, nat_lt, nat_le, Option, Some, None}
use Rattle.std.specs.List.{list_any, find, AllByRecursion}
use Rattle.std.specs.List.Sorted.{IsStrictlySortedBy}
use Rattle.std.specs.Ordering.{is_lt}
use Rattle.std.specs.declared.cmp.Ordering.{Ordering}
use Rattle.std.specs.declared.cmp.Ordering.TheVariants.{Less, Equal, Greater}
use Rattle.std.proofs.lemmas.List.{length-map}
use Rattle.std.proofs.lemmas.Bool.{true≢false, or_parts, and_parts, leb-true, ltb-false, not-false, not_from_false}
use Rattle.names.specs.declared.limits.TheConstants.{MAX_REV, MAX_ROWS, MAX_TUPLES}
use Rattle.names.specs.Order.{tuple_cmp, is_same_tuple}
use Rattle.names.specs.declared.tuple.Tuple.{Tuple}
use Rattle.names.specs.declared.commit.Event.{Event}
use Rattle.names.specs.declared.commit.EventKind.{EventKind}
use Rattle.names.specs.declared.commit.EventKind.TheVariants.{Put, Del}
use Rattle.names.specs.declared.refusal.Refusal.{Refusal}
use Rattle.names.specs.declared.refusal.Refusal.TheVariants.{Malformed, UnknownRelation, TypeRefused, TwiceInOneWrite, AlreadyThere, NotThere, Full}
use Rattle.meaning.specs.TupleSet as set
use Rattle.meaning.specs.Config.{Configured}
use Rattle.meaning.specs.Admits.{admits}
use Rattle.meaning.specs.History.{replay, puts_in}
use Rattle.meaning.specs.Verdict.{Newest, or_else, refused_if, at_place, first_from, in_the_way, event_of, is_in_range, is_unknown, is_untyped, is_twice, inserts_again, deletes_nothing, is_full, write_cause}
use Rattle.meaning.proofs.TupleSets.{tuples_total}
use Rattle.rows.specs.Ordered.{is_in_order}
use Rattle.rows.specs.Follows.{touch_of, touch_kind, commit_cause}
use Rattle.names.specs.declared.commit.Commit.TheVariants as kinds
use Rattle.store.specs.Written.{Pairwise}
use Rattle.store.proofs.Picking.{In, all_from, any_no}
use Rattle.store.proofs.Together.{are_other}

none_first : {A : Type 0} (a b : Option A) → or_else a b ≡ None → a ≡ None
none_first (Some x) b h = h
none_first None b h = refl

none_later : {A : Type 0} (a b : Option A) → or_else a b ≡ None → b ≡ None
none_later (Some x) b h = cc
none_later None b h = h

not_refused : (why : Refusal) (b : Bool) → refused_if why b ≡ None → b ≡ false
not_refused why true h = cc
not_refused why false h = refl

no_place : (why : ℕ → Refusal) (o : Option ℕ) → at_place why o ≡ None → o ≡ None
no_place why (Some n) h = cc
no_place why None h = refl

nowhere : {A : Type 0} (p : A → Bool) (n : ℕ) (xs : List A) → first_from p n xs ≡ None → list_any p xs ≡ false
nowhere p n [] h = refl
nowhere p n (x ∷ xs) h = by_test (p x) refl h (nowhere p (n + 1) xs)
  where
    by_test : (b : Bool) → p x ≡ b → cond b (Some n) (first_from p (n + 1) xs) ≡ None → (first_from p (n + 1) xs ≡ None → list_any p xs ≡ false) → (p x || list_any p xs) ≡ false
    by_test true is h rest = cc
    by_test false is h rest = ap (λ (b : Bool). b || list_any p xs) is ∙ rest h

pub any_map : {A B : Type 0} (f : A → B) (p : B → Bool) (xs : List A) → list_any p (map f xs) ≡ list_any (λ x. p (f x)) xs
any_map f p [] = refl
any_map f p (x ∷ xs) = ap (λ b. p (f x) || b) (any_map f p xs)

back : (k : EventKind) (t : Tuple) → event_of (record { kind = touch_kind k; tuple = t }) ≡ record { tuple = t; kind = k }
back Put t = refl
back Del t = refl

all_back : (es : List Event) → map event_of (map touch_of es) ≡ es
all_back [] = refl
all_back (e ∷ es) = λ i. back e.kind e.tuple i ∷ all_back es i

at_most : (m n : ℕ) → nat_lt m n ≡ false → n ≤ m
at_most m n h = ltb-false m n h

-- nothing speaks against the events
pub record Accepted (n : Newest) (es : List Event) : Type 0 where
  pub some : 0 < length es
  pub sorted : IsStrictlySortedBy tuple_cmp (map (λ e. e.tuple) es)
  pub admitted : (e : Event) → In e es → admits n.held.config e.tuple ≡ true
  pub once : Pairwise are_other es
  pub there : (e : Event) → In e es → e.kind ≡ Del → set.contains n.held.tuples e.tuple ≡ true
  pub tuples : set.len (replay n.held.tuples es) ≤ MAX_TUPLES
  pub rows : n.rows + puts_in es ≤ MAX_ROWS
  pub revs : n.rev + 1 ≤ MAX_REV

less : (o : Ordering) → is_lt o ≡ true → o ≡ Less
less Less h = refl
less Equal h = absurd (true≢false (sym h))
less Greater h = absurd (true≢false (sym h))

below_all : (e f : Tuple) (ts : List Tuple) → tuple_cmp e f ≡ Less → AllByRecursion (λ y. tuple_cmp f y ≡ Less) ts → AllByRecursion (λ y. tuple_cmp e y ≡ Less) ts
below_all e f [] h below = tt
below_all e f (t ∷ ts) h below = (tuples_total.trans e f t h below.0, below_all e f ts h below.1)

pub strictly : (es : List Event) → is_in_order es ≡ true → IsStrictlySortedBy tuple_cmp (map (λ e. e.tuple) es)
unfolding IsStrictlySortedBy
strictly [] h = tt
strictly (e ∷ []) h = (tt, tt)
strictly (e ∷ f ∷ es) h =
    let p = and_parts (is_lt (tuple_cmp e.tuple f.tuple)) (is_in_order (f ∷ es)) h in
    let rest = strictly (f ∷ es) p.1 in
    let here = less (tuple_cmp e.tuple f.tuple) p.0 in
    ((here, below_all e.tuple f.tuple (map (λ e. e.tuple) es) here rest.0), rest)

once_each : (es : List Event) → is_twice (map touch_of es) ≡ false → Pairwise are_other es
once_each [] h = tt
once_each (e ∷ es) h =
    let p = or_parts (list_any (λ o. is_same_tuple e.tuple o.tuple) (map touch_of es)) (is_twice (map touch_of es)) h in
    (all_from (λ f. are_other e f ≡ true) es (λ f i. not_from_false (is_same_tuple e.tuple f.tuple) (any_no (λ f. is_same_tuple e.tuple f.tuple) es (sym (any_map touch_of (λ o. is_same_tuple e.tuple o.tuple) es) ∙ p.0) f i)), once_each es p.1)

some_length : (es : List Event) → is_in_range (map touch_of es) ≡ true → 0 < length es
some_length [] h = absurd (true≢false (sym h))
some_length (e ∷ es) h = omega arith

there_each : (n : Newest) (es : List Event) → list_any (deletes_nothing n.held.tuples) (map touch_of es) ≡ false → (e : Event) → In e es → e.kind ≡ Del → set.contains n.held.tuples e.tuple ≡ true
there_each n es h e i del = by_kind e.kind del (any_no (λ f. deletes_nothing n.held.tuples (touch_of f)) es (sym (any_map touch_of (deletes_nothing n.held.tuples) es) ∙ h) e i)
  where
    by_kind : (k : EventKind) → k ≡ Del → deletes_nothing n.held.tuples (record { kind = touch_kind k; tuple = e.tuple }) ≡ false → set.contains n.held.tuples e.tuple ≡ true
    by_kind Put d f = cc
    by_kind Del d f = not-false (set.contains n.held.tuples e.tuple) f

pub accepted : (n : Newest) (es : List Event) → commit_cause n (kinds.Tuples es) ≡ None → Accepted n es
accepted n es h =
    let ops = map touch_of es in
    let order = not-false (is_in_order es) (not_refused Malformed (not (is_in_order es)) (none_first _ _ h)) in
    let w = none_later (refused_if Malformed (not (is_in_order es))) (write_cause n ops) h in
    let range = not-false (is_in_range ops) (not_refused Malformed (not (is_in_range ops)) (none_first _ _ w)) in
    let a = none_later (refused_if Malformed (not (is_in_range ops))) _ w in
    let b = none_later (refused_if UnknownRelation (list_any (is_unknown n.held.config) ops)) _ a in
    let typed = not_refused TypeRefused (list_any (is_untyped n.held.config) ops) (none_first _ _ b) in
    let c = none_later (refused_if TypeRefused (list_any (is_untyped n.held.config) ops)) _ b in
    let twice = not_refused TwiceInOneWrite (is_twice ops) (none_first _ _ c) in
    let d = none_later (refused_if TwiceInOneWrite (is_twice ops)) _ c in
    let e = none_later (at_place (λ i. AlreadyThere i) (first_from (inserts_again n.held.tuples) 0 ops)) _ d in
    let gone = nowhere (deletes_nothing n.held.tuples) 0 ops (no_place (λ i. NotThere i) _ (none_first _ _ e)) in
    let f = none_later (at_place (λ i. NotThere i) (first_from (deletes_nothing n.held.tuples) 0 ops)) _ e in
    let full : is_full n es ≡ false = subst (λ (xs : List Event). is_full n xs ≡ false) (all_back es) (not_refused Full (is_full n (map event_of ops)) f) in
    by_full es order range typed twice gone full
  where
    by_full : (es : List Event) → is_in_order es ≡ true → is_in_range (map touch_of es) ≡ true → list_any (is_untyped n.held.config) (map touch_of es) ≡ false → is_twice (map touch_of es) ≡ false
        → list_any (deletes_nothing n.held.tuples) (map touch_of es) ≡ false → is_full n es ≡ false → Accepted n es
    by_full es order range typed twice gone full =
        let p = or_parts (nat_lt MAX_TUPLES (set.len (replay n.held.tuples es)) || nat_lt MAX_ROWS (n.rows + puts_in es)) (nat_lt MAX_REV (n.rev + 1)) full in
        let q = or_parts (nat_lt MAX_TUPLES (set.len (replay n.held.tuples es))) (nat_lt MAX_ROWS (n.rows + puts_in es)) p.0 in
        record {
          some = some_length es range;
          sorted = strictly es order;
          admitted = λ e i. not-false (admits n.held.config e.tuple) (any_no (λ f. is_untyped n.held.config (touch_of f)) es (sym (any_map touch_of (is_untyped n.held.config) es) ∙ typed) e i);
          once = once_each es twice;
          there = there_each n es gone;
          tuples = at_most MAX_TUPLES (set.len (replay n.held.tuples es)) q.0;
          rows = at_most MAX_ROWS (n.rows + puts_in es) q.1;
          revs = at_most MAX_REV (n.rev + 1) p.1;
        }

-- there are 256 at most
pub few_events : (n : Newest) (es : List Event) → commit_cause n (kinds.Tuples es) ≡ None → length es ≤ 256
few_events n es h =
    let ops = map touch_of es in
    let w = none_later (refused_if Malformed (not (is_in_order es))) (write_cause n ops) h in
    let range = not-false (is_in_range ops) (not_refused Malformed (not (is_in_range ops)) (none_first _ _ w)) in
    let most = leb-true (length ops) 256 (and_parts (nat_le 1 (length ops)) (nat_le (length ops) 256) range).1 in
    omega (arith, most, length-map es touch_of)

-- ---- configurations

-- what the test is true of is found
never_found : {A : Type 0} (p : A → Bool) (xs : List A) → find p xs ≡ None → (x : A) → In x xs → p x ≡ false
never_found {A = A} p [] h x i = absurd i
never_found {A = A} p (y ∷ ys) h x i = by_test (p y) refl h i (never_found p ys)
  where
    by_test : (b : Bool) → p y ≡ b → cond b (Some y) (find p ys) ≡ None → (x ≡ y) ⊎ In x ys → (find p ys ≡ None → (x : A) → In x ys → p x ≡ false) → p x ≡ false
    by_test true is h i rest = cc
    by_test false is h (inl e) rest = ap p e ∙ is
    by_test false is h (inr i) rest = rest h x i

no_way : (o : Option Tuple) → in_the_way o ≡ None → o ≡ None
no_way (Some t) h = cc
no_way None h = refl

-- nothing speaks against the configuration
pub record AcceptedConfig (n : Newest) (config : Configured) : Type 0 where
  pub admitted : (t : Tuple) → In t (set.items n.held.tuples) → admits config t ≡ true
  pub revs : n.rev + 1 ≤ MAX_REV

pub accepted_config : (n : Newest) (config : Configured) → commit_cause n (kinds.Config config) ≡ None → AcceptedConfig n config
accepted_config n config h = record {
  admitted = λ t i. not-false (admits config t) (never_found (λ t. not (admits config t)) (set.items n.held.tuples) (no_way _ (none_first _ _ h)) t i);
  revs = at_most MAX_REV (n.rev + 1) (not_refused Full (nat_lt MAX_REV (n.rev + 1)) (none_later (in_the_way (find (λ t. not (admits config t)) (set.items n.held.tuples))) _ h));
}
