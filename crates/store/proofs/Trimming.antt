-- The rows after a trim are the history from the higher floor on.
use Rattle.std.proofs.Common.{◌≡◌, ℕ, ◌+◌, ◌-◌, ◌<◌, ◌≤◌, List, [], ◌∷◌, length, take, drop, refl, sym, ap, subst, ◌∙◌, inl, inr, arith, zero, suc}
use Rattle.std.specs.Prelude.{Bool, true, false, cond, not, ◌&&◌, ◌||◌, ◌==◌, ◌⊎◌, map, filter, codes, nat_lt, Option, Some, None, IsPermutation}
use Rattle.std.specs.List.{list_any}
use Rattle.std.proofs.lemmas.Bool.{true≢false, or_cases, or_left, or_right, and_right, eqb-false, ltb-true, ltb-false, lt-ltb, ne_eqb, cases_lt}
use Rattle.std.proofs.lemmas.List.Sorted.{IsPermutation-map}
use Rattle.names.specs.declared.limits.TheConstants.{MAX_ROWS, MAX_TUPLES}
use Rattle.names.specs.Order.{is_same_tuple}
use Rattle.names.specs.declared.tuple.Tuple.{Tuple}
use Rattle.names.specs.declared.commit.EventKind.TheVariants.{Put, Del}
use Rattle.names.specs.declared.commit.Commit.TheVariants as kinds
use Rattle.meaning.specs.TupleSet as set
use Rattle.meaning.specs.Config.{Configured}
use Rattle.meaning.specs.Snap.{Snap}
use Rattle.meaning.specs.Admits.{admits}
use Rattle.meaning.specs.History.{History}
use Rattle.meaning.proofs.TupleSets.{same_tuples}
use Rattle.rows.specs.Retained.{Retained, newest, newest_of, spans_of, after_trim, last_config, commits_between}
use Rattle.rows.proofs.Committing.{tuples_within}
use Rattle.rows.proofs.Trimming.{spans_split}
use Rattle.tables.specs.Storing.{IsTrimTo}
use Rattle.sqlite_trees.proofs.ListLemmas.{IsPermutation-filter}
use Rattle.sqlite_tables.specs.Tables.{Contents, with_value}
use Rattle.sqlite_tables.specs.Steps as steps
use Rattle.store.specs.Written.{TupleSpan, ConfigAt, Written, IsSpan, IsConfigAt, IsSound, IsWritten, IsHistory, Ends, Pairwise, is_alive, is_moved, tuples_of, is_put_at, event_at, events_at, config_at, commit_of, commit_at, commits_above, last_up_to, config_up_to, are_apart, are_distinct, is_one, brings_one, history_of, span_of, config_row_of, entries_of}
use Rattle.store.proofs.Picking.{In, all_in, all_from}
use Rattle.store.proofs.Living.{is_of, contains_of, alive_says, moved_says}
use Rattle.store.proofs.Held.{IsWhole, held_at, held_newest, last_below, whole_of}
use Rattle.store.proofs.Following.{newest_is, same_history, same_snap}
use Rattle.store.proofs.Once.{at_in, at_none, distinct_revs, last_in, last_most, unset}

-- ---- lists

take_none : {A : Type 0} (xs : List A) → take 0 xs ≡ []
take_none [] = refl
take_none (x ∷ xs) = refl

drop_none : {A : Type 0} (xs : List A) → drop 0 xs ≡ xs
drop_none [] = refl
drop_none (x ∷ xs) = refl

-- ---- what a test keeps of a list

kept_in : {A : Type 0} (p : A → Bool) (xs : List A) (x : A) → In x (filter p xs) → In x xs × (p x ≡ true)
kept_in p [] x i = absurd i
kept_in p (y ∷ ys) x i = by_test (p y) refl (kept_in p ys x) i
  where
    by_test : (b : Bool) → p y ≡ b → (In x (filter p ys) → In x ys × (p x ≡ true)) → In x (cond b (y ∷ filter p ys) (filter p ys)) → In x (y ∷ ys) × (p x ≡ true)
    by_test true e rest (inl same) = (inl same, ap p same ∙ e)
    by_test true e rest (inr j) = let k = rest j in (inr k.0, k.1)
    by_test false e rest j = let k = rest j in (inr k.0, k.1)

in_kept : {A : Type 0} (p : A → Bool) (xs : List A) (x : A) → In x xs → p x ≡ true → In x (filter p xs)
in_kept p [] x i h = absurd i
in_kept p (y ∷ ys) x i h = by_test (p y) refl (λ j. in_kept p ys x j h) i
  where
    by_test : (b : Bool) → p y ≡ b → (In x ys → In x (filter p ys)) → (x ≡ y) ⊎ In x ys → In x (cond b (y ∷ filter p ys) (filter p ys))
    by_test true e rest (inl same) = inl same
    by_test true e rest (inr j) = inr (rest j)
    by_test false e rest (inl same) = absurd (true≢false (sym h ∙ ap p same ∙ e))
    by_test false e rest (inr j) = rest j

any_kept : {A : Type 0} (p q : A → Bool) (xs : List A) → ((x : A) → In x xs → p x ≡ false → q x ≡ false) → list_any q (filter p xs) ≡ list_any q xs
any_kept p q [] h = refl
any_kept p q (x ∷ xs) h = by_test (p x) refl (any_kept p q xs (λ y i. h y (inr i)))
  where
    by_test : (b : Bool) → p x ≡ b → list_any q (filter p xs) ≡ list_any q xs → list_any q (cond b (x ∷ filter p xs) (filter p xs)) ≡ (q x || list_any q xs)
    by_test true e rest = ap (λ b. q x || b) rest
    by_test false e rest = rest ∙ sym (ap (λ b. b || list_any q xs) (h x (inl refl) e))

pairwise_kept : {A : Type 0} (p : A → Bool) (old new : A → A → Bool) (xs : List A) → ((x y : A) → In x xs → In y xs → p x ≡ true → p y ≡ true → old x y ≡ true → new x y ≡ true) → Pairwise old xs → Pairwise new (filter p xs)
pairwise_kept p old new [] h apart = tt
pairwise_kept p old new (x ∷ xs) h apart = by_test (p x) refl (pairwise_kept p old new xs (λ y z i j. h y z (inr i) (inr j)) apart.1)
  where
    by_test : (b : Bool) → p x ≡ b → Pairwise new (filter p xs) → Pairwise new (cond b (x ∷ filter p xs) (filter p xs))
    by_test true e rest = (
      all_from (λ y. new x y ≡ true) (filter p xs) (λ y i. let k = kept_in p xs y i in h x y (inl refl) (inr k.0) e k.1 (all_in (λ z. old x z ≡ true) xs apart.0 y k.0)),
      rest,
    )
    by_test false e rest = rest

-- a test of what is seen of the elements
seen_kept : {A B : Type 0} (f : A → B) (p : B → Bool) (xs : List A) → filter p (map f xs) ≡ map f (filter (λ x. p (f x)) xs)
seen_kept f p [] = refl
seen_kept f p (x ∷ xs) = by_test (p (f x)) (seen_kept f p xs)
  where
    by_test : (b : Bool) → filter p (map f xs) ≡ map f (filter (λ y. p (f y)) xs) → cond b (f x ∷ filter p (map f xs)) (filter p (map f xs)) ≡ map f (cond b (x ∷ filter (λ y. p (f y)) xs) (filter (λ y. p (f y)) xs))
    by_test true rest = ap (λ ys. f x ∷ ys) rest
    by_test false rest = rest

-- ---- the rows from a floor on

-- the span has not ended at the floor or below
abbrev pub is_late : ℕ → TupleSpan → Bool
is_late floor l = not (nat_lt 0 l.removed && not (nat_lt floor l.removed))

-- the configuration is not below the first
abbrev pub is_from : ℕ → ConfigAt → Bool
is_from first c = not (nat_lt c.rev first)

abbrev pub trimmed : Written → ℕ → ℕ → Written
trimmed w floor first = record { number = w.number; floor = floor; newest = w.newest; spans = filter (is_late floor) w.spans; configs = filter (is_from first) w.configs }

late_says : (floor : ℕ) (l : TupleSpan) → is_late floor l ≡ true → (l.removed ≡ 0) ⊎ (floor < l.removed)
late_says floor l h = by_tests (nat_lt 0 l.removed) refl (nat_lt floor l.removed) refl h
  where
    none : nat_lt 0 l.removed ≡ false → l.removed ≡ 0
    none e = let z = ltb-false 0 l.removed e in omega (arith, z)

    by_tests : (a : Bool) → nat_lt 0 l.removed ≡ a → (b : Bool) → nat_lt floor l.removed ≡ b → not (a && not b) ≡ true → (l.removed ≡ 0) ⊎ (floor < l.removed)
    by_tests true e true f h = inr (ltb-true floor l.removed f)
    by_tests true e false f h = absurd (true≢false (sym h))
    by_tests false e b f h = inl (none e)

early_says : (floor : ℕ) (l : TupleSpan) → is_late floor l ≡ false → (0 < l.removed) × (l.removed ≤ floor)
early_says floor l h = by_tests (nat_lt 0 l.removed) refl (nat_lt floor l.removed) refl h
  where
    by_tests : (a : Bool) → nat_lt 0 l.removed ≡ a → (b : Bool) → nat_lt floor l.removed ≡ b → not (a && not b) ≡ false → (0 < l.removed) × (l.removed ≤ floor)
    by_tests true e true f h = absurd (true≢false h)
    by_tests true e false f h = (ltb-true 0 l.removed e, ltb-false floor l.removed f)
    by_tests false e b f h = absurd (true≢false h)

from_says : (first : ℕ) (c : ConfigAt) → is_from first c ≡ true → first ≤ c.rev
from_says first c h = by_test (nat_lt c.rev first) refl h
  where
    by_test : (b : Bool) → nat_lt c.rev first ≡ b → not b ≡ true → first ≤ c.rev
    by_test true e h = absurd (true≢false (sym h))
    by_test false e h = ltb-false c.rev first e

is_from_late : (first : ℕ) (c : ConfigAt) → first ≤ c.rev → is_from first c ≡ true
is_from_late first c low = by_test (nat_lt c.rev first) refl
  where
    never : c.rev < first → ⊥
    never h = omega (arith, h, low)

    by_test : (b : Bool) → nat_lt c.rev first ≡ b → not b ≡ true
    by_test true e = absurd (never (ltb-true c.rev first e))
    by_test false e = refl

-- what has ended began before its end
ended_says : (floor newest at : ℕ) (l : TupleSpan) → IsSpan floor newest l → is_late at l ≡ false → (0 < l.removed) × (l.removed ≤ at) × (l.added < l.removed)
ended_says floor newest at l span h = let e = early_says at l h in (e.0, e.1, by_end span.ends e.0)
  where
    by_end : Ends floor newest l.added l.removed → 0 < l.removed → l.added < l.removed
    by_end (inl z) some = absurd (omega (arith, z, some))
    by_end (inr e) some = e.0

-- ---- the last configuration among commits

pub record IsLast (w : Written) (base rev n last : ℕ) : Type 0 where
  pub least : base ≤ last
  pub most : last ≤ rev + n
  pub none_later : (c : ConfigAt) → In c w.configs → rev < c.rev → c.rev ≤ rev + n → c.rev ≤ last
  pub there : (last ≡ base) ⊎ ((rev < last) × ((c : ConfigAt) × In c w.configs × (c.rev ≡ last)))

pub last_says : (w : Written) (n base rev : ℕ) → base ≤ rev → IsLast w base rev n (last_config base rev (commits_above w rev n))
last_says w zero base rev low = record { least = omega arith; most = omega (arith, low); none_later = λ c i above below. absurd (omega (arith, above, below)); there = inl refl }
last_says w (suc n) base rev low = by_kind (config_at (rev + 1) w.configs) refl (λ b fits. last_says w n b (rev + 1) fits)
  where
    up : (last : ℕ) → last ≤ (rev + 1) + n → last ≤ rev + suc n
    up last h = omega (arith, h)

    shift : (at : ℕ) → at ≤ rev + suc n → at ≤ (rev + 1) + n
    shift at h = omega (arith, h)

    by_kind : (o : Option Configured) → config_at (rev + 1) w.configs ≡ o → ((b : ℕ) → b ≤ rev + 1 → IsLast w b (rev + 1) n (last_config b (rev + 1) (commits_above w (rev + 1) n)))
        → IsLast w base rev (suc n) (last_config base rev (commit_of o (events_at (rev + 1) w.spans) ∷ commits_above w (rev + 1) n))
    by_kind (Some config) e rest =
        let next = rest (rev + 1) (omega arith) in
        let last = last_config (rev + 1) (rev + 1) (commits_above w (rev + 1) n) in
        let found = at_in (rev + 1) w.configs config e in
        record {
          least = let a = next.least in omega (arith, a, low);
          most = up last next.most;
          none_later = λ c i above below. elim (cases_lt (rev + 1) c.rev) [
            | inl lt ↦ next.none_later c i lt (shift c.rev below)
            | inr le ↦ let a = next.least in omega (arith, a, le)
          ];
          there = elim next.there [
            | inl same ↦ inr (let a = next.least in omega (arith, a), (found.0, found.1, found.2 ∙ sym same))
            | inr more ↦ let a = more.0 in inr (omega (arith, a), more.1)
          ];
        }
    by_kind None e rest =
        let next = rest base (omega (arith, low)) in
        let last = last_config base (rev + 1) (commits_above w (rev + 1) n) in
        record {
          least = next.least;
          most = up last next.most;
          none_later = λ c i above below. elim (cases_lt (rev + 1) c.rev) [
            | inl lt ↦ next.none_later c i lt (shift c.rev below)
            | inr le ↦ absurd (at_none (rev + 1) w.configs e c i (omega (arith, above, le)))
          ];
          there = elim next.there [
            | inl same ↦ inl same
            | inr more ↦ let a = more.0 in inr (omega (arith, a), more.1)
          ];
        }

pub last_within : (h : History) (base rev : ℕ) → base ≤ rev → last_config base rev h ≤ rev + length h
last_within [] base rev low = omega (arith, low)
last_within (kinds.Tuples events ∷ h) base rev low = let rest = last_within h base (rev + 1) (omega (arith, low)) in omega (arith, rest)
last_within (kinds.Config config ∷ h) base rev low = let rest = last_within h (rev + 1) (rev + 1) (omega arith) in omega (arith, rest)

length_taken : {A : Type 0} (n : ℕ) (xs : List A) → length (take n xs) ≤ n
length_taken zero xs = let none = ap length (take_none xs) in omega (arith, none)
length_taken (suc n) [] = omega arith
length_taken (suc n) (x ∷ xs) = let rest = length_taken n xs in omega (arith, rest)

-- none of those that come to be at or below the floor is above it
pub first_below : (r : Retained) (floor first : ℕ) → IsTrimTo r floor first → first ≤ floor
first_below r floor first to =
    let is = to.first_is in
    let above = to.above in
    let most = last_within (commits_between r r.floor floor) 0 r.floor (omega arith) in
    let few = length_taken (floor - r.floor) (drop (r.floor - r.floor) r.commits) in
    omega (arith, is, above, most, few)

-- ---- commits above a revision

commits_same : (v w : Written) (n rev : ℕ) → ((at : ℕ) → rev < at → commit_at v at ≡ commit_at w at) → commits_above v rev n ≡ commits_above w rev n
commits_same v w zero rev same = refl
commits_same v w (suc n) rev same =
    ap (λ c. c ∷ commits_above v (rev + 1) n) (same (rev + 1) (omega arith)) ∙ ap (λ h. commit_at w (rev + 1) ∷ h) (commits_same v w n (rev + 1) (λ at above. same at (omega (arith, above))))

pub commits_drop : (w : Written) (k m rev : ℕ) → k ≤ m → drop k (commits_above w rev m) ≡ commits_above w (rev + k) (m - k)
commits_drop w zero m rev low = drop_none (commits_above w rev m) ∙ ap (λ n. commits_above w n m) (omega arith) ∙ ap (commits_above w (rev + 0)) (omega arith)
commits_drop w (suc k) zero rev low = absurd (omega (arith, low))
commits_drop w (suc k) (suc m) rev low = commits_drop w k m (rev + 1) (omega (arith, low)) ∙ ap (λ n. commits_above w n (m - k)) (omega arith) ∙ ap (commits_above w (rev + suc k)) (omega arith)

pub commits_take : (w : Written) (n m rev : ℕ) → n ≤ m → take n (commits_above w rev m) ≡ commits_above w rev n
commits_take w zero zero rev h = refl
commits_take w zero (suc m) rev h = refl
commits_take w (suc n) zero rev h = absurd (omega (arith, h))
commits_take w (suc n) (suc m) rev h = ap (λ cs. commit_at w (rev + 1) ∷ cs) (commits_take w n m (rev + 1) (omega (arith, h)))

-- ---- from one floor to a higher one

module _ (w : Written) (sound : IsSound w) (floor first : ℕ) (above : w.floor ≤ floor) (below : floor ≤ w.newest) (is : IsLast w 0 w.floor (floor - w.floor) first) where
  abbrev now : Written
  now = trimmed w floor first

  up_to : w.floor + (floor - w.floor) ≡ floor
  up_to = omega (arith, above)

  low : first ≤ floor
  low = let m = is.most in omega (arith, m, above)

  span_at : (l : TupleSpan) → In l w.spans → IsSpan w.floor w.newest l
  span_at l i = all_in (IsSpan w.floor w.newest) w.spans sound.spans_are l i

  config_is : (c : ConfigAt) → In c w.configs → IsConfigAt w.newest c
  config_is c i = all_in (IsConfigAt w.newest) w.configs sound.configs_are c i

  none_between : (c : ConfigAt) → In c w.configs → w.floor < c.rev → c.rev ≤ floor → c.rev ≤ first
  none_between c i more less = is.none_later c i more (let u = up_to in omega (arith, u, less))

  -- what goes is not seen from the floor on

  not_alive : (rev : ℕ) → floor ≤ rev → (l : TupleSpan) → In l w.spans → is_late floor l ≡ false → is_alive rev l ≡ false
  not_alive rev from l i gone = by_value (is_alive rev l) refl
    where
      never : (l.added ≤ rev) × ((l.removed ≡ 0) ⊎ (rev < l.removed)) → (0 < l.removed) × (l.removed ≤ floor) → ⊥
      never (a, inl z) e = let s = e.0 in omega (arith, z, s)
      never (a, inr m) e = let s = e.1 in omega (arith, m, s, from)

      by_value : (b : Bool) → is_alive rev l ≡ b → b ≡ false
      by_value true e = absurd (never (alive_says rev l e) (early_says floor l gone))
      by_value false e = refl

  not_moved : (rev : ℕ) → floor < rev → (l : TupleSpan) → In l w.spans → is_late floor l ≡ false → is_moved rev l ≡ false
  not_moved rev from l i gone = by_value (is_moved rev l) refl
    where
      never : (l.added ≡ rev) ⊎ (l.removed ≡ rev) → (0 < l.removed) × (l.removed ≤ floor) × (l.added < l.removed) → ⊥
      never (inl a) e = let m = e.1 in let n = e.2 in omega (arith, a, m, n, from)
      never (inr r) e = let m = e.1 in omega (arith, r, m, from)

      by_value : (b : Bool) → is_moved rev l ≡ b → b ≡ false
      by_value true e = absurd (never (moved_says rev l e) (ended_says w.floor w.newest floor l (span_at l i) gone))
      by_value false e = refl

  not_put : (rev : ℕ) → floor < rev → (l : TupleSpan) → In l w.spans → is_late floor l ≡ false → (l.added == rev) ≡ false
  not_put rev from l i gone = ne_eqb l.added rev (λ a. let e = ended_says w.floor w.newest floor l (span_at l i) gone in let m = e.1 in let n = e.2 in omega (arith, a, m, n, from))

  of_none : (q : Tuple) (l : TupleSpan) (b : Bool) → b ≡ false → (is_same_tuple q l.tuple && b) ≡ false
  of_none q l b h = and_right (is_same_tuple q l.tuple) b h

  same_alive : (rev : ℕ) → floor ≤ rev → tuples_of (is_alive rev) now.spans ≡ tuples_of (is_alive rev) w.spans
  same_alive rev from = same_tuples _ _ (λ q.
      contains_of (is_alive rev) now.spans q
      ∙ any_kept (is_late floor) (is_of q (is_alive rev)) w.spans (λ l i gone. of_none q l (is_alive rev l) (not_alive rev from l i gone))
      ∙ sym (contains_of (is_alive rev) w.spans q))

  same_moved : (rev : ℕ) → floor < rev → tuples_of (is_moved rev) now.spans ≡ tuples_of (is_moved rev) w.spans
  same_moved rev from = same_tuples _ _ (λ q.
      contains_of (is_moved rev) now.spans q
      ∙ any_kept (is_late floor) (is_of q (is_moved rev)) w.spans (λ l i gone. of_none q l (is_moved rev l) (not_moved rev from l i gone))
      ∙ sym (contains_of (is_moved rev) w.spans q))

  same_put : (rev : ℕ) → floor < rev → (q : Tuple) → is_put_at rev now.spans q ≡ is_put_at rev w.spans q
  same_put rev from q = any_kept (is_late floor) (λ l. is_same_tuple q l.tuple && (l.added == rev)) w.spans (λ l i gone. of_none q l (l.added == rev) (not_put rev from l i gone))

  same_events : (rev : ℕ) → floor < rev → events_at rev now.spans ≡ events_at rev w.spans
  same_events rev from = ap (λ s. map (event_at rev now.spans) (set.items s)) (same_moved rev from) ∙ map_same (set.items (tuples_of (is_moved rev) w.spans))
    where
      map_same : (ts : List Tuple) → map (event_at rev now.spans) ts ≡ map (event_at rev w.spans) ts
      map_same [] = refl
      map_same (t ∷ ts) = ap (λ b. record { tuple = t; kind = cond b Put Del } ∷ map (event_at rev now.spans) ts) (same_put rev from t) ∙ ap (λ xs. event_at rev w.spans t ∷ xs) (map_same ts)

  same_any_moved : (rev : ℕ) → floor < rev → list_any (is_moved rev) now.spans ≡ list_any (is_moved rev) w.spans
  same_any_moved rev from = any_kept (is_late floor) (is_moved rev) w.spans (not_moved rev from)

  same_config_at : (rev : ℕ) → floor < rev → config_at rev now.configs ≡ config_at rev w.configs
  same_config_at rev from = each w.configs
    where
      other : (c : ConfigAt) → nat_lt c.rev first ≡ true → (c.rev == rev) ≡ false
      other c e = let l = ltb-true c.rev first e in ne_eqb c.rev rev (λ same. let f = low in omega (arith, l, same, f, from))

      each : (cs : List ConfigAt) → config_at rev (filter (is_from first) cs) ≡ config_at rev cs
      each [] = refl
      each (c ∷ cs) = by_test (nat_lt c.rev first) refl (each cs)
        where
          by_test : (b : Bool) → nat_lt c.rev first ≡ b → config_at rev (filter (is_from first) cs) ≡ config_at rev cs → config_at rev (cond (not b) (c ∷ filter (is_from first) cs) (filter (is_from first) cs)) ≡ cond (c.rev == rev) (Some c.config) (config_at rev cs)
          by_test true e rest = rest ∙ sym (ap (λ b. cond b (Some c.config) (config_at rev cs)) (other c e))
          by_test false e rest = ap (λ o. cond (c.rev == rev) (Some c.config) o) rest

  same_commit : (rev : ℕ) → floor < rev → commit_at now rev ≡ commit_at w rev
  same_commit rev from = ap (λ o. commit_of o (events_at rev now.spans)) (same_config_at rev from) ∙ ap (commit_of (config_at rev w.configs)) (same_events rev from)

  -- the configuration that is in force stays

  same_last : (rev : ℕ) → floor ≤ rev → last_up_to rev now.configs ≡ last_up_to rev w.configs
  same_last rev from = by_both (last_in rev now.configs) (last_in rev w.configs)
    where
      first_below : In (last_up_to rev w.configs) w.configs → first ≤ (last_up_to rev w.configs).rev
      first_below j = elim is.there [
        | inl none ↦ omega (arith, none)
        | inr some ↦ let c = some.1 in let most = last_most rev w.configs c.0 c.1 (let e = c.2 in let f = low in omega (arith, e, f, from)) in let e = c.2 in omega (arith, most, e)
      ]

      stays : In (last_up_to rev w.configs) w.configs → (last_up_to rev w.configs).rev ≤ (last_up_to rev now.configs).rev
      stays j = last_most rev now.configs (last_up_to rev w.configs) (in_kept (is_from first) w.configs (last_up_to rev w.configs) j (is_from_late first (last_up_to rev w.configs) (first_below j))) (last_below rev w.configs)

      by_both : In (last_up_to rev now.configs) now.configs ⊎ (last_up_to rev now.configs ≡ unset) → In (last_up_to rev w.configs) w.configs ⊎ (last_up_to rev w.configs ≡ unset) → last_up_to rev now.configs ≡ last_up_to rev w.configs
      by_both (inl i) (inl j) =
          let k = kept_in (is_from first) w.configs (last_up_to rev now.configs) i in
          let x = last_most rev w.configs (last_up_to rev now.configs) k.0 (last_below rev now.configs) in let y = stays j in
          distinct_revs w.floor w.configs sound.distinct (last_up_to rev now.configs) (last_up_to rev w.configs) k.0 j (omega (arith, x, y))
      by_both (inl i) (inr e) =
          let k = kept_in (is_from first) w.configs (last_up_to rev now.configs) i in
          let x = last_most rev w.configs (last_up_to rev now.configs) k.0 (last_below rev now.configs) in
          let y = (config_is (last_up_to rev now.configs) k.0).begins in let z = ap (λ (c : ConfigAt). c.rev) e in absurd (omega (arith, x, y, z))
      by_both (inr e) (inl j) =
          let x = stays j in let y = (config_is (last_up_to rev w.configs) j).begins in let z = ap (λ (c : ConfigAt). c.rev) e in absurd (omega (arith, x, y, z))
      by_both (inr e) (inr g) = e ∙ sym g

  same_config : (rev : ℕ) → floor ≤ rev → config_up_to rev now.configs ≡ config_up_to rev w.configs
  same_config rev from = ap (λ (c : ConfigAt). c.config) (same_last rev from)

  -- ---- the history

  pub trimmed_history : history_of now ≡ after_trim (history_of w) floor
  trimmed_history =
      same_history w.number floor _ _ _ _ (same_snap _ _ _ _ (same_config floor (omega arith)) (same_alive floor (omega arith)) ∙ sym (held_at w (whole_of w sound) floor above below))
      (commits_same now w (w.newest - floor) floor same_commit
      ∙ ap (commits_above w floor) left ∙ ap (λ n. commits_above w n ((w.newest - w.floor) - (floor - w.floor))) (sym up_to)
      ∙ sym (commits_drop w (floor - w.floor) (w.newest - w.floor) w.floor (omega (arith, above, below))))
    where
      left : w.newest - floor ≡ (w.newest - w.floor) - (floor - w.floor)
      left = omega (arith, above, below)

  -- ---- the rows are sound

  spans_now : (l : TupleSpan) → In l now.spans → IsSpan floor w.newest l
  spans_now l i =
      let k = kept_in (is_late floor) w.spans l i in
      let span = span_at l k.0 in
      record { spelled = span.spelled; begins = span.begins; begun = span.begun; ends = by_end span.ends (late_says floor l k.1) }
    where
      by_end : Ends w.floor w.newest l.added l.removed → (l.removed ≡ 0) ⊎ (floor < l.removed) → Ends floor w.newest l.added l.removed
      by_end (inl z) late = inl z
      by_end (inr e) (inl z) = inl z
      by_end (inr e) (inr late) = inr (e.0, late, e.2)

  distinct_now : (c d : ConfigAt) → In c w.configs → In d w.configs → is_from first c ≡ true → is_from first d ≡ true → are_distinct w.floor c d ≡ true → are_distinct floor c d ≡ true
  distinct_now c d i j from_c from_d h = by_same (c.rev == d.rev) refl h
    where
      both_low : (c.rev ≡ d.rev → ⊥) → (nat_lt w.floor c.rev || nat_lt w.floor d.rev) ≡ true → c.rev ≤ floor → d.rev ≤ floor → ⊥
      both_low apart late low_c low_d = by_there is.there
        where
          fc : first ≤ c.rev
          fc = from_says first c from_c

          fd : first ≤ d.rev
          fd = from_says first d from_d

          none_above : (e : ConfigAt) → In e w.configs → first ≡ 0 → e.rev ≤ floor → nat_lt w.floor e.rev ≡ true → ⊥
          none_above e k none low_e t = let a = ltb-true w.floor e.rev t in let b = none_between e k a low_e in omega (arith, a, b, none)

          by_there : (first ≡ 0) ⊎ ((w.floor < first) × ((e : ConfigAt) × In e w.configs × (e.rev ≡ first))) → ⊥
          by_there (inl none) = elim (or_cases (nat_lt w.floor c.rev) (nat_lt w.floor d.rev) late) [ inl t ↦ none_above c i none low_c t | inr t ↦ none_above d j none low_d t ]
          by_there (inr some) =
              let s = some.0 in let p = fc in let q = fd in
              let a = none_between c i (omega (arith, s, p)) low_c in let b = none_between d j (omega (arith, s, q)) low_d in
              apart (omega (arith, a, b, p, q))

      by_floor : (c.rev ≡ d.rev → ⊥) → (nat_lt w.floor c.rev || nat_lt w.floor d.rev) ≡ true → (nat_lt floor c.rev || nat_lt floor d.rev) ≡ true
      by_floor apart late = elim (cases_lt floor c.rev) [
        | inl lt ↦ or_left (nat_lt floor c.rev) (nat_lt floor d.rev) (lt-ltb floor c.rev lt)
        | inr low_c ↦ elim (cases_lt floor d.rev) [
          | inl lt ↦ or_right (nat_lt floor c.rev) (nat_lt floor d.rev) (lt-ltb floor d.rev lt)
          | inr low_d ↦ absurd (both_low apart late low_c low_d)
        ]
      ]

      by_same : (b : Bool) → (c.rev == d.rev) ≡ b → cond b false (nat_lt w.floor c.rev || nat_lt w.floor d.rev) ≡ true → cond b false (nat_lt floor c.rev || nat_lt floor d.rev) ≡ true
      by_same true e h = h
      by_same false e h = by_floor (eqb-false c.rev d.rev e) h

  whole_now : (rev : ℕ) → floor < rev → rev ≤ w.newest → brings_one now rev ≡ true
  whole_now rev from to =
      ap (λ o. is_one o (list_any (is_moved rev) now.spans)) (same_config_at rev from) ∙ ap (is_one (config_at rev w.configs)) (same_any_moved rev from) ∙ sound.whole rev (omega (arith, above, from)) to

  apart_now : Pairwise are_apart now.spans
  apart_now = pairwise_kept (is_late floor) are_apart are_apart w.spans (λ x y i j p q h. h) sound.apart

  distinct_all : Pairwise (are_distinct floor) now.configs
  distinct_all = pairwise_kept (is_from first) (are_distinct w.floor) (are_distinct floor) w.configs distinct_now sound.distinct

  is_whole : IsWhole now
  is_whole = record { order = below; spans_are = all_from (IsSpan floor w.newest) now.spans spans_now; apart = apart_now; distinct = distinct_all; whole = whole_now }

  held_now : (newest_of (history_of now)).held.tuples ≡ (newest_of (history_of w)).held.tuples
  held_now =
      ap (λ (s : Snap). s.tuples) (held_newest now is_whole) ∙ same_alive w.newest below ∙ sym (ap (λ (s : Snap). s.tuples) (held_newest w (whole_of w sound)))

  fewer : spans_of (after_trim (history_of w) floor) ≤ spans_of (history_of w)
  fewer = let split = spans_split (history_of w) floor in let within = tuples_within (history_of w).base (take (floor - w.floor) (history_of w).commits) in omega (arith, split, within)

  pub trimmed_sound : IsSound now
  trimmed_sound = record {
    number_is = sound.number_is;
    order = below;
    revs = sound.revs;
    spans_are = is_whole.spans_are;
    apart = apart_now;
    configs_are = all_from (IsConfigAt w.newest) now.configs (λ c i. config_is c (kept_in (is_from first) w.configs c i).0);
    distinct = distinct_all;
    whole = whole_now;
    admitted = λ rev from to. all_from (λ l. is_alive rev l ≡ true → admits (config_up_to rev now.configs) l.tuple ≡ true) now.spans (λ l i alive.
        ap (λ c. admits c l.tuple) (same_config rev from)
        ∙ all_in (λ m. is_alive rev m ≡ true → admits (config_up_to rev w.configs) m.tuple ≡ true) w.spans (sound.admitted rev (omega (arith, above, from)) to) l (kept_in (is_late floor) w.spans l i).0 alive);
    rows = subst (λ r. spans_of r ≤ MAX_ROWS) (sym trimmed_history) (let f = fewer in let a = sound.rows in omega (arith, f, a));
    tuples = subst (λ s. set.len s ≤ MAX_TUPLES) (sym held_now) sound.tuples;
  }

-- ---- the contents

same_as : {A : Type 0} (xs ys zs : List A) → IsPermutation xs ys → ys ≡ zs → IsPermutation xs zs
same_as xs ys zs p e = subst (λ v. IsPermutation xs v) e p

floor_set : (w v : Written) (floor : ℕ) → v.number ≡ w.number → v.floor ≡ floor → v.newest ≡ w.newest → map (with_value (codes "floor") floor) (entries_of w) ≡ entries_of v
floor_set w v floor a b c = cc

trimmed_written : (h : Contents) (w : Written) (floor first : ℕ) → IsWritten h w → IsWritten (steps.after_trim floor first h) (trimmed w floor first)
trimmed_written h w floor first is = record {
  spans = same_as _ _ _ (IsPermutation-filter _ h.spans (map span_of w.spans) is.spans) (seen_kept span_of _ w.spans);
  configs = same_as _ _ _ (IsPermutation-filter _ h.configs (map config_row_of w.configs) is.configs) (seen_kept config_row_of _ w.configs);
  entries = same_as _ _ _ (IsPermutation-map (with_value (codes "floor") floor) h.entries (entries_of w) is.entries) (floor_set w (trimmed w floor first) floor refl refl refl);
}

between_is : (w : Written) (floor : ℕ) → w.floor ≤ floor → floor ≤ w.newest → commits_between (history_of w) w.floor floor ≡ commits_above w w.floor (floor - w.floor)
between_is w floor above below =
    ap (λ k. take (floor - w.floor) (drop k (commits_above w w.floor (w.newest - w.floor)))) none
    ∙ ap (take (floor - w.floor)) (drop_none (commits_above w w.floor (w.newest - w.floor)))
    ∙ commits_take w (floor - w.floor) (w.newest - w.floor) w.floor (omega (arith, above, below))
  where
    none : w.floor - w.floor ≡ 0
    none = omega arith

from_rows : (h : Contents) (w : Written) (floor first : ℕ) → IsWritten h w → IsSound w → IsTrimTo (history_of w) floor first → IsHistory (steps.after_trim floor first h) (after_trim (history_of w) floor)
from_rows h w floor first is sound to =
    let above = to.above in
    let below : floor ≤ w.newest = subst (λ n. floor ≤ n) (newest_is w sound) to.below in
    let last : IsLast w 0 w.floor (floor - w.floor) first = subst (IsLast w 0 w.floor (floor - w.floor)) (sym (to.first_is ∙ ap (last_config 0 w.floor) (between_is w floor above below))) (last_says w (floor - w.floor) 0 w.floor (omega arith)) in
    (trimmed w floor first, trimmed_written h w floor first is, trimmed_sound w sound floor first above below last, trimmed_history w sound floor first above below last)

-- the contents after a trim are the history from the floor on
pub trim_next : (h : Contents) (r : Retained) (floor first : ℕ) → IsHistory h r → IsTrimTo r floor first → IsHistory (steps.after_trim floor first h) (after_trim r floor)
trim_next h r floor first (w, is, sound, same) to =
    subst (λ (q : Retained). IsHistory (steps.after_trim floor first h) (after_trim q floor)) same (from_rows h w floor first is sound (subst (λ (q : Retained). IsTrimTo q floor first) (sym same) to))
