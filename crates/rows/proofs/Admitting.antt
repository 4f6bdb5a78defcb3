-- What keeps a history's tuples admitted.
use Rattle.std.proofs.Common.{◌≡◌, ℕ, ◌+◌, ◌-◌, ◌≤◌, Bool, true, false, not, List, [], ◌∷◌, ◌++◌, map, length, take, drop, zero, suc, refl, ap, sym, subst, ◌∙◌, arith, cond, Some, None, inl, inr}
use Rattle.std.specs.Prelude.{◌⊎◌, Contains}
use Rattle.std.specs.List.{list_any, find}
use Rattle.std.specs.Ordering.{eq_by_cmp}
use Rattle.std.proofs.lemmas.Bool.{true≢false, or_cases, or_parts, and_parts}
use Rattle.std.proofs.lemmas.Map.Views.{tells_apart}
use Rattle.std.proofs.Math.Seq.{take-length}
use Rattle.names.specs.Order.{tuple_cmp}
use Rattle.names.specs.declared.tuple.Tuple.{Tuple}
use Rattle.names.specs.declared.commit.Event.{Event}
use Rattle.names.specs.declared.commit.EventKind.{EventKind}
use Rattle.names.specs.declared.commit.EventKind.TheVariants.{Put, Del}
use Rattle.names.specs.declared.commit.Commit.{Commit}
use Rattle.meaning.specs.Config.{Configured}
use Rattle.meaning.specs.Snap.{Snap}
use Rattle.meaning.specs.TupleSet as set
use Rattle.meaning.specs.TupleSet.{Tuples}
use Rattle.meaning.specs.Admits.{admits}
use Rattle.meaning.specs.History.{History, after_kind, after_event, replay, after_commit, after_commits}
use Rattle.meaning.specs.Verdict.{is_untyped}
use Rattle.meaning.proofs.Lists.{contains_cases, contains_none, contains_here, contains_there}
use Rattle.meaning.proofs.TupleSets.{exact_tuples, contains_empty, contains_iff, contains_insert, contains_remove}
use Rattle.rows.specs.Retained.{Retained, newest, newest_of, snap_at, AreAdmitted, IsAdmitted, with_commit, after_trim}
use Rattle.rows.specs.Follows.{touch_of}
use Rattle.versions.proofs.VersionRuns.{take_none}
use Rattle.versions.proofs.Settling.{drop_none}

-- ---- the snapshots of a history

-- what the floor holds is admitted, and what each commit leaves
abbrev pub AllAdmitted : Snap → History → Type 0
AllAdmitted s [] = AreAdmitted s
AllAdmitted s (c ∷ h) = AreAdmitted s × AllAdmitted (after_commit s c) h

pub all_first : (s : Snap) (h : History) → AllAdmitted s h → AreAdmitted s
all_first s [] all = all
all_first s (c ∷ h) all = all.0

pub all_at : (s : Snap) (h : History) (k : ℕ) → AllAdmitted s h → AreAdmitted (after_commits s (take k h))
all_at s h zero all = subst (λ (x : History). AreAdmitted (after_commits s x)) (sym (take_none h)) (all_first s h all)
all_at s [] (suc k) all = all
all_at s (c ∷ h) (suc k) all = all_at (after_commit s c) h k all.1

pub all_from : (s : Snap) (h : History) → ((k : ℕ) → k ≤ length h → AreAdmitted (after_commits s (take k h))) → AllAdmitted s h
all_from s [] each = each 0 (omega arith)
all_from s (c ∷ h) each = (
  subst (λ (x : History). AreAdmitted (after_commits s x)) (take_none (c ∷ h)) (each 0 (omega arith)),
  all_from (after_commit s c) h (λ k within. each (suc k) (omega (arith, within))),
)

all_push : (s : Snap) (h : History) (c : Commit Configured) → AllAdmitted s h → AreAdmitted (after_commit (after_commits s h) c) → AllAdmitted s (h ++ c ∷ [])
all_push s [] c all last = (all, last)
all_push s (d ∷ h) c all last = (all.0, all_push (after_commit s d) h c all.1 last)

all_before : (s : Snap) (h : History) (c : Commit Configured) → AllAdmitted s (h ++ c ∷ []) → AllAdmitted s h
all_before s [] c all = all.0
all_before s (d ∷ h) c all = (all.0, all_before (after_commit s d) h c all.1)

all_after : (s : Snap) (h : History) (k : ℕ) → AllAdmitted s h → AllAdmitted (after_commits s (take k h)) (drop k h)
all_after s h zero all =
    subst (λ (x : History). AllAdmitted (after_commits s x) (drop 0 h)) (sym (take_none h)) (subst (λ (x : History). AllAdmitted s x) (sym (drop_none h)) all)
all_after s [] (suc k) all = all
all_after s (c ∷ h) (suc k) all = all_after (after_commit s c) h k all.1

-- ---- the same of what is retained

pub to_all : (r : Retained) → IsAdmitted r → AllAdmitted r.base r.commits
to_all r admitted = all_from r.base r.commits (λ k within.
    let above : (r.floor + k) - r.floor ≡ k = omega arith in
    subst (λ (n : ℕ). AreAdmitted (after_commits r.base (take n r.commits))) above
    (admitted (r.floor + k) (record { not_below = omega arith; not_above = omega (arith, within) })))

pub of_all : (r : Retained) → AllAdmitted r.base r.commits → IsAdmitted r
of_all r all rev retained = all_at r.base r.commits (rev - r.floor) all

pub newest_admitted : (r : Retained) → IsAdmitted r → AreAdmitted (newest_of r).held
newest_admitted r admitted = last r.base r.commits (to_all r admitted)
  where
    last : (s : Snap) (h : History) → AllAdmitted s h → AreAdmitted (after_commits s h)
    last s [] all = all
    last s (c ∷ h) all = last (after_commit s c) h all.1

pub admitted_with : (r : Retained) (c : Commit Configured) → IsAdmitted r → AreAdmitted (after_commit (newest_of r).held c) → IsAdmitted (with_commit r c)
admitted_with r c admitted last = of_all (with_commit r c) (all_push r.base r.commits c (to_all r admitted) last)

pub admitted_without : (r : Retained) (c : Commit Configured) → IsAdmitted (with_commit r c) → IsAdmitted r
admitted_without r c admitted = of_all r (all_before r.base r.commits c (to_all (with_commit r c) admitted))

pub admitted_after_trim : (r : Retained) (floor : ℕ) → IsAdmitted r → IsAdmitted (after_trim r floor)
admitted_after_trim r floor admitted = of_all (after_trim r floor) (all_after r.base r.commits (floor - r.floor) (to_all r admitted))

-- where there is no tuple, each is admitted
pub none_admitted : (config : Configured) → AreAdmitted (record { config = config; tuples = set.empty })
none_admitted config t there = absurd (true≢false (sym there ∙ contains_empty t))

-- ---- a commit that can follow

one_tuple : (t u : Tuple) → eq_by_cmp tuple_cmp t u ≡ true → t ≡ u
one_tuple = tells_apart exact_tuples

admitted : (b : Bool) → not b ≡ false → b ≡ true
admitted true h = refl
admitted false h = absurd (true≢false h)

-- the configuration admits each of the tuples
abbrev pub Within : Configured → Tuples → Type 0
Within config tuples = (t : Tuple) → set.contains tuples t ≡ true → admits config t ≡ true

within_event : (config : Configured) (tuples : Tuples) (k : EventKind) (u : Tuple) → Within config tuples → not (admits config u) ≡ false → Within config (after_kind k u tuples)
within_event config tuples Put u within typed t there = by_which (or_cases (eq_by_cmp tuple_cmp t u) (set.contains tuples t) (sym (contains_insert tuples u t) ∙ there))
  where
    by_which : (eq_by_cmp tuple_cmp t u ≡ true) ⊎ (set.contains tuples t ≡ true) → admits config t ≡ true
    by_which (inl same) = ap (admits config) (one_tuple t u same) ∙ admitted (admits config u) typed
    by_which (inr old) = within t old
within_event config tuples Del u within typed t there =
    within t (and_parts (not (eq_by_cmp tuple_cmp t u)) (set.contains tuples t) (sym (contains_remove tuples u t) ∙ there)).1

-- tuples stay admitted where those of the events are
pub within_events : (config : Configured) (tuples : Tuples) (events : List Event) → Within config tuples → list_any (is_untyped config) (map touch_of events) ≡ false → Within config (replay tuples events)
within_events config tuples [] within typed = within
within_events config tuples (e ∷ es) within typed =
    let each = or_parts (is_untyped config (touch_of e)) (list_any (is_untyped config) (map touch_of es)) typed in
    within_events config (after_event tuples e) es (within_event config tuples e.kind e.tuple within each.0) each.1

-- where a test finds nothing it is true of nothing
none_of : {A : Type 0} (p : A → Bool) (xs : List A) → find p xs ≡ None → (x : A) → Contains xs x → p x ≡ false
none_of {A = A} p [] h x c = absurd (contains_none x c)
none_of {A = A} p (y ∷ ys) h x c = by_test (p y) refl h (contains_cases y x ys c) (none_of p ys)
  where
    by_test : (b : Bool) → p y ≡ b → cond b (Some y) (find p ys) ≡ None → (y ≡ x) ⊎ Contains ys x → (find p ys ≡ None → (x : A) → Contains ys x → p x ≡ false) → p x ≡ false
    by_test true is h c rest = cc
    by_test false is h (inl e) rest = ap p (sym e) ∙ is
    by_test false is h (inr c) rest = rest h x c

-- a configuration admits the tuples where none is found that it does not admit
pub within_config : (config : Configured) (tuples : Tuples) → find (λ t. not (admits config t)) (set.items tuples) ≡ None → Within config tuples
within_config config tuples none t there = admitted (admits config t) (none_of (λ u. not (admits config u)) (set.items tuples) none t ((contains_iff tuples t).0 there))

-- where each element fails a test, none is found
none_found : {A : Type 0} (p : A → Bool) (xs : List A) → ((x : A) → Contains xs x → p x ≡ false) → find p xs ≡ None
none_found p [] fail = refl
none_found p (x ∷ xs) fail =
    ap (λ b. cond b (Some x) (find p xs)) (fail x (contains_here x xs)) ∙ none_found p xs (λ y has. fail y (contains_there x y xs has))

-- no tuple is in the way of a configuration that admits what the one before does
pub none_in_the_way : (s : Snap) (config : Configured) → AreAdmitted s → ((t : Tuple) → admits s.config t ≡ true → admits config t ≡ true) → find (λ t. not (admits config t)) (set.items s.tuples) ≡ None
none_in_the_way s config within more =
    none_found (λ t. not (admits config t)) (set.items s.tuples) (λ t has. ap not (more t (within t ((contains_iff s.tuples t).1 has))))

-- the newest revision holds what all commits give
pub newest_snap : (r : Retained) → snap_at r (newest r) ≡ (newest_of r).held
newest_snap r =
    let all : newest r - r.floor ≡ length r.commits = omega arith in
    ap (λ (n : ℕ). after_commits r.base (take n r.commits)) all ∙ ap (after_commits r.base) (take-length r.commits)
