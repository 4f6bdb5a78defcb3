-- Commits taken into what the floor holds.
use Rattle.std.proofs.Common.{◌≡◌, ℕ, ◌+◌, ◌-◌, ◌<◌, List, [], ◌∷◌, ◌++◌, length, take, drop, zero, suc, refl, ap, sym, subst, ◌∙◌, append_assoc, arith, get_or}
use Rattle.std.specs.Prelude.{Bool, true, false, cond, ◌==◌}
use Rattle.std.proofs.lemmas.List.{append-nil}
use Rattle.std.proofs.Math.Seq.{take-length}
use Rattle.names.specs.Order.{is_same_tuple}
use Rattle.names.specs.declared.tuple.Tuple.{Tuple}
use Rattle.names.specs.declared.commit.Event.{Event}
use Rattle.names.specs.declared.commit.EventKind.{EventKind}
use Rattle.names.specs.declared.commit.EventKind.TheVariants.{Put, Del}
use Rattle.names.specs.declared.commit.Commit.{Commit}
use Rattle.names.specs.declared.commit.Commit.TheVariants as kinds
use Rattle.meaning.specs.TupleSet as set
use Rattle.meaning.specs.TupleSet.{Tuples}
use Rattle.meaning.specs.Config.{Configured}
use Rattle.meaning.specs.Snap.{Snap}
use Rattle.meaning.specs.History.{History, after_kind, after_event, replay, after_commit, after_commits, puts_in, puts_of_kind, commit_rows, rows_of}
use Rattle.meaning.proofs.TupleSets.{len_insert, len_remove}
use Rattle.versions.specs.declared.version.Version.{Version}
use Rattle.versions.specs.Versions.{Entries, is_put, version_of, versions_in, commit_versions, versions_at, versions_after, base_versions, is_based, after_settle, after_settle_first, AreVersionsBefore, AreVersionsFrom, IsLater, SettlesEvents, SettlesCommits, EndsWithEvents, EndsWithCommit}
use Rattle.versions.proofs.VersionRuns.{after_one, take_none}
use Rattle.versions.proofs.Bases.{not_zero, based_in}
use Rattle.versions.proofs.Coming.{one, held_some}
use Rattle.versions.proofs.Steps.{replay_more}

pub after_push : (s : Snap) (h : History) (c : Commit Configured) → after_commits s (h ++ c ∷ []) ≡ after_commit (after_commits s h) c
after_push s [] c = refl
after_push s (b ∷ h) c = after_push (after_commit s b) h c

pub take_more : {A : Type 0} (xs : List A) (k : ℕ) (x : A) → k < length xs → x ≡ get_or xs k x → take (suc k) xs ≡ take k xs ++ x ∷ []
take_more [] k x small is = absurd (omega (arith, small))
take_more (y ∷ ys) zero x small is = ap (λ zs. y ∷ zs) (take_none ys) ∙ ap (λ z. z ∷ []) (sym is)
take_more (y ∷ ys) (suc k) x small is = ap (λ zs. y ∷ zs) (take_more ys k x (omega arith) is)

pub drop_none : {A : Type 0} (xs : List A) → drop 0 xs ≡ xs
drop_none [] = refl
drop_none (x ∷ xs) = refl

pub drop_all : {A : Type 0} (xs : List A) (k : ℕ) → k ≡ length xs → drop k xs ≡ []
drop_all xs k is = ap (λ n. drop n xs) is ∙ all xs
  where
    all : {A : Type 0} (xs : List A) → drop (length xs) xs ≡ []
    all [] = refl
    all (x ∷ xs) = all xs

pub take_all : {A : Type 0} (xs : List A) (k : ℕ) → k ≡ length xs → take k xs ≡ xs
take_all xs k is = ap (λ n. take n xs) is ∙ take-length xs

pub drop_here : {A : Type 0} (xs : List A) (k : ℕ) (x : A) → k < length xs → x ≡ get_or xs k x → drop k xs ≡ x ∷ drop (suc k) xs
drop_here [] k x small is = absurd (omega (arith, small))
drop_here (y ∷ ys) zero x small is = ap (λ z. z ∷ ys) (sym is) ∙ ap (λ zs. x ∷ zs) (sym (drop_none ys))
drop_here (y ∷ ys) (suc k) x small is = drop_here ys k x (omega arith) is

-- the oldest version
settle_is : (held : Bool) (m : Version) (rest : List Version) → (m.rev == 0) ≡ false → after_settle (base_versions held ++ m ∷ rest) ≡ base_versions m.put ++ rest
settle_is held m rest h = by_held held
  where
    first : (put : Bool) → cond put (record { rev = 0; put = true } ∷ rest) rest ≡ base_versions put ++ rest
    first true = refl
    first false = refl

    by_held : (held : Bool) → after_settle (base_versions held ++ m ∷ rest) ≡ base_versions m.put ++ rest
    by_held true = first m.put
    by_held false = ap (λ b. after_settle_first (cond b (drop 1 (m ∷ rest)) (m ∷ rest))) h ∙ first m.put

-- one event
pub settle_step : (m n : Entries) (tuples : Tuples) (rev : ℕ) (es : List Event) (k : ℕ) (e : Event) (later : Tuple → List Version)
    → k < length es → e ≡ get_or es k e → AreVersionsBefore m tuples rev (drop k es) later
    → ((q : Tuple) → versions_at n q ≡ cond (is_same_tuple q e.tuple) (after_settle (versions_at m q)) (versions_at m q))
    → AreVersionsBefore n (after_event tuples e) rev (drop (suc k) es) later
settle_step m n tuples rev es k e later small is was changed q =
    changed q
    ∙ ap (λ ms. cond (is_same_tuple q e.tuple) (after_settle ms) ms) (was q ∙ ap (λ (xs : List Event). base_versions (set.contains tuples q) ++ (versions_in (rev + 1) xs q ++ later q)) (drop_here es k e small is))
    ∙ by_same (is_same_tuple q e.tuple) (after_one tuples e.kind e.tuple q)
  where
    by_same : (same : Bool) → set.contains (after_event tuples e) q ≡ cond same (is_put e.kind) (set.contains tuples q)
        → cond same (after_settle (base_versions (set.contains tuples q) ++ (cond same (version_of (rev + 1) e ∷ versions_in (rev + 1) (drop (suc k) es) q) (versions_in (rev + 1) (drop (suc k) es) q) ++ later q)))
        (base_versions (set.contains tuples q) ++ (cond same (version_of (rev + 1) e ∷ versions_in (rev + 1) (drop (suc k) es) q) (versions_in (rev + 1) (drop (suc k) es) q) ++ later q))
        ≡ base_versions (set.contains (after_event tuples e) q) ++ (versions_in (rev + 1) (drop (suc k) es) q ++ later q)
    by_same true now =
        settle_is (set.contains tuples q) (version_of (rev + 1) e) (versions_in (rev + 1) (drop (suc k) es) q ++ later q) (not_zero rev)
        ∙ ap (λ b. base_versions b ++ (versions_in (rev + 1) (drop (suc k) es) q ++ later q)) (sym now)
    by_same false now = ap (λ b. base_versions b ++ (versions_in (rev + 1) (drop (suc k) es) q ++ later q)) (sym now)

based_before : (b : Bool) (ms : List Version) → is_based ms ≡ false → is_based (base_versions b ++ ms) ≡ b
based_before true ms h = refl
based_before false ms h = h

pub held_is : (m : Entries) (tuples : Tuples) (rev : ℕ) (es : List Event) (later : Tuple → List Version) (q : Tuple)
    → IsLater later → AreVersionsBefore m tuples rev es later → is_based (versions_at m q) ≡ set.contains tuples q
held_is m tuples rev es later q is_later was =
    ap is_based (was q) ∙ based_before (set.contains tuples q) (versions_in (rev + 1) es q ++ later q) (based_in rev es q (later q) (is_later q))

ended_one : (s : Tuples) (k : EventKind) (t : Tuple) → one (set.contains s t) + set.len (after_kind k t s) ≡ set.len s + puts_of_kind k
ended_one s Put t = by_held (set.contains s t) (len_insert s t)
  where
    by_held : (b : Bool) → set.len (set.insert s t) ≡ cond b (set.len s) (set.len s + 1) → one b + set.len (set.insert s t) ≡ set.len s + 1
    by_held true is = omega (arith, is)
    by_held false is = omega (arith, is)
ended_one s Del t = by_held (set.contains s t) (held_some s t) (len_remove s t)
  where
    by_held : (b : Bool) → (b ≡ true → 0 < set.len s) → set.len (set.remove s t) ≡ cond b (set.len s - 1) (set.len s) → one b + set.len (set.remove s t) ≡ set.len s + 0
    by_held true some is = let some_held = some refl in omega (arith, is, some_held)
    by_held false some is = omega (arith, is)

puts_more : (es : List Event) (k : ℕ) (e : Event) → k < length es → e ≡ get_or es k e → puts_in (take (suc k) es) ≡ puts_in (take k es) + puts_of_kind e.kind
puts_more [] k e small is = absurd (omega (arith, small))
puts_more (x ∷ es) zero e small is =
    let none : puts_in (take 0 es) ≡ 0 = ap puts_in (take_none es) in
    let same : puts_of_kind e.kind ≡ puts_of_kind x.kind = ap (λ (y : Event). puts_of_kind y.kind) is in
    omega (arith, none, same)
puts_more (x ∷ es) (suc k) e small is = let rest = puts_more es k e (omega arith) is in omega (arith, rest)

sums : (ended now all puts held after more next : ℕ) → ended + now ≡ all + puts → held + after ≡ now + more → next ≡ puts + more → (ended + held) + after ≡ all + next
sums ended now all puts held after more next p q r = omega (arith, p, q, r)

pub ended_step : (m : Entries) (tuples : Tuples) (rev : ℕ) (es : List Event) (k : ℕ) (e : Event) (later : Tuple → List Version) (ended new : ℕ) (held : Bool)
    → k < length es → e ≡ get_or es k e → IsLater later → AreVersionsBefore m (replay tuples (take k es)) rev (drop k es) later
    → held ≡ is_based (versions_at m e.tuple) → new ≡ ended + one held
    → ended + set.len (replay tuples (take k es)) ≡ set.len tuples + puts_in (take k es)
    → new + set.len (replay tuples (take (suc k) es)) ≡ set.len tuples + puts_in (take (suc k) es)
ended_step m tuples rev es k e later ended new held small is is_later was held_now now sum =
    let t : Tuples = replay tuples (take k es) in
    let held_in : held ≡ set.contains t e.tuple = held_now ∙ held_is m t rev (drop k es) later e.tuple is_later was in
    ap (λ s. new + set.len s) (replay_more tuples es k e small is)
    ∙ ap (λ x. x + set.len (after_event t e)) (now ∙ ap (λ b. ended + one b) held_in)
    ∙ sums ended (set.len t) (set.len tuples) (puts_in (take k es)) (one (set.contains t e.tuple)) (set.len (after_event t e)) (puts_of_kind e.kind) (puts_in (take (suc k) es))
    sum (ended_one t e.kind e.tuple) (puts_more es k e small is)

pub one_commit : (m : Entries) (tuples : Tuples) (rev : ℕ) (es : List Event) (later : Tuple → List Version) → AreVersionsFrom m tuples rev (kinds.Tuples es ∷ []) later → AreVersionsBefore m tuples rev es later
one_commit m tuples rev es later was q = was q ∙ ap (λ ms. base_versions (set.contains tuples q) ++ (ms ++ later q)) (append-nil (versions_in (rev + 1) es q))

-- one commit, of events or of a configuration
pub settles_events : (m n : Entries) (es : List Event) → SettlesEvents m es n → SettlesCommits m (kinds.Tuples es ∷ []) n
settles_events m n es settles = λ s rev later is_later was. settles s.tuples rev later is_later (one_commit m s.tuples rev es later was)

pub ends_with_events : (m : Entries) (es : List Event) (ended : ℕ) → EndsWithEvents m es ended → EndsWithCommit m (kinds.Tuples es) ended
ends_with_events m es ended ends = λ s rev later is_later was. ends s.tuples rev later is_later (one_commit m s.tuples rev es later was)

pub settles_config : (m : Entries) (config : Configured) → SettlesCommits m (kinds.Config config ∷ []) m
settles_config m config = λ s rev later is_later was. was

pub ends_with_config : (m : Entries) (config : Configured) → EndsWithCommit m (kinds.Config config) 0
ends_with_config m config = λ s rev later is_later was. omega arith

based_all : (n : ℕ) (h : History) (q : Tuple) (later : List Version) → is_based later ≡ false → is_based (versions_after n h q ++ later) ≡ false
based_all n [] q later is = is
based_all n (kinds.Tuples es ∷ h) q later is =
    ap is_based (append_assoc (versions_in (n + 1) es q) (versions_after (n + 1) h q) later) ∙ based_in n es q (versions_after (n + 1) h q ++ later) (based_all (n + 1) h q later is)
based_all n (kinds.Config config ∷ h) q later is = based_all (n + 1) h q later is

-- commits after it
first_commit : (m : Entries) (tuples : Tuples) (rev : ℕ) (c : Commit Configured) (h : History) (later : Tuple → List Version)
    → AreVersionsFrom m tuples rev (c ∷ h) later → AreVersionsFrom m tuples rev (c ∷ []) (λ q. versions_after (rev + 1) h q ++ later q)
first_commit m tuples rev c h later was q =
    was q
    ∙ ap (λ ms. base_versions (set.contains tuples q) ++ ms)
    (append_assoc (commit_versions (rev + 1) c q) (versions_after (rev + 1) h q) (later q) ∙ ap (λ ms. ms ++ (versions_after (rev + 1) h q ++ later q)) (sym (append-nil (commit_versions (rev + 1) c q))))

pub commit_step : (m n : Entries) (s : Snap) (rev : ℕ) (h : History) (k : ℕ) (c : Commit Configured) (later : Tuple → List Version) (ended : ℕ)
    → k < length h → c ≡ get_or h k c → IsLater later → SettlesCommits m (c ∷ []) n → EndsWithCommit m c ended → AreVersionsFrom m (after_commits s (take k h)).tuples (rev + k) (drop k h) later
    → AreVersionsFrom n (after_commits s (take (suc k) h)).tuples (rev + suc k) (drop (suc k) h) later
    × (ended + set.len (after_commits s (take (suc k) h)).tuples ≡ set.len (after_commits s (take k h)).tuples + commit_rows c)
commit_step m n s rev h k c later ended small is is_later settles ends was =
    let here : AreVersionsFrom m (after_commits s (take k h)).tuples (rev + k) (c ∷ drop (suc k) h) later =
    subst (λ (x : History). AreVersionsFrom m (after_commits s (take k h)).tuples (rev + k) x later) (drop_here h k c small is) was in
    let rest : Tuple → List Version = λ q. versions_after (rev + k + 1) (drop (suc k) h) q ++ later q in
    let rest_later : IsLater rest = λ q. based_all (rev + k + 1) (drop (suc k) h) q (later q) (is_later q) in
    let first = first_commit m (after_commits s (take k h)).tuples (rev + k) c (drop (suc k) h) later here in
    let next : after_commit (after_commits s (take k h)) c ≡ after_commits s (take (suc k) h) = sym (ap (after_commits s) (take_more h k c small is) ∙ after_push s (take k h) c) in
    let place : rev + k + 1 ≡ rev + suc k = omega arith in (
      λ q. settles (after_commits s (take k h)) (rev + k) rest rest_later first q ∙ ap (λ (x : Snap). base_versions (set.contains x.tuples q) ++ (versions_after (rev + k + 1) (drop (suc k) h) q ++ later q)) next
          ∙ ap (λ r. base_versions (set.contains (after_commits s (take (suc k) h)).tuples q) ++ (versions_after r (drop (suc k) h) q ++ later q)) place,
      ap (λ (x : Snap). ended + set.len x.tuples) (sym next) ∙ ends (after_commits s (take k h)) (rev + k) rest rest_later first,
    )

pub rows_here : (h : History) (k : ℕ) (c : Commit Configured) → k < length h → c ≡ get_or h k c → rows_of (drop k h) ≡ commit_rows c + rows_of (drop (suc k) h)
rows_here h k c small is = ap rows_of (drop_here h k c small is)
