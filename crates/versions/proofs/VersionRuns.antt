-- The versions of a history, and what its revisions hold.
use Rattle.std.proofs.Common.{◌≡◌, ℕ, ◌+◌, ◌-◌, ◌<◌, ◌≤◌, List, [], ◌∷◌, ◌++◌, length, take, zero, suc, get_or, refl, ap, sym, ◌∙◌, append_assoc, arith}
use Rattle.std.specs.List.{AllWithin}
use Rattle.std.proofs.lemmas.List.{take_all}
use Rattle.std.specs.Prelude.{Bool, true, false, cond, not, ◌||◌, ◌&&◌, nat_le}
use Rattle.std.proofs.lemmas.List.{append-nil}
use Rattle.std.proofs.Math.Seq.{take-suc}
use Rattle.std.proofs.lemmas.Bool.{le-leb, lt-leb}
use Rattle.names.specs.Order.{is_same_tuple}
use Rattle.names.specs.declared.tuple.Tuple.{Tuple}
use Rattle.names.specs.declared.commit.Event.{Event}
use Rattle.names.specs.declared.commit.EventKind.{EventKind}
use Rattle.names.specs.declared.commit.EventKind.TheVariants.{Put, Del}
use Rattle.names.specs.declared.commit.Commit.{Commit}
use Rattle.names.specs.declared.commit.Commit.TheVariants as kinds
use Rattle.meaning.specs.TupleSet as set
use Rattle.meaning.specs.TupleSet.{Tuples}
use Rattle.meaning.specs.Config.{Configured}
use Rattle.meaning.specs.Snap.{Snap}
use Rattle.meaning.specs.History.{History, after_kind, after_event, replay, after_commit, after_commits}
use Rattle.meaning.proofs.TupleSets.{contains_insert, contains_remove}
use Rattle.versions.specs.declared.version.Version.{Version}
use Rattle.versions.specs.Versions.{is_put, version_of, versions_in, commit_versions, versions_after, base_versions, stands_from, stands, last_from, is_there, last_rev_from, IsRising}

pub take_none : {A : Type 0} (xs : List A) → take 0 xs ≡ []
take_none [] = refl
take_none (x ∷ xs) = refl

-- a new commit's versions come after the others
pub versions_push : (n : ℕ) (h : History) (c : Commit Configured) (q : Tuple) → versions_after n (h ++ c ∷ []) q ≡ versions_after n h q ++ commit_versions (n + length h + 1) c q
versions_push n [] c q = append-nil _ ∙ ap (λ r. commit_versions r c q) (omega arith)
versions_push n (b ∷ h) c q =
    ap (λ ms. commit_versions (n + 1) b q ++ ms) (versions_push (n + 1) h c q)
    ∙ sym (append_assoc (commit_versions (n + 1) b q) (versions_after (n + 1) h q) _)
    ∙ ap (λ r. commit_versions (n + 1) b q ++ versions_after (n + 1) h q ++ commit_versions r c q) (omega arith)

-- one event
pub after_one : (s : Tuples) (k : EventKind) (t q : Tuple) → set.contains (after_kind k t s) q ≡ cond (is_same_tuple q t) (is_put k) (set.contains s q)
after_one s Put t q = contains_insert s t q ∙ put_cond (is_same_tuple q t) (set.contains s q)
  where
    put_cond : (a c : Bool) → (a || c) ≡ cond a true c
    put_cond true c = refl
    put_cond false c = refl
after_one s Del t q = contains_remove s t q ∙ del_cond (is_same_tuple q t) (set.contains s q)
  where
    del_cond : (a c : Bool) → (not a && c) ≡ cond a false c
    del_cond true c = refl
    del_cond false c = refl

-- events at a revision that counts, before what comes later
pub stands_in : (s : Tuples) (n rev : ℕ) (es : List Event) (q : Tuple) (later : List Version) → nat_le n rev ≡ true
    → stands_from (set.contains s q) (versions_in n es q ++ later) rev ≡ stands_from (set.contains (replay s es) q) later rev
stands_in s n rev [] q later h = refl
stands_in s n rev (e ∷ es) q later h = by_same (is_same_tuple q e.tuple) (after_one s e.kind e.tuple q) (stands_in (after_event s e) n rev es q later h)
  where
    by_same : (same : Bool) → set.contains (after_event s e) q ≡ cond same (is_put e.kind) (set.contains s q)
        → stands_from (set.contains (after_event s e) q) (versions_in n es q ++ later) rev ≡ stands_from (set.contains (replay (after_event s e) es) q) later rev
        → stands_from (set.contains s q) (cond same (version_of n e ∷ versions_in n es q) (versions_in n es q) ++ later) rev ≡ stands_from (set.contains (replay (after_event s e) es) q) later rev
    by_same true is rest = ap (λ b. stands_from (cond b (is_put e.kind) (set.contains s q)) (versions_in n es q ++ later) rev) h ∙ ap (λ b. stands_from b (versions_in n es q ++ later) rev) (sym is) ∙ rest
    by_same false is rest = ap (λ b. stands_from b (versions_in n es q ++ later) rev) (sym is) ∙ rest

stands_commit : (s : Snap) (n rev : ℕ) (c : Commit Configured) (q : Tuple) (later : List Version) → nat_le n rev ≡ true
    → stands_from (set.contains s.tuples q) (commit_versions n c q ++ later) rev ≡ stands_from (set.contains (after_commit s c).tuples q) later rev
stands_commit s n rev (kinds.Tuples es) q later h = stands_in s.tuples n rev es q later h
stands_commit s n rev (kinds.Config config) q later h = refl

-- versions of later revisions do not count
late_in : (b : Bool) (n rev : ℕ) (es : List Event) (q : Tuple) (later : List Version) → nat_le n rev ≡ false
    → stands_from b (versions_in n es q ++ later) rev ≡ stands_from b later rev
late_in b n rev [] q later h = refl
late_in b n rev (e ∷ es) q later h = by_same (is_same_tuple q e.tuple) (late_in b n rev es q later h)
  where
    by_same : (same : Bool) → stands_from b (versions_in n es q ++ later) rev ≡ stands_from b later rev
        → stands_from b (cond same (version_of n e ∷ versions_in n es q) (versions_in n es q) ++ later) rev ≡ stands_from b later rev
    by_same true rest = ap (λ t. stands_from (cond t (is_put e.kind) b) (versions_in n es q ++ later) rev) h ∙ rest
    by_same false rest = rest

late_commit : (b : Bool) (n rev : ℕ) (c : Commit Configured) (q : Tuple) (later : List Version) → nat_le n rev ≡ false
    → stands_from b (commit_versions n c q ++ later) rev ≡ stands_from b later rev
late_commit b n rev (kinds.Tuples es) q later h = late_in b n rev es q later h
late_commit b n rev (kinds.Config config) q later h = refl

late : (b : Bool) (n rev : ℕ) (h : History) (q : Tuple) → rev ≤ n → stands_from b (versions_after n h q) rev ≡ b
late b n rev [] q small = refl
late b n rev (c ∷ h) q small = late_commit b (n + 1) rev c q (versions_after (n + 1) h q) (lt-leb (n + 1) rev (omega (arith, small))) ∙ late b (n + 1) rev h q (omega (arith, small))

-- what a revision holds, by the versions
pub snap_from : (s : Snap) (n k : ℕ) (h : History) (q : Tuple) → set.contains (after_commits s (take k h)).tuples q ≡ stands_from (set.contains s.tuples q) (versions_after n h q) (n + k)
snap_from s n zero h q = ap (λ (cs : History). set.contains (after_commits s cs).tuples q) (take_none h) ∙ sym (late (set.contains s.tuples q) n (n + 0) h q (omega arith))
snap_from s n (suc k) [] q = refl
snap_from s n (suc k) (c ∷ h) q =
    snap_from (after_commit s c) (n + 1) k h q
    ∙ ap (λ r. stands_from (set.contains (after_commit s c).tuples q) (versions_after (n + 1) h q) r) (omega arith)
    ∙ sym (stands_commit s (n + 1) (n + suc k) c q (versions_after (n + 1) h q) (le-leb (n + 1) (n + suc k) (omega arith)))

-- the last version
pub last_in : (s : Tuples) (n : ℕ) (es : List Event) (q : Tuple) (later : List Version)
    → last_from (set.contains s q) (versions_in n es q ++ later) ≡ last_from (set.contains (replay s es) q) later
last_in s n [] q later = refl
last_in s n (e ∷ es) q later = by_same (is_same_tuple q e.tuple) (after_one s e.kind e.tuple q) (last_in (after_event s e) n es q later)
  where
    by_same : (same : Bool) → set.contains (after_event s e) q ≡ cond same (is_put e.kind) (set.contains s q)
        → last_from (set.contains (after_event s e) q) (versions_in n es q ++ later) ≡ last_from (set.contains (replay (after_event s e) es) q) later
        → last_from (set.contains s q) (cond same (version_of n e ∷ versions_in n es q) (versions_in n es q) ++ later) ≡ last_from (set.contains (replay (after_event s e) es) q) later
    by_same true is rest = ap (λ b. last_from b (versions_in n es q ++ later)) (sym is) ∙ rest
    by_same false is rest = ap (λ b. last_from b (versions_in n es q ++ later)) (sym is) ∙ rest

last_commit : (s : Snap) (n : ℕ) (c : Commit Configured) (q : Tuple) (later : List Version)
    → last_from (set.contains s.tuples q) (commit_versions n c q ++ later) ≡ last_from (set.contains (after_commit s c).tuples q) later
last_commit s n (kinds.Tuples es) q later = last_in s.tuples n es q later
last_commit s n (kinds.Config config) q later = refl

pub last_of : (s : Snap) (n : ℕ) (h : History) (q : Tuple) → last_from (set.contains s.tuples q) (versions_after n h q) ≡ set.contains (after_commits s h).tuples q
last_of s n [] q = refl
last_of s n (c ∷ h) q = last_commit s (n + 1) c q (versions_after (n + 1) h q) ∙ last_of (after_commit s c) (n + 1) h q

pub last_two : (b : Bool) (xs ys : List Version) → last_from b (xs ++ ys) ≡ last_from (last_from b xs) ys
last_two b [] ys = refl
last_two b (x ∷ xs) ys = last_two x.put xs ys

-- with what the floor holds
pub based_stands : (b : Bool) (ms : List Version) (rev : ℕ) → stands (base_versions b ++ ms) rev ≡ stands_from b ms rev
based_stands true ms rev = ap (λ t. stands_from (cond t true false) ms rev) (le-leb 0 rev (omega arith))
based_stands false ms rev = refl

pub based_last : (b : Bool) (ms : List Version) → is_there (base_versions b ++ ms) ≡ last_from b ms
based_last true ms = refl
based_last false ms = refl

-- the last of a list
pub last_put : (b : Bool) (ms : List Version) (k : ℕ) (d : Version) → suc k ≡ length ms → (get_or ms k d).put ≡ last_from b ms
last_put b [] k d h = absurd (omega (arith, h))
last_put b (x ∷ []) zero d h = refl
last_put b (x ∷ y ∷ ys) zero d h = absurd (omega (arith, h))
last_put b (x ∷ xs) (suc k) d h = last_put x.put xs k d (omega (arith, h))

pub last_rev_is : (n : ℕ) (ms : List Version) (k : ℕ) (d : Version) → suc k ≡ length ms → (get_or ms k d).rev ≡ last_rev_from n ms
last_rev_is n [] k d h = absurd (omega (arith, h))
last_rev_is n (x ∷ []) zero d h = refl
last_rev_is n (x ∷ y ∷ ys) zero d h = absurd (omega (arith, h))
last_rev_is n (x ∷ xs) (suc k) d h = last_rev_is x.rev xs k d (omega (arith, h))

-- the last version that counts
stands_more : (b : Bool) (ms : List Version) (m : Version) (rev : ℕ) → stands_from b (ms ++ m ∷ []) rev ≡ cond (nat_le m.rev rev) m.put (stands_from b ms rev)
stands_more b [] m rev = refl
stands_more b (x ∷ ms) m rev = stands_more (cond (nat_le x.rev rev) x.put b) ms m rev

-- where the version at k counts, it decides; else those before it do
module _ (ms : List Version) (k : ℕ) (d : Version) (rev : ℕ) (small : k < length ms) where
  stands_at : stands (take (suc k) ms) rev ≡ cond (nat_le (get_or ms k d).rev rev) (get_or ms k d).put (stands (take k ms) rev)
  stands_at = ap (λ xs. stands xs rev) (take-suc ms k d small) ∙ stands_more false (take k ms) (get_or ms k d) rev

  pub version_counts : (get_or ms k d).rev ≤ rev → stands (take (suc k) ms) rev ≡ (get_or ms k d).put
  version_counts h = stands_at ∙ ap (λ b. cond b (get_or ms k d).put (stands (take k ms) rev)) (le-leb (get_or ms k d).rev rev h)

  pub version_late : rev < (get_or ms k d).rev → stands (take (suc k) ms) rev ≡ stands (take k ms) rev
  version_late h = stands_at ∙ ap (λ b. cond b (get_or ms k d).put (stands (take k ms) rev)) (lt-leb (get_or ms k d).rev rev h)

-- the last version, where it counts
pub newest_counts : (ms : List Version) (k : ℕ) (d : Version) (rev : ℕ) → suc k ≡ length ms → (get_or ms k d).rev ≤ rev → (get_or ms k d).put ≡ stands ms rev
newest_counts ms k d rev last h =
    let small : k < length ms = omega (arith, last) in
    let whole : length ms ≤ suc k = omega (arith, last) in
    sym (version_counts ms k d rev small h) ∙ ap (λ xs. stands xs rev) (take_all (suc k) ms whole)

-- versions that are past the revision do not count
pub past_stands : (ms : List Version) (rev i : ℕ) → i ≤ length ms → AllWithin (λ m. rev < m.rev) ms i (length ms) → stands (take i ms) rev ≡ stands ms rev
past_stands ms rev i within past =
    let k : ℕ = length ms - i in
    let all : length ms ≤ i + k = omega (arith, within) in
    let most : i + k ≤ length ms = omega (arith, within) in
    sym (up_to k most) ∙ ap (λ xs. stands xs rev) (take_all (i + k) ms all)
  where
    d : Version
    d = record { rev = 0; put = true }

    up_to : (k : ℕ) → i + k ≤ length ms → stands (take (i + k) ms) rev ≡ stands (take i ms) rev
    up_to zero h = ap (λ (n : ℕ). stands (take n ms) rev) (omega arith)
    up_to (suc k) h =
        let next : i + suc k ≡ suc (i + k) = omega arith in
        ap (λ (n : ℕ). stands (take n ms) rev) next
        ∙ version_late ms (i + k) d rev (omega (arith, h)) (past (i + k) d (omega arith) (omega (arith, h)))
        ∙ up_to k (omega (arith, h))

-- where so many of the first versions count, the last of them decides
module _ (ms : List Version) (rev count : ℕ) (within : count ≤ length ms) (past : AllWithin (λ m. rev < m.rev) ms count (length ms)) where
  pub none_counts : count ≡ 0 → false ≡ stands ms rev
  none_counts none = ap (λ xs. stands xs rev) (sym (take_none ms)) ∙ ap (λ (n : ℕ). stands (take n ms) rev) (sym none) ∙ past_stands ms rev count within past

  pub last_counts : (k : ℕ) (d : Version) → suc k ≡ count → AllWithin (λ m. m.rev ≤ rev) ms 0 count → (get_or ms k d).put ≡ stands ms rev
  last_counts k d last up_to =
      let below : k < count = omega (arith, last) in
      let small : k < length ms = omega (arith, below, within) in
      sym (version_counts ms k d rev small (up_to k d (omega arith) below)) ∙ ap (λ (n : ℕ). stands (take n ms) rev) last ∙ past_stands ms rev count within past

-- ---- in the order of revisions

-- no revision is below the one before it
abbrev Rises : ℕ → List Version → Type 0
Rises low [] = Unit {0}
Rises low (m ∷ ms) = (low ≤ m.rev) × Rises m.rev ms

rises_lower : (low n : ℕ) (ms : List Version) → low ≤ n → Rises n ms → Rises low ms
rises_lower low n [] h r = tt
rises_lower low n (m ∷ ms) h r = let least = r.0 in (omega (arith, h, least), r.1)

rises_in : (low n : ℕ) (es : List Event) (q : Tuple) (later : List Version) → low ≤ n → Rises n later → Rises low (versions_in n es q ++ later)
rises_in low n [] q later h r = rises_lower low n later h r
rises_in low n (e ∷ es) q later h r = by_same (is_same_tuple q e.tuple) (rises_in n n es q later (omega arith) r) (rises_in low n es q later h r)
  where
    by_same : (same : Bool) → Rises n (versions_in n es q ++ later) → Rises low (versions_in n es q ++ later) → Rises low (cond same (version_of n e ∷ versions_in n es q) (versions_in n es q) ++ later)
    by_same true after rest = (h, after)
    by_same false after rest = rest

rises_commit : (low n : ℕ) (c : Commit Configured) (q : Tuple) (later : List Version) → low ≤ n → Rises n later → Rises low (commit_versions n c q ++ later)
rises_commit low n (kinds.Tuples es) q later h r = rises_in low n es q later h r
rises_commit low n (kinds.Config config) q later h r = rises_lower low n later h r

rises_after : (n : ℕ) (h : History) (q : Tuple) → Rises n (versions_after n h q)
rises_after n [] q = tt
rises_after n (c ∷ h) q = rises_commit n (n + 1) c q (versions_after (n + 1) h q) (omega arith) (rises_after (n + 1) h q)

at_least : (low : ℕ) (ms : List Version) → Rises low ms → (j : ℕ) (d : Version) → j < length ms → low ≤ (get_or ms j d).rev
at_least low [] r j d small = absurd (omega (arith, small))
at_least low (m ∷ ms) r zero d small = r.0
at_least low (m ∷ ms) r (suc j) d small = at_least low ms (rises_lower low m.rev ms r.0 r.1) j d (omega (arith, small))

rising : (low : ℕ) (ms : List Version) → Rises low ms → IsRising ms
rising low [] r i j d h small = absurd (omega (arith, small))
rising low (m ∷ ms) r zero zero d h small = omega arith
rising low (m ∷ ms) r zero (suc j) d h small = at_least m.rev ms r.1 j d (omega (arith, small))
rising low (m ∷ ms) r (suc i) zero d h small = absurd (omega (arith, h))
rising low (m ∷ ms) r (suc i) (suc j) d h small = rising m.rev ms r.1 i j d (omega (arith, h)) (omega (arith, small))

-- the versions of a history are
pub history_rises : (b : Bool) (n : ℕ) (h : History) (q : Tuple) → IsRising (base_versions b ++ versions_after n h q)
history_rises true n h q = rising 0 (base_versions true ++ versions_after n h q) (omega arith, rises_lower 0 n (versions_after n h q) (omega arith) (rises_after n h q))
history_rises false n h q = rising n (versions_after n h q) (rises_after n h q)
