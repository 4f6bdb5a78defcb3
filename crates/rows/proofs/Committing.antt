-- A commit more, or one less.
use Rattle.std.proofs.Common.{◌≡◌, ℕ, ◌+◌, ◌-◌, ◌≤◌, List, [], ◌∷◌, ◌++◌, length, take, ap, sym, subst, ◌∙◌, append_assoc, arith, length-append}
use Rattle.std.specs.Prelude.{Bool, true, false, cond}
use Rattle.std.specs.Prelude.{Result, Ok, Err, OnErr}
use Rattle.std.proofs.Math.Seq.{take-append_seam}
use Rattle.std.proofs.lemmas.List.{append-nil}
use Rattle.names.specs.declared.tuple.Tuple.{Tuple}
use Rattle.names.specs.declared.commit.Event.{Event}
use Rattle.names.specs.declared.commit.EventKind.{EventKind}
use Rattle.names.specs.declared.commit.EventKind.TheVariants.{Put, Del}
use Rattle.names.specs.declared.commit.Commit.{Commit}
use Rattle.names.specs.declared.commit.Commit.TheVariants as kinds
use Rattle.meaning.specs.TupleSet as set
use Rattle.meaning.specs.TupleSet.{Tuples}
use Rattle.meaning.specs.Config.{Configured}
use Rattle.meaning.specs.Snap.{Snap}
use Rattle.meaning.specs.History.{History, after_kind, after_event, replay, after_commit, after_commits, rows_of, commit_rows, puts_in, puts_of_kind}
use Rattle.meaning.proofs.TupleSets.{len_insert, len_remove}
use Rattle.rows.specs.declared.config_at.ConfigAt.{ConfigAt}
use Rattle.versions.specs.declared.change.Change.{Change}
use Rattle.rows.specs.declared.loaded.Counts.{Counts}
use Rattle.rows.specs.Retained.{Retained, newest, with_commit, HasRoom}
use Rattle.versions.specs.Versions.{Entries, commit_versions, versions_at, versions_after, base_versions, is_there, AreVersions, GoesOn, HasThese, Changes}
use Rattle.rows.specs.Representation.{configs_after, as_retained, IsConsistent}
use Rattle.versions.proofs.VersionRuns.{versions_push, based_last, last_of}
use Rattle.rows.proofs.Admitting.{admitted_with, admitted_without}
use Rattle.rows.proofs.Ordering.{ordered_push, ordered_before}
use Rattle.rows.proofs.ConfigsAt.{configs_push, configs_same}
use Rattle.versions.proofs.Bases.{base_is}
use Rattle.versions.proofs.Settling.{after_push}

pub rows_push : (h : History) (c : Commit Configured) → rows_of (h ++ c ∷ []) ≡ rows_of h + commit_rows c
rows_push [] c = omega arith
rows_push (b ∷ h) c = let rest = rows_push h c in omega (arith, rest)

pub length_push : (h : History) (c : Commit Configured) → length (h ++ c ∷ []) ≡ length h + 1
length_push h c = length-append h (c ∷ [])

pub last_off : {A : Type 0} (xs : List A) (x : A) → take (length (xs ++ x ∷ []) - 1) (xs ++ x ∷ []) ≡ xs
last_off xs x =
    let sum : length (xs ++ x ∷ []) ≡ length xs + length (x ∷ []) = length-append xs (x ∷ []) in
    ap (λ (n : ℕ). take n (xs ++ x ∷ [])) (omega (arith, sum)) ∙ take-append_seam xs (x ∷ [])

-- there are no more tuples than rows
within_one : (s : Tuples) (k : EventKind) (t : Tuple) → set.len (after_kind k t s) ≤ set.len s + puts_of_kind k
within_one s Put t = by_held (set.contains s t) (len_insert s t)
  where
    by_held : (b : Bool) → set.len (set.insert s t) ≡ cond b (set.len s) (set.len s + 1) → set.len (set.insert s t) ≤ set.len s + 1
    by_held true is = omega (arith, is)
    by_held false is = omega (arith, is)
within_one s Del t = by_held (set.contains s t) (len_remove s t)
  where
    by_held : (b : Bool) → set.len (set.remove s t) ≡ cond b (set.len s - 1) (set.len s) → set.len (set.remove s t) ≤ set.len s + 0
    by_held true is = omega (arith, is)
    by_held false is = omega (arith, is)

within_events : (s : Tuples) (es : List Event) → set.len (replay s es) ≤ set.len s + puts_in es
within_events s [] = omega arith
within_events s (e ∷ es) = let first = within_one s e.kind e.tuple in let rest = within_events (after_event s e) es in omega (arith, first, rest)

within_commit : (s : Snap) (c : Commit Configured) → set.len (after_commit s c).tuples ≤ set.len s.tuples + commit_rows c
within_commit s (kinds.Tuples es) = within_events s.tuples es
within_commit s (kinds.Config config) = omega arith

pub tuples_within : (s : Snap) (h : History) → set.len (after_commits s h).tuples ≤ set.len s.tuples + rows_of h
tuples_within s [] = omega arith
tuples_within s (c ∷ h) = let first = within_commit s c in let rest = tuples_within (after_commit s c) h in omega (arith, first, rest)

-- the versions as those of any set of tuples that the floor holds
pub as_retained_is : (number floor : ℕ) (config : Configured) (n : Entries) (tuples : Tuples) (h : History) → AreVersions n tuples floor h
    → as_retained number floor config n h ≡ record { number = number; floor = floor; base = record { config = config; tuples = tuples }; commits = h }
as_retained_is number floor config n tuples h versions = ap (λ (ts : Tuples). record { number = number; floor = floor; base = record { config = config; tuples = ts }; commits = h }) (base_is n tuples floor h versions)

pub consistent_as : (number floor : ℕ) (config : Configured) (n : Entries) (tuples : Tuples) (h : History) (ds : List ConfigAt) (counts : Counts)
    → IsConsistent (record { number = number; floor = floor; base = record { config = config; tuples = tuples }; commits = h }) n ds counts
    → IsConsistent (as_retained number floor config n h) n ds counts
consistent_as number floor config n tuples h ds counts consistent = subst (λ (r : Retained). IsConsistent r n ds counts) (sym (as_retained_is number floor config n tuples h consistent.versions)) consistent

-- the newest tuples
pub newest_these : (r : Retained) (m : Entries) → AreVersions m r.base.tuples r.floor r.commits → HasThese (after_commits r.base r.commits).tuples (versions_at m)
newest_these r m versions q = sym (ap is_there (versions q) ∙ based_last (set.contains r.base.tuples q) (versions_after r.floor r.commits q) ∙ last_of r.base r.floor r.commits q)

-- the same versions
pub consistent_same : (r : Retained) (m n : Entries) (ds : List ConfigAt) (counts : Counts) → ((q : Tuple) → versions_at n q ≡ versions_at m q) → IsConsistent r m ds counts → IsConsistent r n ds counts
consistent_same r m n ds counts same consistent = record {
  versions = λ q. same q ∙ consistent.versions q;
  configs_right = consistent.configs_right;
  rows = consistent.rows;
  tuples = consistent.tuples;
  revs = consistent.revs;
  few = consistent.few;
  admitted = consistent.admitted;
  each_ordered = consistent.each_ordered;
}

-- a fact that holds anyway
pub on_err : {T E P : Type 0} (r : Result T E) → P → OnErr r P
on_err (Ok x) p = tt
on_err (Err e) p = p

-- one commit more
pub versions_with : (r : Retained) (m n : Entries) (c : Commit Configured) → AreVersions m r.base.tuples r.floor r.commits
    → ((q : Tuple) → versions_at n q ≡ versions_at m q ++ commit_versions (newest r + 1) c q) → AreVersions n r.base.tuples r.floor (r.commits ++ c ∷ [])
versions_with r m n c versions more q =
    more q
    ∙ ap (λ ms. ms ++ commit_versions (newest r + 1) c q) (versions q)
    ∙ append_assoc (base_versions (set.contains r.base.tuples q)) (versions_after r.floor r.commits q) (commit_versions (newest r + 1) c q)
    ∙ ap (λ ms. base_versions (set.contains r.base.tuples q) ++ ms) (sym (versions_push r.floor r.commits c q))

come_gone : (old come gone next new : ℕ) → next + gone ≡ old + come → new ≡ (old + come) - gone → new ≡ next
come_gone old come gone next new is now = omega (arith, is, now)

pub consistent_events : (r : Retained) (m n : Entries) (ds : List ConfigAt) (old new : Counts) (es : List Event) (change : Change)
    → IsConsistent r m ds old → HasRoom r (kinds.Tuples es) → GoesOn (versions_at m) n (newest r + 1) es → Changes (versions_at m) es change
    → new.rows ≡ old.rows + puts_in es → new.tuples ≡ (old.tuples + change.come) - change.gone
    → IsConsistent (with_commit r (kinds.Tuples es)) n ds new
consistent_events r m n ds old new es change consistent room goes changes rows tuples =
    let rows_old = consistent.rows in
    let more = rows_push r.commits (kinds.Tuples es) in
    let longer = length_push r.commits (kinds.Tuples es) in
    let room_revs = room.revs in
    let room_rows = room.rows in
    record {
      versions = versions_with r m n (kinds.Tuples es) consistent.versions goes;
      configs_right = consistent.configs_right ∙ sym (configs_same r.floor r.commits es);
      rows = omega (arith, rows, rows_old, more);
      tuples =
          come_gone old.tuples change.come change.gone (set.len (replay (after_commits r.base r.commits).tuples es)) new.tuples
          (changes (after_commits r.base r.commits).tuples (newest_these r m consistent.versions) ∙ ap (λ k. k + change.come) (sym consistent.tuples)) tuples
          ∙ ap (λ (s : Snap). set.len s.tuples) (sym (after_push r.base r.commits (kinds.Tuples es)));
      revs = omega (arith, room_revs, longer);
      few = omega (arith, room_rows, more);
      admitted = admitted_with r (kinds.Tuples es) consistent.admitted room.admitted;
      each_ordered = ordered_push r.commits (kinds.Tuples es) consistent.each_ordered room.ordered;
    }

pub consistent_config : (r : Retained) (m : Entries) (ds : List ConfigAt) (counts : Counts) (config : Configured)
    → IsConsistent r m ds counts → HasRoom r (kinds.Config config)
    → IsConsistent (with_commit r (kinds.Config config)) m (ds ++ record { rev = newest r + 1; config = config } ∷ []) counts
consistent_config r m ds counts config consistent room =
    let rows_old = consistent.rows in
    let more = rows_push r.commits (kinds.Config config) in
    let longer = length_push r.commits (kinds.Config config) in
    let room_revs = room.revs in
    let room_rows = room.rows in
    record {
      versions = versions_with r m m (kinds.Config config) consistent.versions (λ q. sym (append-nil (versions_at m q)));
      configs_right = ap (λ es. es ++ record { rev = newest r + 1; config = config } ∷ []) consistent.configs_right ∙ sym (configs_push r.floor r.commits config);
      rows = omega (arith, rows_old, more);
      tuples = consistent.tuples ∙ ap (λ (s : Snap). set.len s.tuples) (sym (after_push r.base r.commits (kinds.Config config)));
      revs = omega (arith, room_revs, longer);
      few = omega (arith, room_rows, more);
      admitted = admitted_with r (kinds.Config config) consistent.admitted room.admitted;
      each_ordered = ordered_push r.commits (kinds.Config config) consistent.each_ordered room.ordered;
    }

-- and off again
pub versions_before : (r : Retained) (m : Entries) (c : Commit Configured) → AreVersions m r.base.tuples r.floor (r.commits ++ c ∷ [])
    → (q : Tuple) → versions_at m q ≡ (base_versions (set.contains r.base.tuples q) ++ versions_after r.floor r.commits q) ++ commit_versions (newest r + 1) c q
versions_before r m c versions q =
    versions q
    ∙ ap (λ ms. base_versions (set.contains r.base.tuples q) ++ ms) (versions_push r.floor r.commits c q)
    ∙ sym (append_assoc (base_versions (set.contains r.base.tuples q)) (versions_after r.floor r.commits q) (commit_versions (newest r + 1) c q))

gone_come : (old come gone next new : ℕ) → old + gone ≡ next + come → new ≡ (old + gone) - come → new ≡ next
gone_come old come gone next new is now = omega (arith, is, now)

pub before_these : (r : Retained) → HasThese (after_commits r.base r.commits).tuples (λ q. base_versions (set.contains r.base.tuples q) ++ versions_after r.floor r.commits q)
before_these r q = sym (based_last (set.contains r.base.tuples q) (versions_after r.floor r.commits q) ∙ last_of r.base r.floor r.commits q)

pub consistent_back : (r : Retained) (m n : Entries) (ds : List ConfigAt) (old new : Counts) (es : List Event) (change : Change)
    → IsConsistent (with_commit r (kinds.Tuples es)) m ds old
    → ((q : Tuple) → versions_at n q ≡ base_versions (set.contains r.base.tuples q) ++ versions_after r.floor r.commits q)
    → Changes (λ q. base_versions (set.contains r.base.tuples q) ++ versions_after r.floor r.commits q) es change
    → new.rows ≡ old.rows - puts_in es → new.tuples ≡ (old.tuples + change.gone) - change.come
    → IsConsistent r n ds new
consistent_back r m n ds old new es change consistent versions changes rows tuples =
    let rows_old = consistent.rows in
    let more = rows_push r.commits (kinds.Tuples es) in
    let longer = length_push r.commits (kinds.Tuples es) in
    let old_revs = consistent.revs in
    let old_few = consistent.few in
    record {
      versions = versions;
      configs_right = consistent.configs_right ∙ configs_same r.floor r.commits es;
      rows = omega (arith, rows, rows_old, more);
      tuples = gone_come old.tuples change.come change.gone (set.len (after_commits r.base r.commits).tuples) new.tuples
          (ap (λ k. k + change.gone) (consistent.tuples ∙ ap (λ (s : Snap). set.len s.tuples) (after_push r.base r.commits (kinds.Tuples es)))
          ∙ changes (after_commits r.base r.commits).tuples (before_these r)) tuples;
      revs = omega (arith, old_revs, longer);
      few = omega (arith, old_few, more);
      admitted = admitted_without r (kinds.Tuples es) consistent.admitted;
      each_ordered = ordered_before r.commits (kinds.Tuples es) consistent.each_ordered;
    }

pub consistent_back_config : (r : Retained) (m : Entries) (ds : List ConfigAt) (counts : Counts) (config : Configured)
    → IsConsistent (with_commit r (kinds.Config config)) m ds counts → IsConsistent r m (take (length ds - 1) ds) counts
consistent_back_config r m ds counts config consistent =
    let rows_old = consistent.rows in
    let more = rows_push r.commits (kinds.Config config) in
    let longer = length_push r.commits (kinds.Config config) in
    let old_revs = consistent.revs in
    let old_few = consistent.few in
    record {
      versions = λ q. versions_before r m (kinds.Config config) consistent.versions q ∙ append-nil (base_versions (set.contains r.base.tuples q) ++ versions_after r.floor r.commits q);
      configs_right =
          ap (λ es. take (length es - 1) es) (consistent.configs_right ∙ configs_push r.floor r.commits config)
          ∙ last_off (configs_after r.floor r.commits) (record { rev = newest r + 1; config = config });
      rows = omega (arith, rows_old, more);
      tuples = consistent.tuples ∙ ap (λ (s : Snap). set.len s.tuples) (after_push r.base r.commits (kinds.Config config));
      revs = omega (arith, old_revs, longer);
      few = omega (arith, old_few, more);
      admitted = admitted_without r (kinds.Config config) consistent.admitted;
      each_ordered = ordered_before r.commits (kinds.Config config) consistent.each_ordered;
    }
