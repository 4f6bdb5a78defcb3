-- Commits taken into what the floor holds.
use Rattle.std.proofs.Common.{◌≡◌, ℕ, ◌+◌, ◌-◌, ◌≤◌, List, [], ◌∷◌, ◌++◌, length, take, drop, zero, suc, refl, ap, sym, ◌∙◌, append_assoc, arith}
use Rattle.names.specs.declared.tuple.Tuple.{Tuple}
use Rattle.meaning.specs.TupleSet as set
use Rattle.meaning.specs.Snap.{Snap}
use Rattle.meaning.specs.History.{History, after_commit, after_commits, rows_of}
use Rattle.rows.specs.declared.config_at.ConfigAt.{ConfigAt}
use Rattle.rows.specs.declared.loaded.Counts.{Counts}
use Rattle.rows.specs.Retained.{Retained, newest, spans_of, snap_at, after_trim}
use Rattle.versions.specs.Versions.{Entries, commit_versions, versions_after, base_versions, AreVersions, AreVersionsFrom, IsLater}
use Rattle.rows.specs.Representation.{config_after_settle, configs_above, configs_after, IsConsistent}
use Rattle.versions.proofs.VersionRuns.{take_none}
use Rattle.versions.proofs.Settling.{drop_none}
use Rattle.versions.proofs.Bases.{based_after}
use Rattle.rows.proofs.Admitting.{admitted_after_trim}
use Rattle.rows.proofs.Ordering.{ordered_drop}
use Rattle.rows.proofs.Committing.{tuples_within}
use Rattle.rows.proofs.Retaining.{whole}
use Rattle.rows.proofs.ConfigsAt.{config_settles, configs_settle}

-- a history in two parts
versions_split : (f k : ℕ) (h : History) (q : Tuple) → versions_after f h q ≡ versions_after f (take k h) q ++ versions_after (f + k) (drop k h) q
versions_split f zero h q =
    ap (λ n. versions_after n h q) (omega arith) ∙ ap (λ (x : History). versions_after (f + 0) x q) (sym (drop_none h))
    ∙ ap (λ (x : History). versions_after f x q ++ versions_after (f + 0) (drop 0 h) q) (sym (take_none h))
versions_split f (suc k) [] q = refl
versions_split f (suc k) (c ∷ h) q =
    ap (λ ms. commit_versions (f + 1) c q ++ ms) (versions_split (f + 1) k h q)
    ∙ sym (append_assoc (commit_versions (f + 1) c q) (versions_after (f + 1) (take k h) q) (versions_after (f + 1 + k) (drop k h) q))
    ∙ ap (λ n. (commit_versions (f + 1) c q ++ versions_after (f + 1) (take k h) q) ++ versions_after n (drop k h) q) (omega arith)

rows_split : (k : ℕ) (h : History) → rows_of h ≡ rows_of (take k h) + rows_of (drop k h)
rows_split zero h = let a = ap rows_of (take_none h) in let b = ap rows_of (drop_none h) in omega (arith, a, b)
rows_split (suc k) [] = refl
rows_split (suc k) (c ∷ h) = let rest = rows_split k h in omega (arith, rest)

after_split : (s : Snap) (k : ℕ) (h : History) → after_commits s h ≡ after_commits (after_commits s (take k h)) (drop k h)
after_split s zero h = ap (after_commits s) (sym (drop_none h)) ∙ ap (λ (x : History). after_commits (after_commits s x) (drop 0 h)) (sym (take_none h))
after_split s (suc k) [] = refl
after_split s (suc k) (c ∷ h) = after_split (after_commit s c) k h

length_split : (k : ℕ) (h : History) → k ≤ length h → length (drop k h) + k ≡ length h
length_split zero h fits = let same = ap length (drop_none h) in omega (arith, same)
length_split (suc k) [] fits = absurd (omega (arith, fits))
length_split (suc k) (c ∷ h) fits = let rest = length_split k h (omega (arith, fits)) in omega (arith, rest)

pub later_of : (r : Retained) (floor : ℕ) → IsLater (λ q. versions_after floor (drop (floor - r.floor) r.commits) q)
later_of r floor q = based_after floor (drop (floor - r.floor) r.commits) q

pub versions_from : (r : Retained) (m : Entries) (floor : ℕ) → AreVersions m r.base.tuples r.floor r.commits → r.floor ≤ floor
    → AreVersionsFrom m r.base.tuples r.floor (take (floor - r.floor) r.commits) (λ q. versions_after floor (drop (floor - r.floor) r.commits) q)
versions_from r m floor versions h q =
    versions q
    ∙ ap (λ ms. base_versions (set.contains r.base.tuples q) ++ ms)
    (versions_split r.floor (floor - r.floor) r.commits q ∙ ap (λ n. versions_after r.floor (take (floor - r.floor) r.commits) q ++ versions_after n (drop (floor - r.floor) r.commits) q) (whole r.floor floor h))

pub consistent_after_trim : (r : Retained) (m n : Entries) (ds es : List ConfigAt) (old new : Counts) (floor : ℕ) → r.floor ≤ floor → floor ≤ newest r
    → IsConsistent r m ds old → AreVersions n (snap_at r floor).tuples floor (drop (floor - r.floor) r.commits)
    → es ≡ configs_above floor ds → new.rows ≡ set.len (snap_at r floor).tuples + rows_of (drop (floor - r.floor) r.commits) → new.tuples ≡ old.tuples
    → IsConsistent (after_trim r floor) n es new
consistent_after_trim r m n ds es old new floor above below consistent versions config_at rows tuples =
    let k : ℕ = floor - r.floor in
    let long = length_split k r.commits (omega (arith, above, below)) in
    let within = tuples_within r.base (take k r.commits) in
    let split = rows_split k r.commits in
    let revs = consistent.revs in
    let few = consistent.few in
    record {
      versions = versions;
      configs_right = config_at ∙ ap (configs_above floor) consistent.configs_right ∙ ap (λ x. configs_above x (configs_after r.floor r.commits)) (sym (whole r.floor floor above))
          ∙ configs_settle r.floor k r.commits ∙ ap (λ x. configs_after x (drop k r.commits)) (whole r.floor floor above);
      rows = rows;
      tuples = tuples ∙ consistent.tuples ∙ ap (λ (x : Snap). set.len x.tuples) (after_split r.base k r.commits);
      revs = omega (arith, long, revs, above, below);
      few = omega (arith, within, split, few);
      admitted = admitted_after_trim r floor consistent.admitted;
      each_ordered = ordered_drop k r.commits consistent.each_ordered;
    }

pub config_after_trim : (r : Retained) (ds : List ConfigAt) (floor : ℕ) → r.floor ≤ floor → ds ≡ configs_after r.floor r.commits → config_after_settle r.base.config ds floor ≡ (snap_at r floor).config
config_after_trim r ds floor above is =
    ap (λ es. config_after_settle r.base.config es floor) is ∙ ap (λ x. config_after_settle r.base.config (configs_after r.floor r.commits) x) (sym (whole r.floor floor above))
    ∙ config_settles r.base r.floor (floor - r.floor) r.commits

pub spans_split : (r : Retained) (floor : ℕ) → spans_of r ≡ set.len r.base.tuples + rows_of (take (floor - r.floor) r.commits) + rows_of (drop (floor - r.floor) r.commits)
spans_split r floor = let split = rows_split (floor - r.floor) r.commits in omega (arith, split)
