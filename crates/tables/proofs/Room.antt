-- A commit with room leaves the history one that can be loaded.
use Rattle.std.proofs.Common.{ℕ, ◌-◌, ◌≤◌, take, arith}
use Rattle.std.proofs.lemmas.List.{length-drop}
use Rattle.names.specs.declared.commit.Commit.{Commit}
use Rattle.meaning.specs.Config.{Configured}
use Rattle.rows.specs.Retained.{Retained, newest, with_commit, after_trim, HasRoom}
use Rattle.rows.proofs.Admitting.{admitted_with, admitted_after_trim}
use Rattle.rows.proofs.Committing.{rows_push, length_push, tuples_within}
use Rattle.rows.proofs.Ordering.{ordered_push, ordered_drop}
use Rattle.rows.proofs.Trimming.{spans_split}
use Rattle.tables.specs.Limits.{IsLoadable}

pub stays_within : (r : Retained) (c : Commit Configured) → IsLoadable r → HasRoom r c → IsLoadable (with_commit r c)
stays_within r c within room =
    let one = length_push r.commits c in
    let rows = rows_push r.commits c in
    let revs = room.revs in
    let more = room.rows in
    let few = within.rows in
    record {
      revs = omega (arith, one, revs);
      rows = omega (arith, rows, more, few);
      admitted = admitted_with r c within.admitted room.admitted;
      each_ordered = ordered_push r.commits c within.each_ordered room.ordered;
    }

-- so does a higher floor
pub trims_within : (r : Retained) (floor : ℕ) → r.floor ≤ floor → floor ≤ newest r → IsLoadable r → IsLoadable (after_trim r floor)
trims_within r floor low high within =
    let revs = within.revs in
    let few = within.rows in
    let left = length-drop (floor - r.floor) r.commits in
    let split = spans_split r floor in
    let fewer = tuples_within r.base (take (floor - r.floor) r.commits) in
    record {
      revs = omega (arith, left, low, high, revs);
      rows = omega (arith, split, fewer, few);
      admitted = admitted_after_trim r floor within.admitted;
      each_ordered = ordered_drop (floor - r.floor) r.commits within.each_ordered;
    }

-- and another number
pub renumbered : (r : Retained) (number : ℕ) → IsLoadable r → IsLoadable (record { number = number; floor = r.floor; base = r.base; commits = r.commits })
renumbered r number within = record {
  revs = within.revs;
  rows = within.rows;
  admitted = λ rev is. within.admitted rev (record { not_below = is.not_below; not_above = is.not_above });
  each_ordered = within.each_ordered;
}
