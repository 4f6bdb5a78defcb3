-- What may be stored, and how refusals are counted.
use Rattle.std.specs.Prelude.{◌≡◌, ◌≤◌, ◌+◌, ◌-◌, ◌^◌, ◌&&◌, ℕ, Bool, true, false, min}
use Rattle.std.specs.List.{list_any}
use Rattle.names.specs.declared.limits.TheConstants.{MAX_REV}
use Rattle.names.specs.declared.write.Op.{Op}
use Rattle.names.specs.declared.write.OpKind.{OpKind}
use Rattle.names.specs.declared.write.OpKind.TheVariants.{Insert, Touch, Delete}
use Rattle.names.specs.declared.commit.Commit.{Commit}
use Rattle.names.specs.declared.commit.Commit.TheVariants.{Tuples, Config}
use Rattle.names.specs.declared.commit.Event.{Event}
use Rattle.names.specs.declared.commit.EventKind.{EventKind}
use Rattle.names.specs.declared.commit.EventKind.TheVariants.{Put, Del}
use Rattle.meaning.specs.Config.{Configured}
use Rattle.meaning.specs.TupleSet as set
use Rattle.rows.specs.Retained.{Retained, newest, newest_of, commits_between, last_config}
use Rattle.rows.specs.Follows.{IsNext}
use Rattle.tables.specs.declared.puts.Puts.{Puts}
use Rattle.tables.specs.declared.puts.Puts.TheVariants.{Absent}

abbrev pub is_touch_kind : OpKind → Bool
is_touch_kind Insert = false
is_touch_kind Touch = true
is_touch_kind Delete = false

-- the operation is a touch
abbrev pub is_touch : Op → Bool
is_touch o = is_touch_kind o.kind

abbrev pub is_put : EventKind → Bool
is_put Put = true
is_put Del = false

-- the event puts a tuple that is there
abbrev pub puts_again : set.Tuples → Event → Bool
puts_again tuples e = is_put e.kind && set.contains tuples e.tuple

-- no event of the commit puts a tuple that is there at the newest revision
abbrev pub PutsAbsent : Retained → Commit Configured → Type 0
PutsAbsent r (Tuples events) = list_any (puts_again (newest_of r).held.tuples) events ≡ false
PutsAbsent r (Config config) = Unit {0}

-- the commit can follow the history, the revision is the next, and what is said of the puts is so
abbrev pub IsNextAt : Retained → ℕ → Commit Configured → Puts → Type 0
IsNextAt r rev commit puts = IsNext r commit × (rev ≡ newest r + 1) × (puts ≡ Absent → PutsAbsent r commit)

-- the floor can be raised to the revision, and the last configuration that goes into what it holds is of the other, or there is none and that is 0
pub record IsTrimTo (r : Retained) (floor first : ℕ) : Type 0 where
  pub above : r.floor ≤ floor
  pub below : floor ≤ newest r
  pub small : floor ≤ MAX_REV
  pub first_is : first ≡ last_config 0 r.floor (commits_between r r.floor floor)

-- one refusal more; at its greatest number a count stays, and this counts as more
abbrev pub one_more : ℕ → ℕ
one_more count = min (count + 1) (2 ^ 64 - 1)
