-- A new store, and which revisions are stored.
use Rattle.std.proofs.Common.{◌≡◌, ℕ, ◌+◌, ◌<◌, ◌≤◌, ◌^◌, [], refl, arith}
use Rattle.std.proofs.lemmas.List.Elements.{All-nil}
use Rattle.std.proofs.lemmas.List.Sorted.{IsPermutation-refl}
use Rattle.names.specs.declared.commit.Commit.{Commit}
use Rattle.names.specs.declared.commit.Commit.TheVariants as kinds
use Rattle.meaning.specs.Config.{Configured}
use Rattle.meaning.specs.TupleSet as set
use Rattle.rows.specs.Retained.{Retained, empty_store, newest, newest_of}
use Rattle.rows.specs.Follows.{IsNext}
use Rattle.tables.specs.Changing.{CanStore}
use Rattle.tables.specs.declared.change.TableChange.TheVariants as changes
use Rattle.tables.specs.declared.puts.Puts.{Puts}
use Rattle.sqlite_tables.specs.Steps.{new_store}
use Rattle.store.specs.Written.{Written, IsSpan, IsSound, IsConfigAt, IsHistory}
use Rattle.store.proofs.Causes.{accepted, accepted_config}
use Rattle.std.specs.FinMap as map
use Rattle.names.specs.declared.limits.TheConstants.{MAX_REV}
use Rattle.names.specs.Order.{tuple_cmp}

abbrev blank : ℕ → Written
blank number = record { number = number; floor = 0; newest = 0; spans = []; configs = [] }

pub len_none : set.len set.empty ≡ 0
len_none = map.len-empty tuple_cmp (Unit {0})

blank_sound : (number : ℕ) → 1 ≤ number → number < 2 ^ 63 → IsSound (blank number)
blank_sound number some small = record {
  number_is = (some, small);
  order = omega arith;
  revs = omega arith;
  spans_are = All-nil (IsSpan 0 0);
  apart = tt;
  configs_are = All-nil (IsConfigAt 0);
  distinct = tt;
  whole = λ rev low high. absurd (omega (arith, low, high));
  admitted = λ rev low high. All-nil _;
  rows = let z = len_none in omega (arith, z);
  tuples = let z = len_none in omega (arith, z);
}

pub new_history : (number : ℕ) → 1 ≤ number → number < 2 ^ 63 → IsHistory (new_store number) (empty_store number)
new_history number some small =
    (blank number, record { spans = IsPermutation-refl []; configs = IsPermutation-refl []; entries = IsPermutation-refl (new_store number).entries }, blank_sound number some small, refl)

rev_most : (r : Retained) (commit : Commit Configured) → IsNext r commit → newest r + 1 ≤ MAX_REV
rev_most r (kinds.Tuples es) next = (accepted (newest_of r) es next).revs
rev_most r (kinds.Config config) next = (accepted_config (newest_of r) config next).revs

-- a revision that can be stored is above 0 and far below the greatest integer of a row
pub small_rev : (Holds : Retained → Type 0) (rev : ℕ) (commit : Commit Configured) (puts : Puts) → CanStore Holds (changes.Commit rev commit puts) → (0 < rev) × (rev ≤ 2 ^ 40)
small_rev Holds rev commit puts (r, held, next) = within (rev_most r commit next.0) next.1
  where
    within : newest r + 1 ≤ MAX_REV → rev ≡ newest r + 1 → (0 < rev) × (rev ≤ 2 ^ 40)
    within most at = (omega (arith, at), omega (arith, most, at))
