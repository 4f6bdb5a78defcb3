-- How the history stands in memory: the versions of each tuple, the configurations with their revisions, and the commits.
use Rattle.std.specs.Prelude.{◌≡◌, ℕ, ◌+◌, ◌≤◌, List, [], ◌∷◌, cond, nat_le, take}
use Rattle.names.specs.declared.limits.TheConstants.{MAX_REV, MAX_ROWS}
use Rattle.names.specs.declared.commit.Commit.TheVariants as kinds
use Rattle.meaning.specs.TupleSet as set
use Rattle.meaning.specs.Config.{Configured}
use Rattle.meaning.specs.History.{History, after_commits}
use Rattle.versions.specs.Versions.{Entries, AreVersions, base_tuples}
use Rattle.rows.specs.declared.config_at.ConfigAt.{ConfigAt}
use Rattle.rows.specs.declared.loaded.Counts.{Counts}
use Rattle.rows.specs.Ordered.{AreOrdered}
use Rattle.rows.specs.Retained.{Retained, newest, spans_of, IsAdmitted}

-- the configurations of the commits above a revision
abbrev pub configs_after : ℕ → History → List ConfigAt
configs_after rev [] = []
configs_after rev (kinds.Tuples events ∷ h) = configs_after (rev + 1) h
configs_after rev (kinds.Config config ∷ h) = record { rev = rev + 1; config = config } ∷ configs_after (rev + 1) h

-- the last configuration up to a revision
abbrev pub config_from : Configured → List ConfigAt → ℕ → Configured
config_from config [] rev = config
config_from config (d ∷ ds) rev = config_from (cond (nat_le d.rev rev) d.config config) ds rev

-- the first configurations up to a revision, taken into what the floor holds
abbrev pub config_after_settle : Configured → List ConfigAt → ℕ → Configured
config_after_settle config [] rev = config
config_after_settle config (d ∷ ds) rev = cond (nat_le d.rev rev) (config_after_settle d.config ds rev) config

-- the last of the configurations
abbrev pub last_or : Configured → List ConfigAt → Configured
last_or config [] = config
last_or config (d ∷ ds) = last_or d.config ds

-- of the first so many configurations the last is that of the revision
abbrev pub EndsAt : List ConfigAt → ℕ → ℕ → Type 0
EndsAt configs rev count = (config : Configured) → config_after_settle config configs rev ≡ last_or config (take count configs)

-- the configurations without the first ones up to a revision
abbrev pub configs_above : ℕ → List ConfigAt → List ConfigAt
configs_above rev [] = []
configs_above rev (d ∷ ds) = cond (nat_le d.rev rev) (configs_above rev ds) (d ∷ ds)

-- what is retained, by what stands in memory
abbrev pub as_retained : ℕ → ℕ → Configured → Entries → History → Retained
as_retained number floor config m commits = record { number = number; floor = floor; base = record { config = config; tuples = base_tuples m }; commits = commits }

-- the versions, the configurations and the counts are right, each revision's tuples are admitted, and each commit's
-- events are in order
pub record IsConsistent (r : Retained) (m : Entries) (configs : List ConfigAt) (counts : Counts) : Type 0 where
  pub versions : AreVersions m r.base.tuples r.floor r.commits
  pub configs_right : configs ≡ configs_after r.floor r.commits
  pub rows : counts.rows ≡ spans_of r
  pub tuples : counts.tuples ≡ set.len (after_commits r.base r.commits).tuples
  pub revs : newest r ≤ MAX_REV
  pub few : spans_of r ≤ MAX_ROWS
  pub admitted : IsAdmitted r
  pub each_ordered : AreOrdered r.commits
