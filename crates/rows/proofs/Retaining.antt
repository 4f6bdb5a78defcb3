-- What the versions say of a retained revision.
use Rattle.std.proofs.Common.{◌≡◌, ℕ, ◌+◌, ◌-◌, ◌≤◌, List, ap, sym, subst, ◌∙◌, arith}
use Rattle.names.specs.declared.tuple.Tuple.{Tuple}
use Rattle.meaning.specs.TupleSet as set
use Rattle.rows.specs.declared.config_at.ConfigAt.{ConfigAt}
use Rattle.rows.specs.Retained.{Retained, snap_at}
use Rattle.versions.specs.Versions.{Entries, versions_at, versions_after, stands, stands_from, AreVersions, IsRising, AreRising}
use Rattle.rows.specs.Representation.{configs_after, config_from}
use Rattle.versions.proofs.VersionRuns.{snap_from, based_stands, history_rises}
use Rattle.rows.proofs.ConfigsAt.{config_of}

-- a revision is the floor and what is above it
pub whole : (floor rev : ℕ) → floor ≤ rev → floor + (rev - floor) ≡ rev
whole floor rev h = omega (arith, h)

-- a tuple stands at a revision where its versions say so
pub stands_at : (r : Retained) (m : Entries) (rev : ℕ) (q : Tuple) → AreVersions m r.base.tuples r.floor r.commits → r.floor ≤ rev → stands (versions_at m q) rev ≡ set.contains (snap_at r rev).tuples q
stands_at r m rev q versions h =
    ap (λ ms. stands ms rev) (versions q)
    ∙ based_stands (set.contains r.base.tuples q) (versions_after r.floor r.commits q) rev
    ∙ ap (λ n. stands_from (set.contains r.base.tuples q) (versions_after r.floor r.commits q) n) (sym (whole r.floor rev h))
    ∙ sym (snap_from r.base r.floor (rev - r.floor) r.commits q)

-- the versions of each tuple are in the order of their revisions
pub rising : (r : Retained) (m : Entries) → AreVersions m r.base.tuples r.floor r.commits → AreRising m
rising r m versions q = subst IsRising (sym (versions q)) (history_rises (set.contains r.base.tuples q) r.floor r.commits q)

pub config_is : (r : Retained) (ds : List ConfigAt) (rev : ℕ) → ds ≡ configs_after r.floor r.commits → r.floor ≤ rev → config_from r.base.config ds rev ≡ (snap_at r rev).config
config_is r ds rev is h =
    ap (λ es. config_from r.base.config es rev) is
    ∙ ap (λ n. config_from r.base.config (configs_after r.floor r.commits) n) (sym (whole r.floor rev h))
    ∙ sym (config_of r.base r.floor (rev - r.floor) r.commits)
