use Rattle.std.proofs.Common.{◌≡◌, List, ◌++◌, ◌+◌, ◌-◌, ◌≤◌, take, drop, ap, sym, subst, ◌∙◌, arith, refl}
use Rattle.names.specs.declared.tuple.Tuple.{Tuple}
use Rattle.meaning.specs.TupleSet as set
use Rattle.meaning.specs.Config.{Configured}
use Rattle.meaning.specs.History.{History, after_commits, rows_of}
use Rattle.versions.specs.declared.version.Version.{Version}
use Rattle.versions.specs.Versions.{versions_after, base_versions, AreVersions, AreVersionsFrom}
use Rattle.rows.specs.declared.loaded.Counts.{Counts}
use Rattle.rows.specs.Retained.{Retained, newest, snap_at, after_trim}
use Rattle.rows.specs.Representation.{as_retained, IsConsistent}
use Rattle.rows.proofs.Committing.{consistent_as, as_retained_is}
use Rattle.rows.proofs.Trimming.{versions_from, later_of, spans_split, config_after_trim, consistent_after_trim}
use Rattle.rows.proofs.rows.Rows.trim.Goals as goal
use Rattle.rows.proofs.rows.Rows.trim.Goals.{After-settle_configs}

-- what was retained, and the commits that are trimmed and those that are left
abbrev old : After-settle_configs → Retained
old c = as_retained c.self.inside.number c.self.inside.floor c.self.inside.config c.self.inside.tuples c.self.inside.commits.items

abbrev part : After-settle_configs → History
part c = take (c.args.floor - c.self.inside.floor) c.self.inside.commits.items

abbrev rest : After-settle_configs → History
rest c = drop (c.args.floor - c.self.inside.floor) c.self.inside.commits.items

abbrev later : After-settle_configs → Tuple → List Version
later c q = versions_after c.args.floor (rest c) q

abbrev counts : After-settle_configs → Counts
counts c = record { rows = c.settle-self-inside.result; tuples = c.self.inside.counts.tuples }

above : (c : After-settle_configs) → c.self.inside.floor ≤ c.args.floor
above c = omega (arith, c.if-floor-self.false)

first : (c : After-settle_configs) → take (c.args.floor - c.self.inside.floor) c.deref.result.now ≡ part c
first c = ap (λ (h : History). take (c.args.floor - c.self.inside.floor) h) c.deref.ensures.value

from : (c : After-settle_configs) → AreVersionsFrom c.self.inside.tuples (old c).base.tuples c.self.inside.floor (take (c.args.floor - c.self.inside.floor) c.deref.result.now) (later c)
from c =
    subst (λ (h : History). AreVersionsFrom c.self.inside.tuples (old c).base.tuples c.self.inside.floor h (later c)) (sym (first c))
    (versions_from (old c) c.self.inside.tuples c.args.floor c.self.invariant.versions (above c))

versions : (c : After-settle_configs) → AreVersions c.settle-self-inside.new.self (snap_at (old c) c.args.floor).tuples c.args.floor (rest c)
versions c q =
    c.settle-self-inside.ensures.versions (old c).base c.self.inside.floor (later c) (later_of (old c) c.args.floor) (from c) q
    ∙ ap (λ (h : History). base_versions (set.contains (after_commits (old c).base h).tuples q) ++ later c q) (first c)

rows : (c : After-settle_configs) → c.settle-self-inside.result ≡ set.len (snap_at (old c) c.args.floor).tuples + rows_of (rest c)
rows c =
    c.settle-self-inside.ensures.spans (old c).base c.self.inside.floor (rows_of (rest c)) (later c) (later_of (old c) c.args.floor) (from c)
    (c.self.invariant.rows ∙ spans_split (old c) c.args.floor ∙ ap (λ (h : History). set.len (old c).base.tuples + rows_of h + rows_of (rest c)) (sym (first c)))
    ∙ ap (λ (h : History). set.len (after_commits (old c).base h).tuples + rows_of (rest c)) (first c)

config : (c : After-settle_configs) → c.settle_configs.new.config ≡ (snap_at (old c) c.args.floor).config
config c = c.settle_configs.ensures.config ∙ config_after_trim (old c) c.self.inside.configs.items c.args.floor (above c) c.self.invariant.configs_right

consistent : (c : After-settle_configs) → IsConsistent (after_trim (old c) c.args.floor) c.settle-self-inside.new.self c.settle_configs.new.configs.items (counts c)
consistent c =
    let below : c.args.floor ≤ newest (old c) = subst (λ (r : Retained). c.args.floor ≤ newest r) (sym c.self.view_is) c.requires in
    consistent_after_trim (old c) c.self.inside.tuples c.settle-self-inside.new.self c.self.inside.configs.items c.settle_configs.new.configs.items c.self.inside.counts (counts c) c.args.floor
    (above c) below c.self.invariant (versions c) c.settle_configs.ensures.configs (rows c) refl

pub invariant_of-self : goal.invariant_of-self
invariant_of-self x =
    let c = (goal.at.invariant_of-self x).After-settle_configs in
    let number = c.self.inside.number in
    let floor = c.args.floor in
    let m = c.settle-self-inside.new.self in
    let after = (snap_at (old c) floor) in
    let ds = c.settle_configs.new.configs.items in
    subst (λ (held : Configured). IsConsistent (as_retained number floor held m c.drop_commits.new.commits.items) m ds (counts c)) (sym (config c))
    (subst (λ (h : History). IsConsistent (as_retained number floor after.config m h) m ds (counts c)) (sym c.drop_commits.ensures)
    (consistent_as number floor after.config m after.tuples (rest c) ds (counts c) (consistent c)))

pub returns-clause-raised : goal.returns-clause-raised
returns-clause-raised x =
    let c = (goal.at.returns-clause-raised x).After-settle_configs in
    let number = c.self.inside.number in
    let floor = c.args.floor in
    let m = c.settle-self-inside.new.self in
    let after = (snap_at (old c) floor) in
    λ _.
    ap (λ (held : Configured). as_retained number floor held m c.drop_commits.new.commits.items) (config c)
    ∙ ap (λ (h : History). as_retained number floor after.config m h) c.drop_commits.ensures
    ∙ as_retained_is number floor after.config m after.tuples (rest c) (versions c)
    ∙ ap (λ (r : Retained). after_trim r floor) c.self.view_is
