use Rattle.std.proofs.Common.{◌≡◌, List, ap, sym, subst, ◌∙◌, refl}
use Rattle.std.specs.Prelude.{not}
use Rattle.std.specs.List.{find}
use Rattle.names.specs.declared.tuple.Tuple.{Tuple}
use Rattle.meaning.specs.TupleSet as set
use Rattle.meaning.specs.Config.{Configured}
use Rattle.meaning.specs.Snap.{Snap}
use Rattle.meaning.specs.Admits.{admits}
use Rattle.meaning.specs.History.{after_commits}
use Rattle.rows.specs.Retained.{Retained, newest_of, snap_at, AreAdmitted}
use Rattle.versions.specs.Versions.{is_there}
use Rattle.rows.specs.Representation.{as_retained}
use Rattle.rows.proofs.Committing.{newest_these}
use Rattle.versions.proofs.Listing.{items_by}
use Rattle.rows.proofs.Admitting.{none_in_the_way, newest_snap}
use Rattle.rows.proofs.rows.Rows.tuple_in_the_way.Goals as goal

pub returns-then-admits_all_of : goal.returns-then-admits_all_of
returns-then-admits_all_of c =
    let config = c.args.config.now in
    let held : snap_at c.args.self.now c.newest.result ≡ (newest_of c.args.self.now).held = ap (snap_at c.args.self.now) c.newest.ensures.newest ∙ newest_snap c.args.self.now in
    sym (none_in_the_way (newest_of c.args.self.now).held config (subst AreAdmitted held c.config_at.ensures.admitted)
    (λ t e. c.if-admits_all_of.ensures.yes refl t (ap (λ (x : Configured). admits x t) (c.config_at.ensures.config ∙ ap (λ (s : Snap). s.config) held) ∙ e)))

pub returns : goal.returns
returns c =
    let s = c.self.inside in
    let r : Retained = as_retained s.number s.floor s.config s.tuples s.commits.items in
    let items = items_by s.tuples (after_commits r.base r.commits).tuples is_there refl c.first_refused.ensures.ordered (newest_these r s.tuples c.self.invariant.versions) in
    c.first_refused.ensures.found
    ∙ ap (λ (ts : List Tuple). find (λ t. not (admits c.args.config.now t)) ts) (sym items ∙ ap (λ (x : Retained). set.items (newest_of x).held.tuples) c.self.view_is)
