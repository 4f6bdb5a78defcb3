use Rattle.std.proofs.Common.{◌≤◌, subst, ap, sym, ◌∙◌}
use Rattle.meaning.specs.TupleSet as set
use Rattle.rows.specs.Retained.{Retained, snap_at}
use Rattle.rows.specs.Representation.{as_retained}
use Rattle.rows.proofs.Retaining.{stands_at, rising}
use Rattle.rows.proofs.rows.Rows.has.Goals as goal

pub stands_at-requires : goal.stands_at-requires
stands_at-requires c =
    let s = c.self.inside in
    rising (as_retained s.number s.floor s.config s.tuples s.commits.items) s.tuples c.self.invariant.versions c.args.tuple.now

pub returns : goal.returns
returns c =
    let s = c.self.inside in
    let r = as_retained s.number s.floor s.config s.tuples s.commits.items in
    c.stands_at.ensures
    ∙ stands_at r s.tuples c.args.rev c.args.tuple.now c.self.invariant.versions (subst (λ (x : Retained). x.floor ≤ c.args.rev) (sym c.self.view_is) c.requires.not_below)
    ∙ ap (λ (x : Retained). set.contains (snap_at x c.args.rev).tuples c.args.tuple.now) c.self.view_is
