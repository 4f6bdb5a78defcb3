use Rattle.std.proofs.Common.{◌≤◌, subst, ap, sym, ◌∙◌}
use Rattle.meaning.specs.TupleSet as set
use Rattle.rows.specs.Retained.{Retained, snap_at}
use Rattle.rows.specs.Representation.{as_retained}
use Rattle.tuple_keys.specs.Named.{user_tuple}
use Rattle.rows.proofs.Retaining.{stands_at, rising}
use Rattle.rows.proofs.rows.Rows.has_user.Goals as goal

pub has_user-requires : goal.has_user-requires
has_user-requires c =
    let s = c.self.inside in
    rising (as_retained s.number s.floor s.config s.tuples s.commits.items) s.tuples c.self.invariant.versions (user_tuple c.args.node.now c.args.user.now)

pub returns : goal.returns
returns c =
    let s = c.self.inside in
    let r = as_retained s.number s.floor s.config s.tuples s.commits.items in
    c.has_user.ensures
    ∙ stands_at r s.tuples c.args.rev (user_tuple c.args.node.now c.args.user.now) c.self.invariant.versions (subst (λ (x : Retained). x.floor ≤ c.args.rev) (sym c.self.view_is) c.requires.not_below)
    ∙ ap (λ (x : Retained). set.contains (snap_at x c.args.rev).tuples (user_tuple c.args.node.now c.args.user.now)) c.self.view_is
