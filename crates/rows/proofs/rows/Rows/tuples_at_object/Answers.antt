use Rattle.std.proofs.Common.{◌≤◌, ap, sym, subst, ◌∙◌, refl}
use Rattle.std.specs.Prelude.{filter}
use Rattle.std.proofs.lemmas.Result.{IfOk-weaker}
use Rattle.std.proofs.lemmas.Option.{IfSome_then}
use Rattle.meaning.specs.TupleSet as set
use Rattle.versions.specs.Versions.{stands}
use Rattle.tuple_keys.specs.Named.{is_at}
use Rattle.rows.specs.Retained.{Retained, snap_at}
use Rattle.rows.specs.Representation.{as_retained}
use Rattle.versions.proofs.Listing.{items_by, both_ok}
use Rattle.rows.proofs.Retaining.{stands_at, rising}
use Rattle.rows.proofs.rows.Rows.tuples_at_object.Goals as goal

pub tuples_at_object-requires : goal.tuples_at_object-requires
tuples_at_object-requires c =
    let s = c.self.inside in
    rising (as_retained s.number s.floor s.config s.tuples s.commits.items) s.tuples c.self.invariant.versions

pub returns : goal.returns
returns c =
    let s = c.self.inside in
    let r : Retained = as_retained s.number s.floor s.config s.tuples s.commits.items in
    let not_below = subst (λ (x : Retained). x.floor ≤ c.args.rev) (sym c.self.view_is) c.requires.not_below in
    IfOk-weaker c.tuples_at_object.result _ _
    (λ o is.
    let items = items_by s.tuples (snap_at r c.args.rev).tuples (λ ms. stands ms c.args.rev) refl is.1 (λ q. sym (stands_at r s.tuples c.args.rev q c.self.invariant.versions not_below)) in
    IfSome_then o is.0 (λ v found. found ∙ ap (filter (is_at c.args.object.now)) (sym items ∙ ap (λ (x : Retained). set.items (snap_at x c.args.rev).tuples) c.self.view_is)))
    (both_ok c.tuples_at_object.result _ _ c.tuples_at_object.ensures.found c.tuples_at_object.ensures.ordered)
