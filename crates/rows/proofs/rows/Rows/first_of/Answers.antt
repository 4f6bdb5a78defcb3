use Rattle.std.proofs.Common.{◌≤◌, List, take, ap, sym, subst, ◌∙◌, refl}
use Rattle.std.specs.Prelude.{filter}
use Rattle.std.proofs.lemmas.Result.{IfOk-weaker}
use Rattle.meaning.specs.TupleSet as set
use Rattle.tuple_keys.specs.Named.{is_of}
use Rattle.names.specs.declared.tuple.Tuple.{Tuple}
use Rattle.rows.specs.Retained.{Retained, snap_at}
use Rattle.versions.specs.Versions.{stands}
use Rattle.rows.specs.Representation.{as_retained}
use Rattle.versions.proofs.Listing.{items_by, both_ok}
use Rattle.rows.proofs.Retaining.{stands_at, rising}
use Rattle.rows.proofs.rows.Rows.first_of.Goals as goal

pub first_of-requires : goal.first_of-requires
first_of-requires c =
    let s = c.self.inside in
    rising (as_retained s.number s.floor s.config s.tuples s.commits.items) s.tuples c.self.invariant.versions

pub returns : goal.returns
returns c =
    let s = c.self.inside in
    let r : Retained = as_retained s.number s.floor s.config s.tuples s.commits.items in
    let not_below = subst (λ (x : Retained). x.floor ≤ c.args.rev) (sym c.self.view_is) c.requires.not_below in
    IfOk-weaker c.first_of.result _ _
    (λ v is.
    let items = items_by s.tuples (snap_at r c.args.rev).tuples (λ ms. stands ms c.args.rev) refl is.1 (λ q. sym (stands_at r s.tuples c.args.rev q c.self.invariant.versions not_below)) in
    is.0 ∙ ap (λ (ts : List Tuple). take c.args.most (filter (is_of c.args.node.now) ts)) (sym items ∙ ap (λ (x : Retained). set.items (snap_at x c.args.rev).tuples) c.self.view_is))
    (both_ok c.first_of.result _ _ c.first_of.ensures.found c.first_of.ensures.ordered)
