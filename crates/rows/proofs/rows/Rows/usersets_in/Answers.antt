use Rattle.std.proofs.Common.{◌≤◌, List, ◌++◌, ap, sym, subst, ◌∙◌, refl}
use Rattle.std.specs.Prelude.{filter}
use Rattle.names.specs.declared.tuple.Tuple.{Tuple}
use Rattle.meaning.specs.TupleSet as set
use Rattle.versions.specs.Versions.{stands}
use Rattle.versions.specs.Named.{nodes_in}
use Rattle.tuple_keys.specs.Named.{is_within}
use Rattle.versions.proofs.Listing.{items_by, on_ok}
use Rattle.rows.specs.Retained.{Retained, snap_at}
use Rattle.rows.specs.Representation.{as_retained}
use Rattle.rows.proofs.Retaining.{stands_at, rising}
use Rattle.rows.proofs.rows.Rows.usersets_in.Goals as goal

pub usersets_in-requires : goal.usersets_in-requires
usersets_in-requires c =
    let s = c.self.inside in
    rising (as_retained s.number s.floor s.config s.tuples s.commits.items) s.tuples c.self.invariant.versions

pub returns : goal.returns
returns c =
    let s = c.self.inside in
    let r : Retained = as_retained s.number s.floor s.config s.tuples s.commits.items in
    let not_below = subst (λ (x : Retained). x.floor ≤ c.args.rev) (sym c.self.view_is) c.requires.not_below in
    let named = λ (ts : List Tuple). c.args.nodes.now.items ++ nodes_in (filter (is_within c.args.node.now c.args.namespace.now) ts) in
    on_ok c.usersets_in.result _ _ _
    (λ is ordered.
    let items = items_by s.tuples (snap_at r c.args.rev).tuples (λ ms. stands ms c.args.rev) refl ordered (λ q. sym (stands_at r s.tuples c.args.rev q c.self.invariant.versions not_below)) in
    is ∙ ap named (sym items ∙ ap (λ (x : Retained). set.items (snap_at x c.args.rev).tuples) c.self.view_is))
    c.usersets_in.ensures.found c.usersets_in.ensures.ordered
