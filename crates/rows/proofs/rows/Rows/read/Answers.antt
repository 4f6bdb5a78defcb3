use Rattle.std.proofs.Common.{◌≤◌, List, take, ap, sym, subst, ◌∙◌, refl}
use Rattle.std.specs.Prelude.{◌&&◌, filter}
use Rattle.std.proofs.lemmas.Result.{IfOk-weaker}
use Rattle.meaning.specs.TupleSet as set
use Rattle.names.specs.declared.tuple.Tuple.{Tuple}
use Rattle.rows.specs.Retained.{Retained, snap_at}
use Rattle.rows.specs.Tuplesets.{matches, is_after}
use Rattle.rows.specs.inside.Reading.{is_sought, is_wanted}
use Rattle.versions.specs.Versions.{stands}
use Rattle.rows.specs.Representation.{as_retained}
use Rattle.versions.proofs.Listing.{items_by}
use Rattle.rows.proofs.Paging.{page_is}
use Rattle.rows.proofs.Retaining.{stands_at, rising}
use Rattle.rows.proofs.rows.Rows.read.Goals as goal

pub range-tuples-requires : goal.range-tuples-requires
range-tuples-requires c =
    let s = c.self.inside in
    rising (as_retained s.number s.floor s.config s.tuples s.commits.items) s.tuples c.self.invariant.versions

pub returns : goal.returns
returns c =
    let s = c.self.inside in
    let asked = c.args.asked.now in
    let r : Retained = as_retained s.number s.floor s.config s.tuples s.commits.items in
    let not_below = subst (λ (x : Retained). x.floor ≤ c.args.rev) (sym c.self.view_is) c.requires.not_below in
    let items = items_by s.tuples (snap_at r c.args.rev).tuples (λ ms. stands ms c.args.rev) refl c.range-tuples.ensures.ordered (λ q. sym (stands_at r s.tuples c.args.rev q c.self.invariant.versions not_below)) in
    IfOk-weaker c.page_of.result _ _
    (λ v is.
    is ∙ ap (λ (ts : List Tuple). take asked.limit (filter (is_wanted asked) ts)) (c.range-tuples.ensures.all (is_sought asked) c.in_ok-start.ensures)
    ∙ ap (λ (ts : List Tuple). take asked.limit (filter (is_wanted asked) (filter (is_sought asked) ts))) (sym items)
    ∙ page_is asked (set.items (snap_at r c.args.rev).tuples)
    ∙ ap (λ (x : Retained). take asked.limit (filter (λ t. matches asked t && is_after asked.after t) (set.items (snap_at x c.args.rev).tuples))) c.self.view_is)
    c.page_of.ensures
