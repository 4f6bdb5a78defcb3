use Rattle.std.proofs.Common.{length, ap, ◌∙◌, sym}
use Rattle.meaning.specs.TupleSet as set
use Rattle.meaning.proofs.TupleSets.{items_from_list, len_items}
use Rattle.snapshots.proofs.snapshot.Snapshot.len.Goals as goal

pub returns : goal.returns
returns c =
    let keys = c.self.inside.tuples.keys in
    c.len.ensures.len ∙ ap length (sym (items_from_list keys c.self.invariant)) ∙ sym (len_items (set.from_list keys)) ∙ ap (λ s. set.len s.tuples) c.self.view_is
