use Rattle.std.proofs.Common.{ap, ◌∙◌, sym}
use Rattle.meaning.specs.TupleSet as set
use Rattle.meaning.proofs.TupleSets.{items_from_list}
use Rattle.snapshots.proofs.snapshot.Snapshot.tuples.Goals as goal

pub returns : goal.returns
returns c = sym (items_from_list c.self.inside.tuples.keys c.self.invariant) ∙ ap (λ s. set.items s.tuples) c.self.view_is
