use Rattle.std.proofs.Common.{ap, ◌∙◌, sym}
use Rattle.meaning.specs.TupleSet as set
use Rattle.meaning.proofs.TupleSets.{contains_from_list}
use Rattle.snapshots.proofs.snapshot.Snapshot.contains.Goals as goal

pub returns : goal.returns
returns c = c.contains.ensures ∙ sym (contains_from_list c.self.inside.tuples.keys c.args.tuple.now) ∙ ap (λ s. set.contains s.tuples c.args.tuple.now) c.self.view_is
