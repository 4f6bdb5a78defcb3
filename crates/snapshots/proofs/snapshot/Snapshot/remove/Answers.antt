use Rattle.std.proofs.Common.{ap, ◌∙◌}
use Rattle.meaning.specs.TupleSet as set
use Rattle.meaning.specs.Snap.{Snap}
use Rattle.snapshots.proofs.OrderedTuples.{drop_tuple}
use Rattle.snapshots.proofs.snapshot.Snapshot.remove.Goals as goal

pub returns : goal.returns
returns c =
    ap (λ ts. record { config = c.self.inside.config; tuples = ts }) (drop_tuple c.self.inside.tuples.keys c.remove.new.self.keys c.args.tuple.now c.remove.ensures.updates.0)
    ∙ ap (λ (s : Snap). record { config = s.config; tuples = set.remove s.tuples c.args.tuple.now }) c.self.view_is
