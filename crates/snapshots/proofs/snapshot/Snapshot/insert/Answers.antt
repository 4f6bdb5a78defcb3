use Rattle.std.proofs.Common.{ap, ◌∙◌}
use Rattle.meaning.specs.TupleSet as set
use Rattle.meaning.specs.Snap.{Snap}
use Rattle.snapshots.proofs.OrderedTuples.{put_tuple}
use Rattle.snapshots.proofs.snapshot.Snapshot.insert.Goals as goal

pub returns-clause-ok : goal.returns-clause-ok
returns-clause-ok c =
    ap (λ ts. record { config = c.self.inside.config; tuples = ts }) (put_tuple c.self.inside.tuples.keys c.insert.new.self.keys c.args.tuple c.in_ok-insert.ensures.updates.0)
    ∙ ap (λ (s : Snap). record { config = s.config; tuples = set.insert s.tuples c.args.tuple }) c.self.view_is
