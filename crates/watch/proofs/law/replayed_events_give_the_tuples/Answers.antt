use Rattle.watch.proofs.Alike.{replays_all}
use Rattle.watch.proofs.law.replayed_events_give_the_tuples.Goals as goal

pub returns : goal.returns
returns c = replays_all
