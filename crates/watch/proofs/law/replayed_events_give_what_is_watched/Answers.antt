use Rattle.watch.proofs.Alike.{replays}
use Rattle.watch.proofs.law.replayed_events_give_what_is_watched.Goals as goal

pub returns : goal.returns
returns c = replays
