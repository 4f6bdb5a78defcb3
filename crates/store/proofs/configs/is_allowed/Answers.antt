use Rattle.std.proofs.Common.{sym}
use Rattle.store.proofs.Alike.{since_in_force}
use Rattle.store.proofs.configs.is_allowed.Goals as goal

pub returns-then-since-first_after : goal.returns-then-since-first_after
returns-then-since-first_after c = sym (since_in_force c.args.rev c.first_after.result c.args.since c.args.configs.now c.args.tuple.now c.requires.rise c.requires.later c.first_after.ensures c.if-since-first_after.true c.requires.since)
