use Rattle.std.proofs.Common.{sym}
use Rattle.published.proofs.Rules.{begins_self}
use Rattle.calls.proofs.asking.ask.Goals as goal

pub refresh-requires : goal.refresh-requires
refresh-requires g c = sym c.requires.0

pub returns-clause-kept : goal.returns-clause-kept
returns-clause-kept g c = begins_self c.args.session.now
