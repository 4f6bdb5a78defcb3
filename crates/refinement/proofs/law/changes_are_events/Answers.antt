use Rattle.refinement.proofs.Calls.{makes, shows}
use Rattle.refinement.proofs.law.changes_are_events.Goals as goal

pub returns-clause-made : goal.returns-clause-made
returns-clause-made g c = λ old new change made receipt are is. makes g.T.Tables old are new change made receipt is

pub returns-clause-shown : goal.returns-clause-shown
returns-clause-shown g c = λ old new are more. shows g.T.Tables old are new more
