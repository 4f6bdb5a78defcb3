use Rattle.std.proofs.Common.{rules}
use Rattle.std.proofs.lemmas.Fn.{filter_same}
use Rattle.delta.specs.inside.Noting.{leads_elsewhere}
use Rattle.delta.proofs.earlier.leave_changed.Goals as goal

pub returns-clause-items : goal.returns-clause-items
returns-clause-items c = filter_same _ (leads_elsewhere c.args.sets.now.rows) _ (λ e b f' k. search rules) _ _ c.retain.ensures.filtered
