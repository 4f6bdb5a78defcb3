use Rattle.std.proofs.Common.{◌≡◌, inr, refl, ◌∙◌, sym}
use Rattle.tables.specs.declared.tables.TablesError.TheVariants.{Fault}
use Rattle.sqlite_tables.specs.declared.probe.Probe.{Probe}
use Rattle.sqlite_tables.specs.declared.probe.Probe.TheVariants.{Open, Failed, NoMemory}
use Rattle.store.specs.inside.Asking.{told_as}
use Rattle.store.proofs.history.why.Goals as goal

only_failed : (p : Probe) → told_as p ≡ Fault → p ≡ Failed
only_failed Open h = cc
only_failed NoMemory h = cc
only_failed Failed h = refl

pub returns-clause-caused : goal.returns-clause-caused
returns-clause-caused g c = λ is. inr (λ clean was. c.ask.ensures.caused clean (only_failed c.ask.result (sym c.told.ensures ∙ is)) was)
