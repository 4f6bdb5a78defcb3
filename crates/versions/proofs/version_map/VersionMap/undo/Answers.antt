use Rattle.std.proofs.Common.{List, subst}
use Rattle.names.specs.declared.commit.Event.{Event}
use Rattle.versions.specs.Versions.{TakesOff, HasChanged}
use Rattle.versions.proofs.Settling.{take_all}
use Rattle.versions.proofs.version_map.VersionMap.undo.Goals as goal

pub returns-clause-versions : goal.returns-clause-versions
returns-clause-versions c =
    subst (λ (es : List Event). TakesOff c.args.self.now es c.undo_first.new.self) (take_all c.args.events.now c.len.result c.len.ensures.len) c.undo_first.ensures.versions

pub returns-clause-change : goal.returns-clause-change
returns-clause-change c =
    subst (λ (es : List Event). HasChanged c.args.self.now es c.undo_first.result) (take_all c.args.events.now c.len.result c.len.ensures.len) c.undo_first.ensures.change
