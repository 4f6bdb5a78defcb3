use Rattle.std.proofs.Common.{sym, ap, ◌∙◌}
use Rattle.meaning.specs.Config.{Configured}
use Rattle.config.proofs.Searching.{declared_read, declared_nowhere}
use Rattle.config.proofs.config.Config.allows.Goals as goal

pub returns-in-None : goal.returns-in-None
returns-in-None c = sym (declared_nowhere c.args.self.now c.args.tuple.now (c.in-None.ensures.none))

pub returns-in-Some : goal.returns-in-Some
returns-in-Some c =
    c.declares.ensures
    ∙ sym (declared_read c.args.self.now c.self.inside.relations.items c.args.tuple.now c.in-Some.place c.index.result.now (ap (λ (x : Configured). x.relations) c.self.view_is) c.in-Some.ensures.found c.index.ensures)
