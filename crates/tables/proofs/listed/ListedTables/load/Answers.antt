use Rattle.std.proofs.Common.{ap, sym, subst, ◌∙◌}
use Rattle.rows.specs.Loads.{retained_of, IsWithin}
use Rattle.tables.proofs.Storing.{is_loaded, retained_loaded, within_loaded}
use Rattle.tables.proofs.listed.ListedTables.load.Goals as goal

pub returns-clause-held : goal.returns-clause-held
returns-clause-held c =
    let s = c.self.inside in
    let loaded = is_loaded s.number c.floor-floor.result s.base c.at-view.result c.in-Ok-again.config c.of.result c.of-2.result s.commits.items c.floor-floor.ensures c.at-view.ensures (c.in-Ok-again.ensures ∙ c.config.ensures.config)
    (c.of.ensures ∙ c.in-Ok-tuples.ensures) (c.of-2.ensures ∙ (c.in-Ok.ensures ∙ c.deref.ensures.value)) in
    sym (ap retained_of loaded ∙ retained_loaded s.number s.base s.commits.items ∙ c.self.view_is)

pub returns-clause-within : goal.returns-clause-within
returns-clause-within c =
    let s = c.self.inside in
    let loaded = is_loaded s.number c.floor-floor.result s.base c.at-view.result c.in-Ok-again.config c.of.result c.of-2.result s.commits.items c.floor-floor.ensures c.at-view.ensures (c.in-Ok-again.ensures ∙ c.config.ensures.config)
    (c.of.ensures ∙ c.in-Ok-tuples.ensures) (c.of-2.ensures ∙ (c.in-Ok.ensures ∙ c.deref.ensures.value)) in
    subst IsWithin (sym loaded) (within_loaded s.number s.base s.commits.items c.self.invariant.loadable)

pub returns-clause-same : goal.returns-clause-same
returns-clause-same c = λ r is clean.
    let s = c.self.inside in
    let loaded = is_loaded s.number c.floor-floor.result s.base c.at-view.result c.in-Ok-again.config c.of.result c.of-2.result s.commits.items c.floor-floor.ensures c.at-view.ensures (c.in-Ok-again.ensures ∙ c.config.ensures.config)
    (c.of.ensures ∙ c.in-Ok-tuples.ensures) (c.of-2.ensures ∙ (c.in-Ok.ensures ∙ c.deref.ensures.value)) in
    ap retained_of loaded ∙ retained_loaded s.number s.base s.commits.items ∙ c.self.view_is ∙ is

pub returns-clause-found : goal.returns-clause-found
returns-clause-found c = λ clean. returns-clause-held c
