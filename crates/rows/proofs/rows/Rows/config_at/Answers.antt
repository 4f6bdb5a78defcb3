use Rattle.std.proofs.Common.{◌≤◌, subst, List, ap, sym, ◌∙◌}
use Rattle.rows.specs.declared.config_at.ConfigAt.{ConfigAt}
use Rattle.rows.specs.Retained.{Retained, snap_at}
use Rattle.rows.specs.Representation.{as_retained, config_from}
use Rattle.rows.proofs.Retaining.{config_is}
use Rattle.rows.proofs.rows.Rows.config_at.Goals as goal

pub returns-clause-config : goal.returns-clause-config
returns-clause-config c =
    let s = c.self.inside in
    let r = as_retained s.number s.floor s.config s.tuples s.commits.items in
    c.config_up_to.ensures
    ∙ ap (λ (ds : List ConfigAt). config_from s.config ds c.args.rev) c.deref.ensures.value
    ∙ config_is r s.configs.items c.args.rev c.self.invariant.configs_right (subst (λ (x : Retained). x.floor ≤ c.args.rev) (sym c.self.view_is) c.requires.not_below)
    ∙ ap (λ (x : Retained). (snap_at x c.args.rev).config) c.self.view_is
