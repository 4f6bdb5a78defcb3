use Rattle.std.proofs.Common.{◌≡◌, ap, ◌∙◌}
use Rattle.shown.specs.Standing.{standing}
use Rattle.desk.proofs.Sound.{one_store}
use Rattle.desk.proofs.desk.Desk.number.Goals as goal

pub returns-clause-shown : goal.returns-clause-shown
returns-clause-shown g c =
    let i = c.self.inside in
    rw (← c.self.view_is) (c.number.ensures ∙ ap (λ s. s.kept.number) c.self.invariant.stands ∙ one_store g.T.Tables i.tables.failed i.tables.tables i.own i.publication c.self.invariant)
