use Rattle.std.proofs.Common.{◌≡◌, ◌∙◌, ℕ, ap, sym, subst}
use Rattle.std.specs.Prelude.{None}
use Rattle.shown.specs.Standing.{Standing, standing, base_cause}
use Rattle.desk.proofs.Standings.{newest_fits}
use Rattle.desk.proofs.desk.Desk.last_posted.Goals as goal

pub returns-clause-fits : goal.returns-clause-fits
returns-clause-fits g c =
    let stands : c.self.inside.own ≡ standing c.args.self.now.posted = c.self.invariant.stands ∙ ap standing (ap (λ d. d.posted) c.self.view_is) in
    subst (λ (s : Standing). base_cause s c.newest.result ≡ None) stands
    (subst (λ (rev : ℕ). base_cause c.self.inside.own rev ≡ None) (sym c.newest.ensures.newest) (newest_fits c.self.inside.own c.newest.ensures.steady))
