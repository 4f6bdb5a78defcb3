use Rattle.std.proofs.Common.{◌≡◌, ap, sym, subst, ◌∙◌}
use Rattle.published.specs.Copies.{Copy}
use Rattle.published.specs.Known.{Known}
use Rattle.published.specs.Judged.{AreJudged}
use Rattle.published.proofs.Leading.{shown_book}
use Rattle.published.proofs.publication.Publication.shown_steps.Goals as goal

pub of-requires : goal.of-requires
of-requires g c =
    let is = c.again.ensures ∙ c.prefix.ensures ∙ ap (λ (x : Copy). x.prefix) c.published.ensures in
    subst (λ (k : Known). AreJudged k.steps) (sym is) c.self.invariant.leads.stands.1

pub returns-clause-steps : goal.returns-clause-steps
returns-clause-steps g c =
    let i = c.self.inside in
    let is : c.of.result ≡ i.publisher.published.prefix = c.of.ensures ∙ c.again.ensures ∙ c.prefix.ensures ∙ ap (λ (x : Copy). x.prefix) c.published.ensures in
    let book = shown_book i.book i.entered i.publisher i.publisher i.stuck c.self.invariant.leads in
    rw (← c.self.view_is) (is ∙ (λ k. record { book = book k; steps = i.publisher.published.prefix.steps }))

pub returns-clause-judged : goal.returns-clause-judged
returns-clause-judged g c = rw (← c.self.view_is) c.self.invariant.leads.stands.1
