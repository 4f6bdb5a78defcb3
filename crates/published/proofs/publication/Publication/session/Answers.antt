use Rattle.std.proofs.Common.{◌≡◌, List, All, subst, sym}
use Rattle.std.proofs.lemmas.List.Elements.{All-take}
use Rattle.published.specs.Known.{Known}
use Rattle.published.proofs.publication.Publication.session.Goals as goal

pub invariant_of-self-2 : goal.invariant_of-self-2
invariant_of-self-2 g c =
    let was = c.self.invariant in
    let seated = All-take (λ (s : Known). s.book ≡ c.self.inside.book) _ c.self.inside.sessions.items was.seated in
    record {
      of_name = was.of_name;
      leads = was.leads;
      judged = was.judged;
      seated = subst (λ (l : List Known). All (λ s. s.book ≡ c.self.inside.book) l) (sym c.pop.ensures.rest) seated;
    }
