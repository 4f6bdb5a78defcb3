use Rattle.std.proofs.Common.{ap, subst}
use Rattle.keeper.specs.Fronts.{FrontState}
use Rattle.keeper.specs.Questions.{IsAsked}
use Rattle.keeper.proofs.Kept.{known_on}
use Rattle.keeper.proofs.Told.{asked_later}
use Rattle.keeper.proofs.front.Front.ask.Goals as goal

pub invariant_of-self : goal.invariant_of-self
invariant_of-self g c =
    known_on g.J.Naming.book c.self.inside.session c.ask_from.new.session c.self.invariant (asked_later c.self.inside.session c.args.call c.args.body.now c.ask_from.result c.ask_from.new.session c.ask_from.ensures)

pub returns-clause-told : goal.returns-clause-told
returns-clause-told g c =
    subst (λ (s : FrontState). IsAsked s.known c.args.call c.args.body.now c.ask_from.result c.ask_from.new.session) c.self.view_is c.ask_from.ensures

pub returns-clause-deeds : goal.returns-clause-deeds
returns-clause-deeds g c = ap (λ (s : FrontState). s.hand) c.self.view_is
