use Rattle.std.proofs.Common.{subst, ◌∙◌, sym}
use Rattle.std.proofs.lemmas.Bool.{false≢true}
use Rattle.meaning.specs.Membership.{HasOne}
use Rattle.meaning.specs.Snap.{Snap}
use Rattle.decide.specs.inside.Reads.{AreOwn}
use Rattle.decide.proofs.facts.Facts.own_among_many.Goals as goal

pub returns-then-has-clause-none : goal.returns-then-has-clause-none
returns-then-has-clause-none c = subst (λ (S : Snap). HasOne S c.args.node.now c.args.user.now) c.self.view_is (c.has.ensures.0 c.if-has.true)

pub returns-clause-some : goal.returns-clause-some
returns-clause-some c =
    subst (λ (S : Snap). AreOwn S c.args.user.now c.args.node.now c.in_ok-sets.sets.items) c.self.view_is (record {
      direct = λ h. false≢true (sym c.if-has.false ∙ c.has.ensures.1 h);
      only = c.in_ok-sets.ensures.only;
      all = c.in_ok-sets.ensures.all;
    })
