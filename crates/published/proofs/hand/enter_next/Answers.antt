use Rattle.std.proofs.Common.{◌≡◌, ◌∷◌, rules, subst, sym}
use Rattle.published.specs.Known.{Known, next_of}
use Rattle.published.specs.Judged.{AreJudged}
use Rattle.published.proofs.Judging.{judged_first}
use Rattle.published.proofs.hand.enter_next.Goals as goal

pub new-requires-clause-judged : goal.new-requires-clause-judged
new-requires-clause-judged g c =
    let is : c.in_ok-after.after ≡ next_of c.args.entered.now c.in_ok-step.step = search rules in
    let first : c.args.backlog.now.items ≡ c.in_ok-step.step ∷ c.pop_front.new.self.items = search rules in
    subst (λ (k : Known). AreJudged k.steps) (sym is)
    (judged_first c.args.entered.now.steps c.args.backlog.now.items c.pop_front.new.self.items c.in_ok-step.step c.requires.entered c.requires.judged first)
