use Rattle.std.proofs.Common.{◌≡◌, sym, subst, ◌∙◌}
use Rattle.std.specs.Prelude.{Option, IfSome, None}
use Rattle.names.specs.declared.object.Object.{Object}
use Rattle.meaning.specs.Snap.{Snap}
use Rattle.decide.specs.declared.asker.Known.{Known}
use Rattle.decide.specs.inside.Running.{IsRunning}
use Rattle.decide.proofs.Nodes.{same_object}
use Rattle.decide.proofs.Turns.{running_new}
use Rattle.decide.proofs.asker.Asker.take_known.Goals as goal

pub returns-in-Some-clause-running : goal.returns-in-Some-clause-running
returns-in-Some-clause-running c =
    let known = c.in-Some.known in
    let user : known.user ≡ c.args.user.now = same_object known.user c.args.user.now (sym c.eq.ensures ∙ c.if-eq.true) in
    let kept : IsRunning c.self.inside.view.now known.user known.search None =
    subst (λ (o : Option Known). IfSome o (λ k. IsRunning c.self.inside.view.now k.user k.search None)) (sym c.in-Some.ensures.value) c.self.invariant.2 in
    subst (λ (S : Snap). IsRunning S c.args.user.now known.search None) c.self.view_is
    (subst (λ (u : Object). IsRunning c.self.inside.view.now u known.search None) user kept)

pub returns-in_ok-search-in_default-clause-running : goal.returns-in_ok-search-in_default-clause-running
returns-in_ok-search-in_default-clause-running c =
    let begun = c.in_ok-search-in_default.ensures in
    running_new c.args.self.now c.args.user.now c.in_ok-search-in_default.search begun.opened begun.stacked begun.frames

pub returns-in-Some-clause-of_user : goal.returns-in-Some-clause-of_user
returns-in-Some-clause-of_user c = same_object c.in-Some.known.user c.args.user.now (sym c.eq.ensures ∙ c.if-eq.true)

pub returns-in_ok-search-in_default-clause-of_user : goal.returns-in_ok-search-in_default-clause-of_user
returns-in_ok-search-in_default-clause-of_user c =
    c.again-user.ensures
