use Rattle.std.proofs.Common.{◌≡◌, None, sym, subst, ◌∙◌}
use Rattle.names.specs.declared.object.Object.{Object}
use Rattle.meaning.specs.Config.{Has, IsAt, rel_of}
use Rattle.meaning.specs.Snap.{Snap}
use Rattle.meaning.proofs.KnownRelations.{has_known, not_known}
use Rattle.config.specs.Places.{StandsAt}
use Rattle.decide.specs.Answers.{IsAnswer}
use Rattle.decide.specs.inside.Running.{IsRunning}
use Rattle.decide.specs.inside.Reading.{AreRead}
use Rattle.decide.proofs.Relations.{has_there}
use Rattle.decide.proofs.asker.Asker.ask.Goals as goal

pub returns-in_default-clause-err : goal.returns-in_default-clause-err
returns-in_default-clause-err g c =
    let rel = rel_of c.args.node.now in
    not_known c.args.self.now.config rel (subst (λ (S : Snap). Has S.config rel → ⊥) (c.self.invariant.0 ∙ c.self.view_is) c.in_default.ensures.none)

pub is_member-requires-clause-running : goal.is_member-requires-clause-running
is_member-requires-clause-running g c =
    let S = c.args.self.now in
    let u = c.args.user.now in
    let n = c.args.node.now in
    let same : c.self.inside.facts ≡ S = c.self.invariant.0 ∙ c.self.view_is in
    let facts : c.self-2.inside.facts ≡ S = c.self-2.invariant.0 ∙ c.self-2.view_is ∙ c.take_known.ensures.same in
    let stands = c.in-Some.ensures.some in
    let at : IsAt S.config n c.level_at-level.result = subst (λ (T : Snap). IsAt T.config n c.level_at-level.result) same (c.level_at-level.ensures.at n stands) in
    let placed : StandsAt S.config (rel_of n) c.in-Some.place = subst (λ (T : Snap). StandsAt T.config (rel_of n) c.in-Some.place) same stands in
    subst (λ (T : Snap). IsRunning T u c.reach.new.self None) (sym facts) (c.in_ok-root.ensures.running S u at placed c.in_ok-known.ensures.running)

pub returns-clause-ok : goal.returns-clause-ok
returns-clause-ok g c =
    let number = c.in_ok-root.ensures.number in
    let facts : c.self-2.inside.facts ≡ c.args.self.now = c.self-2.invariant.0 ∙ c.self-2.view_is ∙ c.take_known.ensures.same in
    subst (λ (T : Snap). IsAnswer T c.args.user.now c.args.node.now c.in_ok-answer.answer) facts (c.in_ok-answer.ensures.answer c.args.node.now number.0 number.1)

pub returns-clause-known : goal.returns-clause-known
returns-clause-known g c =
    let rel = rel_of c.args.node.now in
    has_known c.args.self.now.config rel
    (subst (λ (S : Snap). Has S.config rel) (c.self.invariant.0 ∙ c.self.view_is) (has_there c.self.inside.facts.config rel c.in-Some.place c.in-Some.ensures.some))

pub invariant_of-self-2 : goal.invariant_of-self-2
invariant_of-self-2 g c =
    let view = c.self-2.inside.view.now in
    let facts = c.self-2.invariant.0 in (
      facts,
      subst (λ (S : Snap). AreRead S c.is_member.new.reads) facts c.in_ok-answer.ensures.read,
      subst (λ (u : Object). IsRunning view u c.is_member.new.search None) (sym c.in_ok-known.ensures.of_user)
          (subst (λ (S : Snap). IsRunning S c.args.user.now c.is_member.new.search None) facts c.in_ok-answer.ensures.running),
    )
