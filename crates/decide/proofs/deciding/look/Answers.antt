use Rattle.std.proofs.Common.{◌≡◌, Some, false, sym, subst, ◌∙◌}
use Rattle.std.proofs.lemmas.Bool.{false≢true}
use Rattle.decide.specs.declared.asking.Asking.{Asking}
use Rattle.decide.specs.declared.search.Opened.{Opened}
use Rattle.decide.specs.inside.Asked.{IsAsking}
use Rattle.decide.specs.inside.Searches.{Stands}
use Rattle.decide.proofs.Turns.{waiting_all_there, member_given, no_member_stuck, number_here}
use Rattle.decide.proofs.Elements.{holds_some}
use Rattle.decide.proofs.SearchLemmas.{grew_refl}
use Rattle.decide.proofs.Turning.{turned_none, turned_given}
use Rattle.decide.proofs.deciding.look.Goals as goal

pub give-requires-clause-there : goal.give-requires-clause-there
give-requires-clause-there g c = waiting_all_there c.args.facts.now c.args.user.now c.args.search.now (Some c.args.number) c.requires.running

pub returns-in_ok-give-in-Some-true-clause-running : goal.returns-in_ok-give-in-Some-true-clause-running
returns-in_ok-give-in-Some-true-clause-running g c =
    c.in_ok-give-in-Some-true.ensures.running c.args.facts.now c.args.user.now
    (member_given c.args.facts.now c.args.user.now c.args.search.now c.args.number c.node_of-node.result c.requires.running c.node_of-node.ensures
    ((c.in-Some-true.ensures.right c.args.facts.now c.requires.tells).0 c.in-Some-true.field-0-test))
    c.requires.running

pub returns-in-Some-false-clause-running : goal.returns-in-Some-false-clause-running
returns-in-Some-false-clause-running g c =
    no_member_stuck c.args.facts.now c.args.user.now c.args.search.now c.args.number c.node_of-node.result c.requires.running c.node_of-node.ensures
    (λ m. false≢true (sym c.in-Some-false.field-0-test ∙ (c.in-Some-false.ensures.right c.args.facts.now c.requires.tells).1 m))

pub step-requires-clause-asking : goal.step-requires-clause-asking
step-requires-clause-asking g c = subst (IsAsking c.args.facts.now c.args.search.now) (sym c.of-asking.ensures) (record {
  running = c.requires.running;
  number = number_here c.args.facts.now c.args.user.now c.args.search.now c.args.number c.level_of-level.result c.node_of-node.result c.requires.number c.node_of-node.ensures c.level_of-level.ensures;
  read = tt;
})

pub step-requires-clause-unsure : goal.step-requires-clause-unsure
step-requires-clause-unsure g c =
    subst (λ (a : Asking). (e : Opened) → Stands c.args.search.now a.number e → e.sure ≡ false) (sym c.of-asking.ensures)
    (λ e at. c.is_sure.ensures e at ∙ c.if-is_sure.false)

pub returns-then-is_sure-clause-turned : goal.returns-then-is_sure-clause-turned
returns-then-is_sure-clause-turned g c = turned_none c.args.search.now

pub returns-in-Some-false-clause-turned : goal.returns-in-Some-false-clause-turned
returns-in-Some-false-clause-turned g c = turned_none c.args.search.now

pub returns-in_ok-give-in-Some-true-clause-turned : goal.returns-in_ok-give-in-Some-true-clause-turned
returns-in_ok-give-in-Some-true-clause-turned g c =
    let s = c.args.search.now in
    let (e, at) = holds_some s.opened.items c.args.number c.requires.number in
    turned_given s s (grew_refl s) c.args.number e c.give.new.self at (c.is_sure.ensures e at ∙ c.if-is_sure.false) c.in_ok-give-in-Some-true.ensures.long c.in_ok-give-in-Some-true.ensures.sures
