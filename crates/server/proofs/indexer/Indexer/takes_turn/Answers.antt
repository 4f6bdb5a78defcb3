use Rattle.std.proofs.Common.{◌≡◌, ap, inr, subst, sym, ◌∙◌}
use Rattle.published.specs.Known.{Begins}
use Rattle.published.proofs.Rules.{begins_trans}
use Rattle.desk.specs.Posts.{Posts}
use Rattle.one_history.specs.History.{Hand}
use Rattle.keeper.specs.declared.deeds.Deed.{Deed}
use Rattle.keeper.specs.Fronts.{FrontState}
use Rattle.keeper.specs.Kept.{IsKept}
use Rattle.server.specs.Turning.{TurnDone}
use Rattle.server.proofs.indexer.Indexer.takes_turn.Goals as goal

pub returns-clause-known : goal.returns-clause-known
returns-clause-known g c =
    let old = c.args.self.now in
    let asked = c.state.new.self in
    let now = c.self-2.inside.session in
    let new = c.take_turn-taken.new.session in
    begins_trans old.known asked new (subst (λ (s : FrontState). Begins s.known asked) c.self.view_is c.state.ensures.later)
    (begins_trans asked now new (subst (λ (s : FrontState). Begins asked s.known) (sym c.self-2.view_is) c.make_ready-made.ensures.known) c.take_turn-taken.ensures.kept.0)

pub returns-clause-turn : goal.returns-clause-turn
returns-clause-turn g c =
    let hand : c.self-2.inside.place ≡ c.args.self.now.hand =
    ap (λ (s : FrontState). s.hand) c.self-2.view_is ∙ c.make_ready-made.ensures.deeds ∙ ap (λ (s : FrontState). s.hand) c.self.view_is in
    inr
    (record {
      before = c.deref_mut.result.now;
      after = c.take_turn-taken.new.desk;
      kept = subst (λ (d : Posts g.row.T.Denot). IsKept g.T.Tables g.J.Naming.book d) (sym c.deref_mut.ensures.value) c.hold_with.ensures.kept;
      done = subst (λ (h : Hand Deed). TurnDone g.T.Tables g.J.KeeperName.starts h c.deref_mut.result.now c.take_turn-taken.new.desk c.take_turn-taken.new.place)
          hand c.take_turn-taken.ensures.done;
    })
