use Rattle.std.proofs.Common.{subst, sym, ◌∙◌}
use denote.Exit.{no}
use denote.Param.Send.{arg_send, param_send}
use denote.Param.{param}
use mir.Syntax.{named}
use Rattle.desk.specs.Posts.{Posts}
use Rattle.one_history.specs.History.{Hand}
use Rattle.keeper.specs.declared.deeds.Deed.{Deed}
use Rattle.keeper.specs.Deeds.{AllStandIn}
use Rattle.keeper.specs.Fronts.{FrontStep}
use Rattle.keeper.specs.Kept.{IsKept}
use Rattle.keeper.proofs.deeds.Place.TheSendSync as Place
use Rattle.server.proofs.Crossing.{Worker-send}
use Rattle.server.proofs.Sending.{Locked-send, Counted-send, Waking-send, Indexer-send}
use Rattle.server.proofs.Served.{all_served, attended_along}
use Rattle.server.specs.Turning.{TurnByTurn}
use Rattle.server.proofs.serving.serve_seated.Goals as goal

pub serve_and_follow-requires-send-S : goal.serve_and_follow-requires-send-S
serve_and_follow-requires-send-S g c κs within =
    let b = c.type_bounds in
    let locked = Locked-send _ (param 1 g.row.T) (param 2 g.row.J) (param 3 g.row.H) (param 0 g.row.R) (param 4 g.row.G) _ _ _ _ b.send-T b.send-J b.sync-J b.send-H b.sync-R b.sync-G in
    param_send 2 _ (arg_send _ no _ (Worker-send _ _ (Counted-send _ _ (param 4 g.row.G) (Waking-send _ _ (param 0 g.row.R) locked b.sync-R) b.sync-G)))

pub serve_and_follow-requires-send-F : goal.serve_and_follow-requires-send-F
serve_and_follow-requires-send-F g c κs within =
    let b = c.type_bounds in
    param_send 1 _ (arg_send _ no _ (Indexer-send (record { mir = named 2; lft = _ }) (param 1 g.row.T) (param 2 g.row.J) (param 3 g.row.H) (param 4 g.row.G) _ _ _ _ b.send-T b.send-J b.sync-J b.send-H b.sync-G))

pub serve_and_follow-requires-send-L : goal.serve_and_follow-requires-send-L
serve_and_follow-requires-send-L g c κs within =
    param_send 3 _ (arg_send _ no _ (Place.the_send (record { mir = named 4; lft = κs.1.1.1.1.0 }) (param 2 g.row.J) _))

pub returns-in_ok-push-in-Some-clause-served : goal.returns-in_ok-push-in-Some-clause-served
returns-in_ok-push-in-Some-clause-served g c =
    let book = g.J.Naming.book in
    let starts = g.J.KeeperName.starts in
    let told = c.look.ensures.told in
    let ended = c.in-Some.ensures in
    let turned = ended.followed.1 in
    let step = FrontStep g.T.Tables book starts in
    let all = all_served g.T.Tables book starts (λ w. w.answers.answers.answers) _ _
    (λ s end t took. attended_along (λ m. m.answers.answers) _ step (λ x call body says y may. may) s.answers end t.answers took) (λ t place is. is)
    told.0 c.args.machines.items c.in-Some.places.items c.leave.result c.requires.machines ended.served (subst (AllStandIn told.0) c.in_ok-push-in-Some.ensures.items told.2) in
    record {
      desk = c.look.new.self;
      deeds = told.0;
      kept = subst (λ (d : Posts g.row.T.Denot). IsKept g.T.Tables book d) (sym (c.look.ensures.same ∙ c.deref_mut.ensures.value)) c.hold.ensures.kept;
      left = told.1;
      served = all.0;
      number = all.1 ∙ sym c.args.machines.ok.0;
      followed = record {
        began = c.args.indexer;
        seated = c.requires.indexer;
        turns = turned.0;
        ended = c.leave.result;
        followed = subst (λ (h : Hand Deed). TurnByTurn g.T.Tables book starts c.args.indexer.hand turned.0 h) (sym c.leave.ensures) turned.1;
        stands = all.2;
      };
    }
