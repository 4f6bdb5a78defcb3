use Rattle.std.proofs.Common.{◌≡◌, ◌+◌, ◌∷◌, ◌++◌, [], List, take, sym, ◌∙◌, ap, subst, arith}
use Rattle.std.specs.Prelude.{Some, Contains}
use Rattle.std.specs.List.{slice_get}
use Rattle.names.specs.declared.node.Node.{Node}
use Rattle.names.specs.declared.commit.Event.{Event}
use Rattle.meaning.specs.History.{replay}
use Rattle.meaning.specs.Snap.{Snap, Tuples}
use Rattle.facts.specs.inside.Growing.{later_further}
use Rattle.facts.proofs.Naming.{in_left, in_last, one_more, all_of}
use Rattle.hot.specs.inside.Following.{AreTellable, event_after}
use Rattle.hot.proofs.Followed.{replay_push}
use Rattle.hot.proofs.following.follow.Goals as goal

pub loop-event-preserved : goal.loop-event-preserved
loop-event-preserved c =
    let inv = c.loop-event.invariant in
    let i = c.loop-event.event-index in
    let e = c.event-item.result in
    let nodes = c.args.numbers.now.nodes in
    let back = c.args.sets.now.back in
    let more : take i c.args.events.now ++ e ∷ [] ≡ take (i + 1) c.args.events.now = one_more c.args.events.now i e c.loop-event-test.true c.event-item.is in
    record {
      nodes = c.follow_one.ensures.nodes ∙ inv.nodes;
      later = later_further nodes c.loop-event.numbers.nodes c.follow_one.new.numbers.nodes c.args.numbers.now.users c.loop-event.numbers.users c.follow_one.new.numbers.users
          inv.later c.follow_one.ensures.later;
      keys = λ n t at. let one = c.follow_one.ensures.keys n t at in inv.keys n one.0 one.1;
      same = λ n t at off. inv.same n t
          (c.follow_one.ensures.same n t at (λ g. off e (subst (λ (es : List Event). Contains es e) more (in_last (take i c.args.events.now) e))
          (subst (λ (ns : List Node). slice_get ns n ≡ Some e.tuple.node) inv.nodes g)))
          (λ x there g. off x (subst (λ (es : List Event). Contains es x) more (in_left (take i c.args.events.now) (e ∷ []) x there)) g);
      tells = λ S are.
          let mid : Snap = record { config = S.config; tuples = replay S.tuples (take i c.args.events.now) } in
          let was = subst (λ (ns : List Node). AreTellable mid ns c.loop-event.numbers.users back c.loop-event.told) (sym inv.nodes) (inv.tells S are) in
          let now = subst (λ (ns : List Node). AreTellable (event_after mid e) ns c.follow_one.new.numbers.users back c.follow_one.new.told) inv.nodes (c.follow_one.ensures.tells mid was) in
          subst (λ (ts : Tuples). AreTellable (record { config = S.config; tuples = ts }) nodes c.follow_one.new.numbers.users back c.follow_one.new.told)
          (sym (replay_push (take i c.args.events.now) e S.tuples) ∙ ap (replay S.tuples) more) now;
    }

pub returns-clause-same : goal.returns-clause-same
returns-clause-same c = λ n t at off.
    let all = all_of c.args.events.now c.loop-event.event-index (omega (arith, c.loop-event-test.false)) in
    c.loop-event.invariant.same n t at (λ e there g. off e (subst (λ (es : List Event). Contains es e) all there) g)

pub returns-clause-tells : goal.returns-clause-tells
returns-clause-tells c = λ S are.
    let all = all_of c.args.events.now c.loop-event.event-index (omega (arith, c.loop-event-test.false)) in
    subst (λ (es : List Event). AreTellable (record { config = S.config; tuples = replay S.tuples es }) c.args.numbers.now.nodes c.loop-event.numbers.users c.args.sets.now.back c.loop-event.told) all
    (c.loop-event.invariant.tells S are)
