use Rattle.std.proofs.Common.{List, [], ◌∷◌, ◌++◌, ◌+◌, drop, Any, Contains, sym, subst, arith}
use Rattle.std.specs.Prelude.{◌↔◌, ◌⊎◌}
use Rattle.names.specs.declared.object.Object.{Object}
use Rattle.leopard.specs.inside.Building.{NamesOne}
use Rattle.leopard.proofs.DirectSets.{names_this, names_nobody}
use Rattle.leopard.proofs.Finding.{all_yet}
use Rattle.leopard.proofs.Gather.{gather_more, gather_none, gather_all, left_at, left_none}
use Rattle.leopard.proofs.Leftover.{added_as}
use Rattle.leopard.proofs.Making.{nothing_yet, pushed}
use Rattle.leopard.proofs.members.users_of.Goals.{then-names_user+in_ok-push, else-names_user}
use Rattle.leopard.proofs.members.users_of.Goals as goal

pub loop-tuple-init : goal.loop-tuple-init
loop-tuple-init c = λ u. all_yet (Contains c.new-users.result.items u) _ _ (nothing_yet c.new-users.result.items u c.new-users.ensures.items) (λ h. h, λ h. h)

pub loop-tuple-preserved : goal.loop-tuple-preserved
loop-tuple-preserved c u =
    let config = c.args.config.now in
    let tuples = c.args.tuples.now in
    let t = c.tuple-item.result in
    let k = c.loop-tuple.tuple-index in
    let users : List Object = c.loop-tuple.users.items in
    let next = left_at tuples k t c.loop-tuple-test.true c.tuple-item.is in
    elim c.if-names_user.branch [
      | then-names_user+in_ok-push w ↦
          let this = names_this config t c.names_user.result c.names_user.ensures w.if-names_user.true u in
          rw w.users-is
          (gather_more (NamesOne config u) (Any (NamesOne config u) tuples) (Contains users u) (Contains w.push.new.self.items u) (drop k tuples) t (drop (k + 1) tuples) next (c.loop-tuple.invariant u)
          (subst (λ (l : List Object). Contains l u ↔ (Contains users u ⊎ NamesOne config u t)) (sym w.in_ok-push.ensures.items)
          (subst (λ (o : Object). Contains (users ++ o ∷ []) u ↔ (Contains users u ⊎ NamesOne config u t)) (sym w.again.ensures)
          (added_as _ _ _ _ (pushed users t.subject.object u) (λ e. this.1 e, λ named. this.0 named)))))
      | else-names_user w ↦
          rw w.users-is
          (gather_none (NamesOne config u) (Any (NamesOne config u) tuples) (Contains users u) (drop k tuples) t (drop (k + 1) tuples) next (c.loop-tuple.invariant u)
          (names_nobody config t c.names_user.result c.names_user.ensures w.if-names_user.false u))
    ]

pub returns : goal.returns
returns c u =
    let all = gather_all (NamesOne c.args.config.now u) _ (Contains c.loop-tuple.users.items u) (drop c.loop-tuple.tuple-index c.args.tuples.now)
    (left_none c.args.tuples.now c.loop-tuple.tuple-index (omega (arith, c.loop-tuple-test.false, c.loop-tuple.auto.tuple-index-end)))
    (c.loop-tuple.invariant u) in
    (λ h. all.0 ((c.of.ensures.names u).0 h), λ h. (c.of.ensures.names u).1 (all.1 h))
