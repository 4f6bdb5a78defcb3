use Rattle.std.proofs.Common.{sym, subst, arith}
use Rattle.std.specs.Prelude.{Contains}
use Rattle.meaning.specs.Membership.{RelationGives}
use Rattle.meaning.proofs.GivesLemmas.{relation_grows, relation_finitary}
use Rattle.plain.specs.inside.Source.{snap_of}
use Rattle.plain.proofs.Fill.{filling_none, filling_more, filling_done}
use Rattle.plain.proofs.rounds.filled.Goals as goal

pub loop-i-init : goal.loop-i-init
loop-i-init c =
    rw (c.in_ok-waiting.ensures, c.in_ok-held.ensures)
    (filling_none (RelationGives (snap_of c.args.source.now) c.args.user.now) (relation_grows _ _) (relation_finitary _ _) c.args.nodes.now c.args.lower.now)

pub loop-i-preserved-in-Some : goal.loop-i-preserved-in-Some
loop-i-preserved-in-Some c =
    let rule = RelationGives (snap_of c.args.source.now) c.args.user.now in
    let found = rw (c.deref.ensures.value, c.deref-in-loop-i.ensures.value) at c.in-Some.ensures.found in
    rw (c.remove-node.ensures.items, c.in_ok-push-in-Some.ensures.items)
    (filling_more rule (relation_grows _ _) (relation_finitary _ _) _ _ _ _ c.in-Some.i c.remove-node.result found.0 c.remove-node.ensures.value
    (subst (λ m. rule m (Contains c.loop-i.held.items) (Contains c.args.lower.now)) (sym c.remove-node.ensures.value) (found.1 c.remove-node.result))
    c.loop-i.invariant)

pub returns-in-None : goal.returns-in-None
returns-in-None c =
    let none = rw (c.deref.ensures.value, c.deref-in-loop-i.ensures.value) at c.in-None.ensures.none in
    filling_done (RelationGives (snap_of c.args.source.now) c.args.user.now) _ _ c.loop-i.waiting.items _ (λ m (k, lt, e) given. none k m (omega arith) lt e given) c.loop-i.invariant
