use Rattle.std.proofs.Common.{◌≡◌, List, ap₂, sym, subst, rules}
use Rattle.std.specs.Prelude.{◌↔◌, ◌⊎◌, Contains, Some, None}
use Rattle.names.specs.declared.node.Node.{Node}
use Rattle.names.specs.declared.object.Object.{Object}
use Rattle.meaning.specs.Snap.{set_of}
use Rattle.leopard.proofs.Inputs.{is_userset, no_userset}
use Rattle.leopard.proofs.Leftover.{added_as, none_added}
use Rattle.leopard.proofs.Making.{pushed}
use Rattle.leopard.proofs.input.push_userset.Goals as goal

pub returns-in_default : goal.returns-in_default
returns-in_default c n =
    let none : c.args.subject.now.relation ≡ None = search rules in
    none_added (Contains c.args.nodes.now.items n) (c.args.subject.now ≡ set_of n) (no_userset c.args.subject.now n none)

pub returns : goal.returns
returns c n =
    let s = c.args.subject.now in
    let nodes : List Node = c.args.nodes.now.items in
    let read : Node = record { object = c.again-object.result; relation = c.again-relation.result } in
    let some : s.relation ≡ Some c.in-Some.relation = search rules in
    let made : read ≡ record { object = s.object; relation = c.in-Some.relation } = ap₂ (λ (o : Object) r. record { object = o; relation = r }) c.again-object.ensures c.again-relation.ensures in
    subst (λ (l : List Node). Contains l n ↔ (Contains nodes n ⊎ (s ≡ set_of n))) (sym c.in_ok-push.ensures.items)
    (added_as _ _ _ _ (pushed nodes read n) (is_userset s c.in-Some.relation read n some made))
