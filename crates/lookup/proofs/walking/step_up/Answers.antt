use Rattle.std.proofs.Common.{List, subst}
use Rattle.std.specs.Prelude.{◌↔◌, Contains, IfSome}
use Rattle.names.specs.declared.node.Node.{Node}
use Rattle.meaning.specs.Snap.{one, set_of}
use Rattle.lookup.specs.inside.Walking.{HasFollowing, IsNaming}
use Rattle.lookup.proofs.Stepping.{steps_up}
use Rattle.lookup.proofs.walking.step_up.Goals as goal

pub returns-clause-added : goal.returns-clause-added
returns-clause-added c could =
    let config = c.args.config.now in
    let m = c.args.node.now in
    let subjects = c.args.subjects.now in
    let all = c.add_all_following.new.reached in
    let members = subst (λ some. IfSome some (λ v. (n : Node) → Contains v.items n ↔ IsNaming subjects (set_of m) n)) c.in-Some.is c.in_ok-nodes.ensures.found in
    let tuplesets = subst (λ some. IfSome some (λ v. (n : Node) → Contains v.items n ↔ IsNaming subjects (one m.object) n)) c.in-Some-2.is c.in_ok-tuplesets.ensures.found in
    steps_up config subjects m c.in-Some.nodes.items c.in-Some-2.tuplesets.items c.add_computed.new.reached c.add_all.new.reached all
    c.in_ok-add_computed.ensures.added members c.in_ok-add_all.ensures.added tuplesets
    (subst (λ (ts : List Node). (q : Node) → Contains ts q → HasFollowing config q m.relation all) c.deref.ensures.value c.in_ok-add_all_following.ensures.added)
    c.in_ok-add_all.ensures.kept c.in_ok-add_all_following.ensures.kept
