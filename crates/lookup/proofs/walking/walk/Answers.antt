use Rattle.std.proofs.Common.{sym, ap, ◌∙◌}
use Rattle.std.specs.Prelude.{Some}
use Rattle.lookup.proofs.Stepping.{walk_goes_on, walk_ends}
use Rattle.lookup.proofs.walking.walk.Goals as goal

pub nodes-preserved : goal.nodes-preserved
nodes-preserved c =
    walk_goes_on c.args.config.now c.args.subjects.now c.args.user.now c.nodes.reached c.step_up.new.reached c.nodes.next c.again-node.result
    (sym c.in-Some-name.ensures ∙ ap (λ n. Some n) (sym c.again-node.ensures)) c.in_ok-step_up.ensures.kept (c.in_ok-step_up.ensures.added c.if-not-branch.false) c.nodes.invariant

pub returns : goal.returns
returns c = walk_ends c.args.config.now c.args.subjects.now c.args.user.now c.nodes.reached c.nodes.next (sym c.in_default-name.ensures) c.nodes.invariant
