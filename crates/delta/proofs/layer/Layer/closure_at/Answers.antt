use Rattle.std.proofs.Common.{ℕ, List, subst}
use Rattle.delta.specs.inside.Named.{AreNamed}
use Rattle.delta.proofs.Outcomes.{if_ok}
use Rattle.delta.proofs.Layered.{bare_answer, named_answer}
use Rattle.delta.proofs.layer.Layer.closure_at.Goals as goal

pub returns-in-Some : goal.returns-in-Some
returns-in-Some c = if_ok _ _ c.named.result
    (λ v named snaps is from to group.
    let layer = c.args.self.now in
    named_answer layer snaps c.args.group.now c.args.rev c.in-Some.ids.now v.items (subst (λ (xs : List ℕ). AreNamed layer.nodes xs v.items) c.as_slice.ensures.ids named)
    (c.in-Some.ensures.kept snaps is from to group))
    c.named.ensures

pub returns-in-None : goal.returns-in-None
returns-in-None c = if_ok _ _ c.led_to.result
    (λ v are snaps is from to group. bare_answer c.args.self.now snaps c.args.group.now c.args.rev is from to group c.in-None.ensures.none v.items are)
    c.led_to.ensures
