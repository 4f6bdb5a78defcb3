use Rattle.std.proofs.Common.{[], ◌∷◌, sym, ◌∙◌, ap, subst}
use Rattle.std.specs.Prelude.{Some}
use Rattle.region.specs.Refreshed.{IsRefreshed}
use Rattle.leopard.proofs.Nodes.{same_node}
use Rattle.delta.specs.Telling.{MayTell}
use Rattle.delta.proofs.Led.{led_walks}
use Rattle.delta.proofs.Outcomes.{if_ok}
use Rattle.delta.proofs.closing.led_to.Goals as goal

pub returns-in-Some : goal.returns-in-Some
returns-in-Some g c = if_ok _ _ c.named.result
    (λ v named.
    let facts = c.refresh.new.facts in
    let later = c.in_ok-refresh.ensures.later in
    let start = c.in_ok-start.start in
    let from = ap (λ x. Some x) (same_node c.in_ok-clone.field-0 c.args.from.now c.in_ok-clone.ensures.cases) in
    let r = subst (λ arcs. IsRefreshed (MayTell (g.A.HasArcs.snap arcs) facts.nodes) c.new-sets.result.rows c.refresh.new.sets.rows c.in_ok-roots.roots (start ∷ []) [] c.new.result.items facts.asked.items) later.0 c.in_ok-refresh.ensures.refreshed in
    led_walks c.groups_are_walks.ensures (g.A.HasArcs.snap c.args.arcs.now) c.see.new.self facts.nodes c.new-sets.result.rows c.refresh.new.sets.rows c.in_ok-roots.roots (start ∷ []) c.new.result.items facts.asked.items
    c.as_slice.result.now start c.args.from.now
    c.new-sets.ensures.none (sym c.in_ok-roots.ensures) later.1 (c.in_ok-start.ensures.id ∙ from) r (ap (λ x. Some x) c.as_slice.ensures.ids ∙ c.in-Some.ensures) v.items named)
    c.named.ensures
