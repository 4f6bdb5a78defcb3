use Rattle.std.proofs.Common.{ℕ, List, [], refl, ◌∙◌, sym, ap, subst}
use Rattle.names.specs.declared.node.Node.{Node}
use Rattle.meaning.specs.Snap.{Snap}
use Rattle.idsets.specs.Naming.{AreDistinct}
use Rattle.least_sets.specs.World.{has}
use Rattle.region.specs.Refreshed.{IsRefreshed}
use Rattle.delta.specs.Telling.{MayTell}
use Rattle.delta.proofs.After.{anew}
use Rattle.delta.proofs.Layered.{begun, roots_of}
use Rattle.delta.proofs.Lists.{distinct_none}
use Rattle.delta.proofs.layer.Layer.begun.Goals as goal

pub returns-clause-layer : goal.returns-clause-layer
returns-clause-layer g c = λ snaps there.
    let T : Snap = g.A.HasArcs.snap c.args.arcs.now in
    let config = c.in_ok-config.ensures ∙ c.requires.config in
    let facts = c.refresh.new.facts in
    let later = c.in_ok-refresh.ensures.later in
    let distinct = later.1.distinct (c.in_ok-turned.ensures.more.distinct (subst (λ (ns : List Node). AreDistinct ns) (sym c.new-nodes.ensures) distinct_none)) in
    let r = subst (λ arcs. IsRefreshed (MayTell (g.A.HasArcs.snap arcs) facts.nodes) c.new-sets.result.rows c.refresh.new.sets.rows c.of-roots.result c.as_slice.result.now [] c.new.result.items facts.asked.items) later.0 c.in_ok-refresh.ensures.refreshed in
    begun c.groups_are_walks.ensures _ snaps T there refl config distinct
    (anew T facts.nodes c.new-sets.result.rows c.refresh.new.sets.rows c.of-roots.result c.as_slice.result.now c.new.result.items facts.asked.items c.new-sets.ensures.none (λ n. ap (λ (xs : List ℕ). has xs n) c.as_slice.ensures.ids) r)
    (roots_of T c.in_ok-config.config c.above_tuples.new.nodes facts.nodes c.args.tuples.now c.in_ok-turned.turned.items c.of-roots.result config c.requires.tuples
    c.in_ok-turned.ensures.numbers c.of-roots.ensures.members later.1)
