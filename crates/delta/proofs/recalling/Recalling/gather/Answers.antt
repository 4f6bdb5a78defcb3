use Rattle.std.proofs.Common.{ℕ, List, subst}
use Rattle.meaning.specs.Snap.{Snap}
use Rattle.region.specs.declared.sets.Sets.{Sets}
use Rattle.region.specs.Gathered.{IsGathered}
use Rattle.region.specs.Steps.{AreTold}
use Rattle.delta.specs.inside.Handing.{WereOf}
use Rattle.delta.proofs.Outcomes.{if_ok}
use Rattle.delta.proofs.Recalled.{MayRecall}
use Rattle.delta.proofs.recalling.Recalling.gather.Goals as goal

pub returns-clause-told : goal.returns-clause-told
returns-clause-told g c = if_ok _ _ c.gather.result
    (λ region all.
    let told = region.told.items in
    let now = c.gather.new.facts in
    let later = c.gather.ensures.later in
    let one = subst (λ (sets : Sets). AreTold (MayRecall sets.rows now.changed.now (g.A.CountedArcs.snap now.arcs.now) now.nodes.now) told) later.4 all in
    let two = subst (λ (ids : List ℕ). AreTold (MayRecall c.args.self.now.sets.now.rows ids (g.A.CountedArcs.snap now.arcs.now) now.nodes.now) told) later.5 one in
    subst (λ (S : Snap). AreTold (MayRecall c.args.self.now.sets.now.rows c.args.self.now.changed.now S now.nodes.now) told) later.3 two)
    c.gather.ensures.told

pub returns-clause-gathered : goal.returns-clause-gathered
returns-clause-gathered g c = if_ok _ _ c.gather.result
    (λ region gathered world tells. subst (λ (ids : List ℕ). IsGathered world c.args.self.now.sets.now.rows c.args.roots.now c.args.turned.now ids region.told.items region.dropped.items) c.as_slice-changed.ensures.ids (gathered world tells))
    c.gather.ensures.gathered

pub returns-clause-handed : goal.returns-clause-handed
returns-clause-handed g c = λ no.
    let now = c.gather.new.facts in
    let later = c.gather.ensures.later in
    let were = (later.7 no).1 in
    let one = subst (λ (sets : Sets). WereOf now.nodes.now sets.rows now.changed.now c.args.self.now.asked.now.items now.asked.now.items (g.A.CountedArcs.asked c.args.self.now.arcs.now) (g.A.CountedArcs.asked now.arcs.now)) later.4 were in
    subst (λ (ids : List ℕ). WereOf now.nodes.now c.args.self.now.sets.now.rows ids c.args.self.now.asked.now.items now.asked.now.items (g.A.CountedArcs.asked c.args.self.now.arcs.now) (g.A.CountedArcs.asked now.arcs.now)) later.5 one
