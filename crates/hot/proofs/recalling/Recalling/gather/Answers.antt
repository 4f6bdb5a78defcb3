use Rattle.std.proofs.Common.{subst}
use Rattle.meaning.specs.Snap.{Snap}
use Rattle.region.specs.Steps.{AreTold}
use Rattle.hot.specs.Kept.{Remembered}
use Rattle.hot.specs.inside.Remembering.{MayRecall}
use Rattle.hot.proofs.Outcomes.{if_ok}
use Rattle.hot.proofs.recalling.Recalling.gather.Goals as goal

pub returns-clause-told : goal.returns-clause-told
returns-clause-told g c = if_ok _ _ c.gather.result
    (λ region all.
    let told = region.told.items in
    let now = c.gather.new.facts in
    let later = c.gather.ensures.later in
    let one = subst (λ (memory : Remembered). AreTold (MayRecall (g.F.CountedNodes.snap now.facts.now) memory now.numbers.now.nodes now.numbers.now.users) told) later.4 all in
    subst (λ (S : Snap). AreTold (MayRecall S c.args.self.now.told.now now.numbers.now.nodes now.numbers.now.users) told) later.3 one)
    c.gather.ensures.told

pub returns-clause-passed : goal.returns-clause-passed
returns-clause-passed g c = λ no. (c.gather.ensures.later.6 no).1
