use Rattle.std.proofs.Common.{[], refl}
use Rattle.hot.specs.inside.Remembering.{MayRecall}
use Rattle.hot.proofs.Renewed.{renewed, remembered_after}
use Rattle.hot.proofs.renewing.renew.Goals as goal

pub fill-requires-clause-gathered : goal.fill-requires-clause-gathered
fill-requires-clause-gathered g c =
    let got = c.in_ok-region.ensures in
    (got.agree.0, c.args.roots.now, c.args.turned.now, c.args.changed.now, got.gathered got.agree.0 got.agree.1)

pub returns-clause-renewed : goal.returns-clause-renewed
returns-clause-renewed g c =
    let got = c.in_ok-region.ensures in
    let region = c.in_ok-region.field-0.region in
    let asked = c.in_ok-region.field-0.asked in
    let now = c.gathered.new.numbers in
    renewed (MayRecall (g.F.CountedNodes.snap c.args.facts.now) c.args.told.now now.nodes now.users) c.args.sets.now.rows c.fill.new.sets.rows c.args.roots.now c.args.turned.now c.args.changed.now
    [] asked.items asked.items region.told.items region.dropped.items
    got.told got.agree got.gathered got.asked refl c.in_ok-fill.ensures.nodes c.in_ok-fill.ensures.held
    c.args.told.now c.remember.new.told
    (remembered_after (g.F.CountedNodes.snap c.args.facts.now) c.args.told.now c.remember.new.told now.nodes now.users c.args.sets.now.rows c.fill.new.sets.rows region.told.items region.dropped.items
    got.told c.in_ok-fill.ensures.nodes c.remember.ensures)
