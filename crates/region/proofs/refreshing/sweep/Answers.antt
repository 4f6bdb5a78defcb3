use Rattle.std.proofs.Common.{refl, [], ap, ◌∙◌}
use Rattle.std.specs.Prelude.{◌||◌}
use Rattle.std.proofs.Math.Bool.{or-false}
use Rattle.region.specs.Steps.{is_told}
use Rattle.region.specs.Gathered.{stays}
use Rattle.region.proofs.Swept.{swept, swept_was, swept_same, swept_reached}
use Rattle.region.proofs.refreshing.sweep.Goals as goal

pub fill-requires-clause-gathered : goal.fill-requires-clause-gathered
fill-requires-clause-gathered c = swept_was c.args.sets.now.rows c.new-touched.result c.new-named.result c.args.roots.now c.args.turned.now c.in_ok-gone.gone c.into_list.result.items c.new.result.items
    c.requires.closed c.new-touched.ensures c.new-named.ensures c.new.ensures.items c.into_list.ensures c.in_ok-gone.ensures

pub returns-clause-gone : goal.returns-clause-gone
returns-clause-gone c = λ n. c.in_ok-fill.ensures.nodes n
    ∙ (ap (λ told. stays c.args.sets.now.rows c.into_list.result.items n || is_told told n) c.new.ensures.items ∙ or-false (stays c.args.sets.now.rows c.into_list.result.items n))

pub returns-clause-same : goal.returns-clause-same
returns-clause-same c = swept_same c.args.sets.now.rows c.new-touched.result c.new-named.result c.args.roots.now c.args.turned.now c.in_ok-gone.gone c.into_list.result.items c.new.result.items
    c.requires.closed c.new-touched.ensures c.new-named.ensures c.new.ensures.items c.into_list.ensures c.in_ok-gone.ensures c.fill.new.sets.rows c.in_ok-fill.ensures.nodes c.in_ok-fill.ensures.others

pub returns-clause-reached : goal.returns-clause-reached
returns-clause-reached c = swept_reached c.args.sets.now.rows c.new-touched.result c.new-named.result c.args.roots.now c.args.turned.now c.in_ok-gone.gone c.into_list.result.items c.new.result.items
    c.requires.closed c.new-touched.ensures c.new-named.ensures c.new.ensures.items c.into_list.ensures c.in_ok-gone.ensures c.fill.new.sets.rows c.in_ok-fill.ensures.nodes

pub returns-clause-held : goal.returns-clause-held
returns-clause-held c = λ world first levels was turns all. c.in_ok-fill.ensures.held world world first c.args.roots.now c.args.turned.now [] levels was turns
    (swept c.args.sets.now.rows c.new-touched.result c.new-named.result c.args.roots.now c.args.turned.now c.in_ok-gone.gone c.into_list.result.items c.new.result.items
    c.requires.closed c.new-touched.ensures c.new-named.ensures c.new.ensures.items c.into_list.ensures c.in_ok-gone.ensures world c.args.turned.now (λ n h. h) (λ n h k. all n h))
    (λ n k apart. refl)
