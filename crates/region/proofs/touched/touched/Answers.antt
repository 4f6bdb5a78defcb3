use Rattle.std.proofs.Common.{◌≤◌, ◌<◌, length, arith}
use Rattle.region.specs.Tables.{arc_in}
use Rattle.least_sets.proofs.Found.{search_none, search_more, search_end}
use Rattle.least_sets.proofs.WalkLemmas.{touched_from_reached}
use Rattle.region.proofs.touched.touched.Goals as goal

pub loop-at-init : goal.loop-at-init
loop-at-init c = search_none (λ a b. arc_in c.args.old.now.rows b a) c.args.changed.now c.add_all.new.self c.new-found.result c.new-found.ensures c.in_ok-add_all.ensures

pub loop-at-preserved : goal.loop-at-preserved
loop-at-preserved c =
    let lt : c.loop-at.at < length c.loop-at.found = omega arith in
    search_more (λ a b. arc_in c.args.old.now.rows b a) c.args.changed.now c.loop-at.at c.get-node.result c.loop-at.found c.add_namers.new.found
    c.loop-at.invariant lt c.get-node.ensures c.in_ok-add_namers.ensures

pub returns-clause-before : goal.returns-clause-before
returns-clause-before c = λ n m a h.
    let le : length c.loop-at.found ≤ c.loop-at.at = omega arith in
    search_end (λ a b. arc_in c.args.old.now.rows b a) c.args.changed.now c.loop-at.at c.loop-at.found c.loop-at.invariant le m n h a

pub returns-clause-sound : goal.returns-clause-sound
returns-clause-sound c = λ n h. touched_from_reached (λ a b e. e) (c.loop-at.invariant.sound n h)
