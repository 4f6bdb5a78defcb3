use Rattle.std.proofs.Common.{◌≤◌, ◌<◌, length, arith}
use Rattle.region.specs.Tables.{arc_in}
use Rattle.least_sets.proofs.Found.{search_more}
use Rattle.region.proofs.Walked.{search_start}
use Rattle.region.proofs.Swept.{led}
use Rattle.region.proofs.sweeping.led_to.Goals as goal

pub loop-at-init : goal.loop-at-init
loop-at-init c = search_start (arc_in c.args.old.now.rows) c.args.starts c.is_distinct.ensures

pub loop-at-preserved : goal.loop-at-preserved
loop-at-preserved c =
    let lt : c.loop-at.at < length c.loop-at.found = omega arith in
    search_more (arc_in c.args.old.now.rows) c.args.starts c.loop-at.at c.get-node.result c.loop-at.found c.add_arcs.new.found
    c.loop-at.invariant lt c.get-node.ensures c.in_ok-add_arcs.ensures

pub returns : goal.returns
returns c =
    let le : length c.loop-at.found ≤ c.loop-at.at = omega arith in
    led (arc_in c.args.old.now.rows) c.args.starts c.loop-at.at c.loop-at.found c.loop-at.invariant le
