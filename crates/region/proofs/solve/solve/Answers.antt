use Rattle.std.proofs.Common.{◌≤◌, arith}
use Rattle.region.specs.Steps.{is_told}
use Rattle.region.specs.Tables.{over, holds}
use Rattle.least_sets.proofs.Solved.{solved_more, solved_all}
use Rattle.region.proofs.Settled.{settled_at, level_below, solved_start}
use Rattle.region.proofs.solve.solve.Goals as goal

pub loop-level-init : goal.loop-level-init
loop-level-init c = λ world levels tells. solved_start world (is_told c.args.told.now) (holds c.args.kept.now.rows) (over c.in_ok-fresh.fresh c.args.kept.now.rows)
    c.in_ok-fresh.ensures.told c.in_ok-fresh.ensures.others

pub loop-level-preserved : goal.loop-level-preserved
loop-level-preserved c = λ world levels tells.
    solved_more world (is_told c.args.told.now) c.loop-level.level (holds c.args.kept.now.rows) (over c.loop-level.fresh c.args.kept.now.rows) (over c.settle_level.new.fresh c.args.kept.now.rows) levels
    (c.loop-level.invariant world levels tells) (c.in_ok-settle_level.ensures.steps world tells)
    (settled_at world c.args.told.now c.loop-level.level (over c.settle_level.new.fresh c.args.kept.now.rows) tells c.in_ok-settle_level.ensures.settled)

pub returns-clause-least : goal.returns-clause-least
returns-clause-least c = λ world levels tells user.
    let le : c.level_count-level-end.result ≤ c.loop-level.level = omega arith in
    solved_all world (is_told c.args.told.now) c.loop-level.level (holds c.args.kept.now.rows) (over c.loop-level.fresh c.args.kept.now.rows)
    (c.loop-level.invariant world levels tells)
    (λ n pn. let lt = level_below world c.args.told.now c.level_count-level-end.result tells c.level_count-level-end.ensures n pn in omega (arith, lt, le))
    user

pub returns-clause-others : goal.returns-clause-others
returns-clause-others c = λ world levels tells user node off. (c.loop-level.invariant world levels tells).beside user node off
