use Rattle.std.proofs.Common.{◌≤◌, ◌<◌, length, arith}
use Rattle.region.specs.Gathered.{stays}
use Rattle.region.specs.Walking.{IsAskedSomeOf}
use Rattle.region.proofs.Walked.{walk_none, walk_more, walked_told, asked_once, some_walked, some_none, none_told}
use Rattle.region.proofs.Listing.{on_err_all}
use Rattle.region.proofs.gathering.walk.Goals as goal

pub loop-at-init : goal.loop-at-init
loop-at-init g c = record {
  later = g.met.F.Facts.stays c.args.facts.now;
  so_far = walk_none (g.F.Facts.tells c.args.facts.now) c.args.old.now.rows c.args.touched.now c.args.roots.now c.args.turned.now (g.F.Facts.asked c.args.facts.now)
      c.new-found.result c.add_touched_roots.new.found c.add_roots.new.found c.new-told.result.items c.new-found.ensures c.in_ok-add_touched_roots.ensures c.in_ok-add_roots.ensures c.new-told.ensures.items;
}

pub loop-at-preserved : goal.loop-at-preserved
loop-at-preserved g c =
    let lt : c.loop-at.at < length c.loop-at.found = omega arith in
    record {
      later = g.met.F.Facts.further c.args.facts.now c.loop-at.facts c.visit.new.facts c.loop-at.invariant.later c.in_ok-visit.ensures.later;
      so_far = walk_more (g.F.Facts.tells c.loop-at.facts) (g.F.Facts.tells c.visit.new.facts) c.args.old.now.rows c.args.touched.now c.args.roots.now c.args.turned.now (g.F.Facts.asked c.args.facts.now)
          c.loop-at.at c.get-node.result c.loop-at.found c.visit.new.found c.loop-at.told.items c.visit.new.told.items
          (g.F.Facts.asked c.loop-at.facts) (g.F.Facts.asked c.visit.new.facts)
          (λ n fact t. g.met.F.Facts.grows c.loop-at.facts c.visit.new.facts n fact c.in_ok-visit.ensures.later t) c.loop-at.invariant.so_far lt c.get-node.ensures c.in_ok-visit.ensures.visit;
    }

pub returns-clause-walked : goal.returns-clause-walked
returns-clause-walked g c =
    let le : length c.loop-at.found ≤ c.loop-at.at = omega arith in
    walked_told (g.F.Facts.tells c.loop-at.facts) c.args.old.now.rows c.args.touched.now c.args.roots.now c.args.turned.now (g.F.Facts.asked c.args.facts.now)
    c.loop-at.at c.loop-at.found c.loop-at.told.items (g.F.Facts.asked c.loop-at.facts) c.loop-at.invariant.so_far le

pub returns-clause-asked : goal.returns-clause-asked
returns-clause-asked g c = asked_once (g.F.Facts.tells c.loop-at.facts) c.args.old.now.rows c.args.touched.now c.args.roots.now c.args.turned.now (g.F.Facts.asked c.args.facts.now)
    c.loop-at.at c.loop-at.found c.loop-at.told.items (g.F.Facts.asked c.loop-at.facts) c.loop-at.invariant.so_far

pub returns-clause-later : goal.returns-clause-later
returns-clause-later g c = c.loop-at.invariant.later

pub returns-in_err-visit-clause-later : goal.returns-in_err-visit-clause-later
returns-in_err-visit-clause-later g c = g.met.F.Facts.further c.args.facts.now c.loop-at.facts c.visit.new.facts c.loop-at.invariant.later c.in_err-visit.ensures.later

pub returns-in_err-visit-clause-refused : goal.returns-in_err-visit-clause-refused
returns-in_err-visit-clause-refused g c =
    let lt : c.loop-at.at < length c.loop-at.found = omega arith in
    on_err_all c.from_residual-in_err-visit.result
    (some_walked (g.F.Facts.tells c.loop-at.facts) (g.F.Facts.tells c.visit.new.facts) c.args.old.now.rows c.args.touched.now c.args.roots.now c.args.turned.now (g.F.Facts.asked c.args.facts.now)
    c.loop-at.at c.loop-at.found c.loop-at.told.items (g.F.Facts.asked c.loop-at.facts) (g.F.Facts.asked c.visit.new.facts) c.get-node.result
    (λ n fact t. g.met.F.Facts.grows c.loop-at.facts c.visit.new.facts n fact c.in_err-visit.ensures.later t) c.loop-at.invariant.so_far lt c.get-node.ensures c.in_err-visit.ensures.refused)

pub returns-in_err-add_touched_roots-clause-refused : goal.returns-in_err-add_touched_roots-clause-refused
returns-in_err-add_touched_roots-clause-refused g c = on_err_all c.from_residual.result
    (none_told (g.F.Facts.tells c.args.facts.now) (λ world. IsAskedSomeOf world c.args.roots.now (stays c.args.old.now.rows c.args.touched.now) (g.F.Facts.asked c.args.facts.now) (g.F.Facts.asked c.args.facts.now))
    (λ world. some_none world c.args.roots.now (stays c.args.old.now.rows c.args.touched.now) (g.F.Facts.asked c.args.facts.now)))

pub returns-in_err-add_roots-clause-refused : goal.returns-in_err-add_roots-clause-refused
returns-in_err-add_roots-clause-refused g c = on_err_all c.from_residual-in_err-add_roots.result
    (none_told (g.F.Facts.tells c.args.facts.now) (λ world. IsAskedSomeOf world c.args.roots.now (stays c.args.old.now.rows c.args.touched.now) (g.F.Facts.asked c.args.facts.now) (g.F.Facts.asked c.args.facts.now))
    (λ world. some_none world c.args.roots.now (stays c.args.old.now.rows c.args.touched.now) (g.F.Facts.asked c.args.facts.now)))
