use Rattle.std.proofs.Common.{subst}
use Rattle.region.specs.Sweeping.{AreLoose}
use Rattle.region.proofs.Swept.{loose_none}
use Rattle.region.proofs.sweeping.loose.Goals as goal

pub returns : goal.returns
returns c = subst (λ nodes. AreLoose c.args.old.now.rows c.args.touched.now c.args.named.now c.args.roots.now c.args.turned.now nodes c.add_loose_of_each.new.found) c.as_slice.ensures
    (c.in_ok-add_loose_of_each.ensures c.args.turned.now
    (loose_none c.args.old.now.rows c.args.touched.now c.args.named.now c.args.roots.now c.args.turned.now c.new-found.result c.add_loose.new.found c.new-found.ensures c.in_ok-add_loose.ensures))
