use Rattle.std.proofs.Common.{refl}
use Rattle.region.specs.Sweeping.{IsSupported}
use Rattle.region.proofs.Listing.{place_same}
use Rattle.region.proofs.Swept.{supported_none, supported_more}
use Rattle.region.proofs.sweeping.supported.Goals as goal

pub loop-node-init : goal.loop-node-init
loop-node-init c = supported_none (IsSupported c.args.old.now.rows c.args.touched.now c.args.named.now c.args.roots.now c.args.suspects.now) c.new-found.result c.new-found.ensures

pub loop-node-preserved : goal.loop-node-preserved
loop-node-preserved c = supported_more (IsSupported c.args.old.now.rows c.args.touched.now c.args.named.now c.args.roots.now c.args.suspects.now) c.args.nodes.now c.loop-node.node-index _ c.is_supported.result
    c.loop-node.found c.add_if.new.self c.loop-node-test.true (place_same c.args.nodes.now c.args.nodes.now c.loop-node.node-index _ refl c.loop-node-test.true)
    c.is_supported.ensures c.in_ok-add_if.ensures c.loop-node.invariant
