use Rattle.region.proofs.Swept.{all_swept}
use Rattle.region.proofs.sweeping.unreached.Goals as goal

pub returns : goal.returns
returns c = all_swept c.args.old.now.rows c.args.touched.now c.args.named.now c.args.roots.now c.args.turned.now c.in_ok-loose.loose c.in_ok-suspects.suspects c.in_ok-starts.starts c.in_ok-alive.alive
    c.as_slice.result.now c.as_slice-2.result.now c.without.result c.as_slice.ensures c.as_slice-2.ensures
    c.in_ok-loose.ensures c.in_ok-suspects.ensures c.in_ok-starts.ensures.only c.in_ok-starts.ensures.all c.in_ok-alive.ensures c.without.ensures
