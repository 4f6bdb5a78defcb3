use Rattle.region.specs.Tables.{over}
use Rattle.region.proofs.AfterChange.{filled, kept_is, stay_row, closed_after, backed_after, held_after}
use Rattle.region.proofs.refreshing.fill.Goals as goal

pub returns-clause-nodes : goal.returns-clause-nodes
returns-clause-nodes c =
    let nodes = rw c.deref-2.ensures.value at c.in_ok-ready.ensures.nodes in
    let dropped = rw c.deref-5.ensures.value at c.drop_rows.ensures.row in
    kept_is c.args.sets.now.rows c.put_rows.new.rows c.in_ok-ready.ready c.args.region.now.told.items c.args.region.now.dropped.items
    (filled c.args.sets.now.rows c.take_places.new.rows c.drop_rows.new.rows c.put_rows.new.rows c.in_ok-ready.ready c.args.region.now.told.items c.args.region.now.dropped.items
    nodes c.take_places.ensures.same dropped c.put_rows.ensures)

pub returns-clause-whole : goal.returns-clause-whole
returns-clause-whole c =
    let nodes = rw c.deref-2.ensures.value at c.in_ok-ready.ensures.nodes in
    let rows = rw c.deref-2.ensures.value at c.in_ok-ready.ensures.rows in
    let there = rw c.deref-3.ensures.value at c.in_ok-add_back_all.ensures.there in
    let dropped = rw c.deref-5.ensures.value at c.drop_rows.ensures.row in
    let full = filled c.args.sets.now.rows c.take_places.new.rows c.drop_rows.new.rows c.put_rows.new.rows c.in_ok-ready.ready c.args.region.now.told.items c.args.region.now.dropped.items
    nodes c.take_places.ensures.same dropped c.put_rows.ensures in
    let world = c.requires.gathered.0 in
    let got = c.requires.gathered.4 in
    record {
      closed = closed_after world c.requires.gathered.1 c.requires.gathered.2 c.requires.gathered.3 c.args.sets.now.rows c.put_rows.new.rows c.in_ok-ready.ready c.args.region.now.told.items c.args.region.now.dropped.items
          (over c.in_ok-fresh.fresh c.args.sets.now.rows) got full (rows world got.tells);
      backed = backed_after world c.requires.gathered.1 c.requires.gathered.2 c.requires.gathered.3 c.args.sets.now.rows c.put_rows.new.rows c.in_ok-ready.ready c.args.region.now.told.items c.args.region.now.dropped.items
          (over c.in_ok-fresh.fresh c.args.sets.now.rows) got full (rows world got.tells)
          c.args.sets.now.back c.add_back_all.new.back c.requires.whole.backed c.add_back_all.ensures.grows there;
    }

pub returns-clause-held : goal.returns-clause-held
returns-clause-held c = λ before world first roots turned changed levels was turns got same.
    let least = rw c.deref.ensures.value at c.in_ok-fresh.ensures.least in
    let others = rw c.deref.ensures.value at c.in_ok-fresh.ensures.others in
    let nodes = rw c.deref-2.ensures.value at c.in_ok-ready.ensures.nodes in
    let rows = rw c.deref-2.ensures.value at c.in_ok-ready.ensures.rows in
    let dropped = rw c.deref-5.ensures.value at c.drop_rows.ensures.row in
    let full = filled c.args.sets.now.rows c.take_places.new.rows c.drop_rows.new.rows c.put_rows.new.rows c.in_ok-ready.ready c.args.region.now.told.items c.args.region.now.dropped.items
    nodes c.take_places.ensures.same dropped c.put_rows.ensures in
    held_after world roots turned changed c.args.sets.now.rows c.put_rows.new.rows c.in_ok-ready.ready c.args.region.now.told.items c.args.region.now.dropped.items
    (over c.in_ok-fresh.fresh c.args.sets.now.rows) got full (rows world got.tells) before first was turns same
    (λ user. least world levels got.tells user) (λ user n off. others world levels got.tells user n off)

pub returns-clause-others : goal.returns-clause-others
returns-clause-others c =
    let nodes = rw c.deref-2.ensures.value at c.in_ok-ready.ensures.nodes in
    let dropped = rw c.deref-5.ensures.value at c.drop_rows.ensures.row in
    stay_row c.args.sets.now.rows c.put_rows.new.rows c.in_ok-ready.ready c.args.region.now.told.items c.args.region.now.dropped.items
    (filled c.args.sets.now.rows c.take_places.new.rows c.drop_rows.new.rows c.put_rows.new.rows c.in_ok-ready.ready c.args.region.now.told.items c.args.region.now.dropped.items
    nodes c.take_places.ensures.same dropped c.put_rows.ensures)
