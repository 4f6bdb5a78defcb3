use Rattle.std.proofs.Common.{sym}
use Rattle.rows.specs.Retained.{snap_at}
use Rattle.shown.proofs.Indexing.{begun}
use Rattle.shown.proofs.groups.begun.Goals as goal

pub index_later-requires-clause-index : goal.index_later-requires-clause-index
index_later-requires-clause-index c =
    let r = c.args.rows.now in
    let made = c.in_ok-index.ensures in
    begun (snap_at r) r.floor c.args.from c.in_ok-index.index c.requires.retained (made.index (snap_at r) (sym c.at.ensures)) made.base made.cursor
