use Rattle.std.proofs.Common.{refl}
use Rattle.rows.specs.Retained.{snap_at}
use Rattle.shown.proofs.Indexing.{begun}
use Rattle.shown.proofs.groups.made_later.Goals as goal

pub index_later-requires-clause-index : goal.index_later-requires-clause-index
index_later-requires-clause-index c =
    let r = c.args.rows.now in
    let ready = c.args.ready in
    let made = c.requires.ready.made in
    begun (snap_at r) r.floor ready.rev ready.index c.requires.ready.retained.not_below (made.index_of (snap_at r) refl) made.base made.cursor
