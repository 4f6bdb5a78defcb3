use Rattle.std.proofs.Common.{◌≡◌, length}
use Rattle.lookup.specs.inside.Pages.{tuples_in, unread, ids_of}
use Rattle.lookup.specs.inside.Underway.{IsUnderway}
use Rattle.lookup.proofs.looking.look_over.Given as goal

abbrev pub invariant-pages : goal.invariant-pages
invariant-pages g l = record {
  asks : l.tupleset ≡ tuples_in l.asked.relation.namespace l.tupleset.after;
  underway : IsUnderway l.view l.asked l.found (ids_of (unread l.tupleset l.view.tuples));
  tells : g.O.Oracle.tells l.oracle l.view;
  same : l.asker ≡ l.view;
}

abbrev pub decreases-pages : goal.decreases-pages
decreases-pages g l = length (unread l.tupleset l.view.tuples)
