use Rattle.std.proofs.Common.{length}
use Rattle.leopard.specs.inside.Direct.{unread}
use Rattle.leopard.proofs.Pages.{IsReading}
use Rattle.leopard.proofs.direct.put_named.Given as goal

abbrev pub invariant-pages : goal.invariant-pages
invariant-pages l = IsReading l.view l.relation l.user l.asked l.fn.groups.keys l.groups.keys

abbrev pub decreases-pages : goal.decreases-pages
decreases-pages l = length (unread l.asked l.view.tuples)
