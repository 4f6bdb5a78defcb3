use Rattle.std.proofs.Common.{subst}
use Rattle.std.specs.Prelude.{Option, IfSome}
use Rattle.group_index.specs.declared.index.GroupIndex.{GroupIndex}
use Rattle.shown.specs.inside.Basing.{IsIndexIn}
use Rattle.shown.proofs.groups.raise.Goals as goal

pub returns-in-Some : goal.returns-in-Some
returns-in-Some c snaps from cursor was = c.raised.ensures snaps from cursor (subst (λ (o : Option GroupIndex). IfSome o (IsIndexIn snaps from cursor)) c.in-Some.is was)
