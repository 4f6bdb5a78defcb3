-- Where walks lead, after all was asked.
use Rattle.std.proofs.Common.{ℕ, ◌≡◌, List, [], sym, ap}
use Rattle.std.specs.Prelude.{Some, None}
use Rattle.std.specs.List.{slice_get}
use Rattle.names.specs.declared.node.Node.{Node}
use Rattle.meaning.specs.Snap.{Snap}
use Rattle.least_sets.specs.World.{has}
use Rattle.least_sets.specs.Groups.{GroupsAreWalks}
use Rattle.region.specs.Tables.{Rows, row_of}
use Rattle.region.specs.Refreshed.{IsRefreshed}
use Rattle.graphs.specs.Groups.{GroupWalk}
use Rattle.facts.specs.inside.Tables.{grew_get}
use Rattle.leopard.specs.inside.Asking.{AreAll}
use Rattle.delta.specs.Telling.{IsMore, MayTell}
use Rattle.delta.specs.Noted.{led_in}
use Rattle.delta.specs.inside.Named.{AreNamed}
use Rattle.delta.proofs.After.{anew}
use Rattle.delta.proofs.Closures.{closure}

pub led_walks : GroupsAreWalks → (T : Snap) (nodes nodes' : List Node) (old new : Rows) (roots turned asked asked' ids : List ℕ) (start : ℕ) (from : Node)
    → ((n : ℕ) → row_of old n ≡ None) → turned ≡ roots → IsMore nodes nodes' → slice_get nodes start ≡ Some from → IsRefreshed (MayTell T nodes') old new roots turned [] asked asked'
    → Some ids ≡ led_in new start → (v : List Node) → AreNamed nodes' ids v → AreAll (GroupWalk T from) v
led_walks law T nodes nodes' old new roots turned asked asked' ids start from none same more at r led v named n =
    let k = anew T nodes' old new roots turned asked asked' none (λ i. ap (λ xs. has xs i) same) r in
    let both = closure T nodes' roots new k law start from ids (grew_get nodes nodes' start from more.grew at) (sym led) n in
    (λ c. both.0 ((named n).0 c), λ w. (named n).1 (both.1 w))
