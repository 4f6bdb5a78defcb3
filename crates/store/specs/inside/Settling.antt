-- What an open connection leaves.
use Rattle.std.specs.Prelude.{◌≡◌, ◌∷◌, [], List, IsTrue}
use Rattle.std.proofs.Common.{inl, refl, sym, ap, subst, ◌∙◌}
use Rattle.sqlite.specs.Store.{Ghosts}
use Rattle.sqlite.specs.Tree.{Trees}
use Rattle.sqlite.specs.Effect.{Database}
use Rattle.rows.specs.Retained.{Retained}
use Rattle.tables.specs.Device.{IsOpen}
use Rattle.tables.specs.Leaving.{AreAmong}
use Rattle.store.specs.StoreParts.{connection}
use Rattle.store.specs.declared.store.Store.{Store}
use Rattle.store.specs.History.{TreesHold, KeepsHistory, LeavesHistory, device_below}

-- the law that a store which is open has settled on its last commit
abbrev pub Settles : {S : Type 0} → Ghosts S → Type 0
Settles {S} g = (c : S) (db : Trees) → IsTrue (g.view c).is_open → g.recovers c db → db ≡ (g.view c).committed

pub leaves_settled : {S : Type 0} {g : Ghosts S} (s : Store S g) → Settles g → (r : Retained) → KeepsHistory g (connection s) r → IsOpen (device_below g (connection s)) → LeavesHistory g (connection s) (r ∷ [])
leaves_settled s settles r keeps whole clean trees left =
    let k = keeps clean (whole clean) in
    (r, inl refl, subst (λ (t : Trees). TreesHold t r) (sym (settles (connection s).store trees (whole clean) left ∙ ap (λ (d : Database). d.trees) k.committed)) k.held)

pub leaves_among : {S : Type 0} {g : Ghosts S} (s : Store S g) (rs ss : List Retained) → AreAmong rs ss → LeavesHistory g (connection s) rs → LeavesHistory g (connection s) ss
leaves_among s rs ss among leaves clean trees left =
    let it = leaves clean trees left in
    (it.0, among it.0 it.1, it.2)
