-- What is left holds one of the histories that could be left.
use Rattle.std.proofs.Common.{◌≡◌, ◌≤◌, ℕ, List, [], ◌∷◌, IsTrue, refl, sym, subst, inl, arith}
use Rattle.std.proofs.Math.Logic.{∥∥₁_map}
use Rattle.sqlite_disk.specs.declared.Disk.{Ghosts}
use Rattle.sqlite_wal.specs.Recovery.{Image}
use Rattle.sqlite_trees.specs.Tree.{Trees}
use Rattle.sqlite_store.specs.declared.store.FileStore.{FileStore}
use Rattle.sqlite_store.specs.FileStore.{state, view, recovers}
use Rattle.sqlite.specs.Held.{AreDatabases}
use Rattle.sqlite.specs.Effect.{Database}
use Rattle.sqlite.specs.Closing.{HoldsAlone}
use Rattle.sqlite.specs.Files.{HoldsDatabase}
use Rattle.sqlite.proofs.Theorems.{opens_again}
use Rattle.rows.specs.Retained.{Retained}
use Rattle.store.specs.History.{TreesHold}
use Rattle.runs.specs.Files.{HoldsAmong, HoldsOneOf}

pub leaves_one : {D : Type 0} {g : Ghosts D} (it : FileStore D g) (rs : List Retained) → IsTrue (view it).is_numbered → AreDatabases (recovers it) → ((trees : Trees) → recovers it trees → HoldsAmong trees rs)
    → (left : Image) → (state it).may_leave left → HoldsOneOf left rs
leaves_one it rs numbered sound among left may =
    ∥∥₁_map (opens_again it numbered sound left may) (λ found. let one = among found.0 found.1 in (one.0, one.1, (found.0, found.2, one.2)))

-- what returned what was written did so before
pub was_clean : (old new : ℕ) → old ≤ new → new ≡ 0 → old ≡ 0
was_clean old new less clean = omega arith

one_of : (image : Image) (now committed : Database) (r : Retained) → committed ≡ now → TreesHold now.trees r → ∥ HoldsDatabase image committed.trees ∥₁ → HoldsOneOf image (r ∷ [])
one_of image now committed r same holds found =
    ∥∥₁_map found (λ is. (r, inl refl, (committed.trees, is, subst (λ (d : Database). TreesHold d.trees r) (sym same) holds)))

pub holds_alone : (image : Image) (now committed : Database) (r : Retained) → committed ≡ now → TreesHold now.trees r → HoldsAlone image committed.trees
    → HoldsOneOf image (r ∷ []) × HoldsOneOf (record image { log = [] }) (r ∷ [])
holds_alone image now committed r same holds found =
    (one_of image now committed r same holds found.both, one_of (record image { log = [] }) now committed r same holds found.alone)

-- the committed trees hold one of these histories, and so does an image that holds them
pub holds_committed : (image : Image) (committed : Trees) (rs : List Retained) → HoldsAmong committed rs → HoldsAlone image committed → HoldsOneOf image rs
holds_committed image committed rs among found = ∥∥₁_map found.both (λ is. (among.0, among.1, (committed, is, among.2)))
