-- What is found is what the files held.
use Rattle.std.proofs.Common.{◌≡◌, ◌<◌, IsTrue, length, refl, sym, ap, ap₂, subst, ◌∙◌, inl, inr, arith}
use Rattle.sqlite_wal.specs.Recovery.{Image}
use Rattle.sqlite_trees.specs.Tree.{Trees}
use Rattle.sqlite_trees.specs.Objects.{catalog_tree}
use Rattle.sqlite_schema.specs.declared.schema.Schema.{Schema}
use Rattle.sqlite_catalog.specs.Listing.{IsSound, Lists}
use Rattle.sqlite_catalog.proofs.ReadLemmas.{lists_once}
use Rattle.sqlite.specs.Effect.{Database, IsDatabase}
use Rattle.sqlite.specs.State.{State, IsLive, Opens}
use Rattle.sqlite.specs.Start.{FindsIn}
use Rattle.sqlite.specs.Files.{AreFoundIn}
use Rattle.sqlite.proofs.ListingLemmas.{empty_is_sound}
use Rattle.rows.specs.Retained.{Retained}
use Rattle.sqlite_tables.specs.Format.{schema, no_schema}
use Rattle.sqlite_tables.specs.Steps.{HasNone}
use Rattle.store.specs.History.{TreesHold, HasCommitted}
use Rattle.runs.specs.Files.{ImageHolds, IsFoundIn}

schemas_are_one : (trees held : Trees) (s t : Schema) → trees ≡ held → IsSound s trees → IsSound t held → s ≡ t
schemas_are_one trees held s t same a b = lists_once (held catalog_tree) s t (subst (λ (x : Trees). Lists (x catalog_tree) s) same a.lists) b.lists

abbrev base_of : Schema → Trees → Database
base_of schema trees = record { schema = schema; trees = trees }

same_base : (now db : Database) → now.trees ≡ db.trees → IsDatabase now → IsDatabase db → now ≡ db
same_base now db same a b = ap₂ base_of (schemas_are_one now.trees db.trees now.schema db.schema same a b) same

none_in : (image : Image) (now : Database) → IsDatabase now → AreFoundIn image now.trees → length image.db ≡ 0 → HasNone now
none_in image now sound (inl found) empty = let some : 0 < length image.db = found.3.found.present in absurd (omega (arith, some, empty))
none_in image now sound (inr nothing) empty = schemas_are_one now.trees now.trees now.schema no_schema refl sound (empty_is_sound now.trees nothing.1.1)

pub is_found : (image : Image) (s : State) → Opens s × IsLive s → FindsIn image s → ((trees : Trees) → IsTrue s.is_open → s.may_leave trees → trees ≡ s.committed.trees) → IsFoundIn image s
is_found image s opened found settled =
    let live : IsDatabase s.now = (opened.1 opened.0.is_open).0 in
    let same : s.committed.trees ≡ s.now.trees = ap (λ (d : Database). d.trees) (sym opened.0.clean) in record {
      is_open = opened.0.is_open;
      settled = sym opened.0.clean;
      sees = λ db holds. same_base s.now db (sym same ∙ found.holds db.trees holds.0) live holds.1;
      empty = none_in image s.now live (subst (λ (t : Trees). AreFoundIn image t) same found.reads);
      theirs = record { holds = λ held holds. sym same ∙ found.holds held holds; reads = subst (λ (t : Trees). AreFoundIn image t) same found.reads };
      leaves = λ trees may. settled trees opened.0.is_open may ∙ same;
    }

-- the history that they held is seen, and committed
pub finds_it : (image : Image) (s : State) (r : Retained) → IsFoundIn image s → ImageHolds image r → HasCommitted s r
finds_it image s r found holds =
    let is : s.now ≡ base_of schema holds.0 = found.sees (base_of schema holds.0) (holds.1, holds.2.sound) in record {
      committed = found.settled;
      schema_is = ap (λ (d : Database). d.schema) is;
      held = subst (λ (d : Database). TreesHold d.trees r) (sym is) holds.2;
    }
