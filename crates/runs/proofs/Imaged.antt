-- What was asked of a connection was asked of the files that it was opened over.
use Rattle.std.proofs.Common.{◌≡◌, ◌≢◌, ◌⊎◌, ℕ, [], ◌∷◌, refl, sym, ap, subst, ◌∙◌, inl, inr, arith}
use Rattle.std.specs.Prelude.{Option, Some, None, Err, IfSome}
use Rattle.sqlite_disk.specs.declared.Disk as disk
use Rattle.sqlite_wal.specs.Recovery.{Image}
use Rattle.sqlite_store.specs.declared.store.FileStore.{FileStore}
use Rattle.sqlite_disk.specs.Disk.{MoreFaults}
use Rattle.sqlite_trees.specs.declared.error.StoreError.{StoreError}
use Rattle.sqlite_schema.specs.declared.schema.Schema.{Schema}
use Rattle.sqlite.specs.Opening.{FailsAs}
use Rattle.sqlite.specs.Tree.{Trees}
use Rattle.sqlite.specs.Effect.{Database}
use Rattle.sqlite.specs.State.{HasCleanDisk}
use Rattle.sqlite.specs.Held.{Held}
use Rattle.sqlite.specs.declared.error.Error.{Error}
use Rattle.sqlite.specs.declared.error.Error.TheVariants.{SqliteFailure}
use Rattle.sqlite.specs.declared.error.ErrorCode.TheVariants.{OutOfMemory}
use Rattle.sqlite.specs.declared.file.Leftover.{Leftover}
use Rattle.sqlite.specs.Files.{HoldsDatabase, IsNothing, IsFullLeft, file_state, faults_left, over_files}
use Rattle.names.specs.declared.refusal.Refusal.TheVariants.{Memory, StoreFault}
use Rattle.rows.specs.Retained.{Retained, empty_store}
use Rattle.tables.specs.Device.{HasFailed, IsClean, IsOpen, Lasts, sound_device}
use Rattle.tables.proofs.Lasting.{clean_before, failed_after, lasts_trans}
use Rattle.command_line.specs.declared.fault.Fault.{Fault}
use Rattle.command_line.specs.declared.fault.Fault.TheVariants.{Refused}
use Rattle.sqlite_tables.specs.Format.{schema, no_schema}
use Rattle.sqlite_tables.specs.Steps.{HasNone}
use Rattle.store.specs.History.{TreesHold, KeepsHistory, LeavesHistory, device_below}
use Rattle.runs.specs.Files.{FindsHistories, ImageHolds, AreTheirs, IsFoundIn, IsUnopened, IsRefusedFor}
use Rattle.runs.proofs.Carried.{shows_it}
use Rattle.runs.specs.Over.{LeavesRefused, CannotBegin, IsDeserved, AreBlank, CannotBeginIn, LeavesConnection, LeavesRefusedIn, HasFailedOver, IsDeservedIn}

-- ---- files that were opened

-- the schema of the format has tables
not_none : no_schema ≢ schema
not_none is = let e : no_schema.tables ≡ schema.tables = ap (λ (s : Schema). s.tables) is in cc

module _ {D : Type 0} {g : disk.Ghosts D} (image : Image) (conn : Held (FileStore D g)) (sees : HasCleanDisk (file_state conn) → IsFoundIn image (file_state conn)) (found : FindsHistories image conn) where
  pub stood : Lasts sound_device (device_below over_files conn)
  stood = record { doubt = omega arith; counts = omega arith; closes = λ clean _. inl (sees clean).is_open }

  pub is_whole : IsOpen (device_below over_files conn)
  is_whole clean = (sees clean).is_open

  pub cannot_begin : (store : Option ℕ) → HasCleanDisk (file_state conn) → CannotBeginIn image store → CannotBegin over_files conn store
  cannot_begin None clean (inl empty) = λ same. not_none (sym ((sees clean).empty empty) ∙ same)
  cannot_begin None clean (inr other) = λ same. other.2 (sym (ap (λ (d : Database). d.schema) ((sees clean).sees other.0 other.1)) ∙ same)
  cannot_begin (Some number) clean other = λ blank. other.2 (subst (λ (d : Database). HasNone d) ((sees clean).sees other.0 other.1) blank)

  blank_is_found : HasCleanDisk (file_state conn) → AreBlank image → HasNone (file_state conn).now
  blank_is_found clean (inl empty) = (sees clean).empty empty
  blank_is_found clean (inr none) = subst (λ (d : Database). HasNone d) (sym ((sees clean).sees none.0 none.1)) none.2

  leaves_found : (r : Retained) → ImageHolds image r → LeavesHistory over_files conn (r ∷ [])
  leaves_found r holds clean trees may =
      let it = sees clean in
      (r, inl refl, subst (λ (t : Trees). TreesHold t r) (sym (it.leaves trees may)) (found r holds clean it.is_open).held)

  theirs_or_new : (number : ℕ) (trees : Trees) → HasCleanDisk (file_state conn) → (file_state conn).may_leave trees ⊎ TreesHold trees (empty_store number) → AreTheirs image trees ⊎ TreesHold trees (empty_store number)
  theirs_or_new number trees clean (inl may) = inl (let it = sees clean in subst (λ (t : Trees). AreTheirs image t) (sym (it.leaves trees may)) it.theirs)
  theirs_or_new number trees clean (inr new) = inr new

  module _ (left : Held (FileStore D g)) (lasts : Lasts (device_below over_files conn) (device_below over_files left)) where
    pub lasted : Lasts sound_device (device_below over_files left)
    lasted = lasts_trans sound_device (device_below over_files conn) (device_below over_files left) stood lasts

    pub was_clean : HasCleanDisk (file_state left) → HasCleanDisk (file_state conn)
    was_clean clean = clean_before (device_below over_files conn) (device_below over_files left) lasts clean

    pub leaves_in : (store : Option ℕ) → LeavesRefused over_files conn store left → LeavesConnection image store left
    leaves_in None leaves =
        (λ r holds. (leaves.0 r (found r holds), leaves.1 (r ∷ []) (leaves_found r holds)), λ r keeps clean is_open. shows_it image conn sees (was_clean clean) r (leaves.2 r keeps clean is_open))
    leaves_in (Some number) leaves = λ clean trees may. theirs_or_new number trees (was_clean clean) (leaves clean trees may)

    has_failed : HasFailed (device_below over_files conn) (device_below over_files left) → HasFailed sound_device (device_below over_files left)
    has_failed failed = failed_after sound_device (device_below over_files conn) (device_below over_files left) stood failed

    none_held : HasFailed (device_below over_files conn) (device_below over_files left) ⊎ ((r : Retained) → IsClean (device_below over_files conn) → ¬ (KeepsHistory over_files conn r))
        → HasFailed sound_device (device_below over_files left) ⊎ ((r : Retained) → IsClean (device_below over_files left) → ¬ (ImageHolds image r))
    none_held (inl failed) = inl (has_failed failed)
    none_held (inr none) = inr (λ r clean holds. none r (was_clean clean) (found r holds))

    pub deserved_in : (store : Option ℕ) → IsDeserved over_files conn store left → HasFailedOver image store left
    deserved_in None deserved = none_held deserved
    deserved_in (Some number) deserved = λ blank clean. has_failed (deserved (blank_is_found (was_clean clean) blank)) clean

-- ---- files that were not

fails_for : (kind : StoreError) (old new : ℕ) (Full Wanted Held : Type 0) (error : Error) → old ≡ 0 → (Held → Wanted) → ¬ (error ≡ SqliteFailure OutOfMemory) → FailsAs kind old new Full Wanted error
    → (¬ Held) ⊎ (MoreFaults 0 new ⊎ Full)
fails_for kind old new Full Wanted Held error unfailed held other (inl none) = absurd (other none)
fails_for kind old new Full Wanted Held error unfailed held other (inr (inl refused)) = inl (λ is. refused.1 (held is))
fails_for kind old new Full Wanted Held error unfailed held other (inr (inr (inl fault))) = inr (inl (let more = fault.1 in omega (arith, more, unfailed)))
fails_for kind old new Full Wanted Held error unfailed held other (inr (inr (inr full))) = inr (inr full.1)

no_memory : (error : Error) (told : Fault) → (error ≡ SqliteFailure OutOfMemory → told ≡ Refused Memory) → told ≡ Refused StoreFault → ¬ (error ≡ SqliteFailure OutOfMemory)
no_memory error told memory is none = let e : Refused Memory ≡ Refused StoreFault = sym (memory none) ∙ is in cc

pub refused_for : {D : Type 0} {g : disk.Ghosts D} (image : Image) (left : Leftover D g) (error : Error) (told : Fault) → (error ≡ SqliteFailure OutOfMemory → told ≡ Refused Memory) → told ≡ Refused StoreFault
    → IsUnopened image left error → IsRefusedFor image left
refused_for image left error told memory is it clean =
    fails_for _ _ (faults_left left) (IsFullLeft left) _ _ error it.given.unfailed (λ held. subst (λ (i : Image). ((db : Trees) × HoldsDatabase i db) ⊎ IsNothing i) (sym it.given.same) held) (no_memory error told memory is) (it.cause clean)

pub left_unopened : {D : Type 0} {g : disk.Ghosts D} (image : Image) (store : Option ℕ) (left : Option (Leftover D g)) → IfSome left (λ l. (error : Error) × IsUnopened image l error) → LeavesRefusedIn image store (Err left)
left_unopened image store None h = tt
left_unopened image store (Some left) h = h

pub deserved_unopened : {D : Type 0} {g : disk.Ghosts D} (image : Image) (store : Option ℕ) (left : Option (Leftover D g)) → IfSome left (IsRefusedFor image) → IsDeservedIn image store (Err left)
deserved_unopened image store None h = tt
deserved_unopened image store (Some left) h = h
