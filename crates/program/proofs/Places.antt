-- What ended, or was refused, at a place.
use Rattle.std.proofs.Common.{◌≡◌, ℕ, List, Global, String, refl, sym, subst, inl, inr, arith}
use Rattle.std.specs.Prelude.{Option, Some, None, Result, Ok, Err, IfOk, IsOkAnd}
use Rattle.sqlite_disk.specs.declared.Disk as disk
use Rattle.sqlite_wal.specs.Recovery.{Image}
use Rattle.sqlite.specs.State.{HasCleanDisk}
use Rattle.sqlite.specs.Files.{file_state, over_files}
use Rattle.names.specs.declared.refusal.Refusal.TheVariants.{StoreFault}
use Rattle.rows.specs.Retained.{Retained, empty_store}
use Rattle.tables.specs.Device.{Lasts, sound_device}
use Rattle.desk.specs.Posts.{FailsToLoad}
use Rattle.store.specs.History.{device_below}
use Rattle.command_line.specs.declared.fault.Fault.{Fault}
use Rattle.command_line.specs.declared.fault.Fault.TheVariants.{Refused, CannotRead, CannotWrite}
use Rattle.command_line.specs.declared.words.Place.{Place}
use Rattle.command_line.specs.declared.words.Place.TheVariants.{Memory, New, There}
use Rattle.tracked_io.specs.Tracking.{TrackedReading, TrackedWriting}
use Rattle.runs.specs.Files.{Remains, IsFoundIn}
use Rattle.runs.specs.Runs.{Ended}
use Rattle.runs.specs.Over.{over, listed, BeginsIn, EndedOver, CannotBeginIn, LeavesRefusedIn, IsDeservedIn}
use Rattle.program.specs.Ran.{Extent, ReadBy, AnsweredBy, RanAt, RefusedAt}

-- what a run over files says of another thing that they hold
abbrev pub Takes : {D : Type 0} {g : disk.Ghosts D} → Image → Option ℕ → Result (Unit {0}) Fault → Remains g → Type 0
Takes image store told left = CannotBeginIn image store → IfOk left (λ conn. HasCleanDisk (file_state conn) → (told ≡ Err (Refused StoreFault)) × IsFoundIn image (file_state conn))

same_fault : {A : Type 0} (told : Result A Fault) (fault : Fault) → told ≡ Err fault → told ≡ Err (Refused StoreFault) → fault ≡ Refused StoreFault
same_fault told fault is told_so = cc

module _ {D : Type 0} {g : disk.Ghosts D} (image : Image) (store : Option ℕ) (told : Result (Unit {0}) Fault) where
  -- where it is not told as a fault of the store, it could begin
  pub began : (left : Remains g) → Takes image store told left → ¬ (told ≡ Err (Refused StoreFault)) → IfOk left (λ conn. HasCleanDisk (file_state conn) → ¬ (CannotBeginIn image store))
  began (Ok conn) takes other = λ clean cannot. other (takes cannot clean).0
  began (Err left) takes other = tt

  pub taken : (left : Remains g) → Takes image store told left → (fault : Fault) → told ≡ Err fault → CannotBeginIn image store
      → IfOk left (λ conn. HasCleanDisk (file_state conn) → (fault ≡ Refused StoreFault) × IsFoundIn image (file_state conn))
  taken (Ok conn) takes fault is cannot = λ clean. let k = takes cannot clean in (same_fault told fault is k.0, k.1)
  taken (Err left) takes fault is cannot = tt

-- tables in memory are never at fault
pub never_fails : (tables back : Retained) → ¬ (FailsToLoad listed tables back)
never_fails tables back (inl failed) = let no = failed refl in absurd (omega (arith, no))
never_fails tables back (inr none) = none tables refl refl

-- ---- told apart

pub ok_is_no_fault : {A : Type 0} (told : Result A Fault) (a : A) → told ≡ Ok a → ¬ (told ≡ Err (Refused StoreFault))
ok_is_no_fault told a is other = cc

pub unread_is_no_fault : {A : Type 0} (told : Result A Fault) (fault : Fault) → told ≡ Err fault → fault ≡ CannotRead → ¬ (told ≡ Err (Refused StoreFault))
unread_is_no_fault told fault is why other = cc

pub unwritten_is_no_fault : {A : Type 0} (told : Result A Fault) (fault : Fault) → told ≡ Err fault → fault ≡ CannotWrite → ¬ (told ≡ Err (Refused StoreFault))
unwritten_is_no_fault told fault is why other = cc

-- ---- at each place

module _ {R W D : Type 0} {g : disk.Ghosts D} (image : Image) (remaining : R → Option (List ℕ)) (reader reader_after : TrackedReading R) (writer writer_after : TrackedWriting W) where
  abbrev Ran : Extent → Remains g → Place → Type 0
  Ran extent left place = RanAt image extent place remaining (reader, writer) (reader_after, writer_after) left

  pub ran_in_memory : (extent : Extent) (place : Place) (number : ℕ) (tables back : Retained) → place ≡ Memory number → tables ≡ empty_store number
      → (input : List ℕ) × ReadBy extent remaining reader reader_after input × Ended listed tables input (AnsweredBy extent listed (reader, writer) input (reader_after, writer_after)) back → Ran extent (Err None) place
  ran_in_memory extent place number tables back is empty h = subst (Ran extent (Err None)) (sym is) (record {
    input = h.0;
    read = h.1;
    ended = (refl, back, subst (λ (t : Retained). Ended listed t h.0 (AnsweredBy extent listed (reader, writer) h.0 (reader_after, writer_after)) back) empty h.2);
    began = tt;
    lasts = tt;
  })

  pub ran_in_new : (extent : Extent) (place : Place) (file : String Global) (number : ℕ) (told : Result (Unit {0}) Fault) (left : Remains g) → place ≡ New file number
      → Takes image (Some number) told left → ¬ (told ≡ Err (Refused StoreFault)) → IfOk left (λ conn. Lasts sound_device (device_below over_files conn))
      → (input : List ℕ) × ReadBy extent remaining reader reader_after input
      × IsOkAnd left (EndedOver over_files (BeginsIn image (Some number)) input (AnsweredBy extent (over over_files) (reader, writer) input (reader_after, writer_after)))
      → Ran extent left place
  ran_in_new extent place file number told left is takes other lasts h =
      subst (Ran extent left) (sym is) (record { input = h.0; read = h.1; ended = h.2; began = began image (Some number) told left takes other; lasts = lasts })

  pub ran_in_there : (extent : Extent) (place : Place) (file : String Global) (told : Result (Unit {0}) Fault) (left : Remains g) → place ≡ There file
      → Takes image None told left → ¬ (told ≡ Err (Refused StoreFault)) → IfOk left (λ conn. Lasts sound_device (device_below over_files conn))
      → (input : List ℕ) × ReadBy extent remaining reader reader_after input
      × IsOkAnd left (EndedOver over_files (BeginsIn image None) input (AnsweredBy extent (over over_files) (reader, writer) input (reader_after, writer_after)))
      → Ran extent left place
  ran_in_there extent place file told left is takes other lasts h =
      subst (Ran extent left) (sym is) (record { input = h.0; read = h.1; ended = h.2; began = began image None told left takes other; lasts = lasts })

module _ {D : Type 0} {g : disk.Ghosts D} (image : Image) (place : Place) (fault : Fault) where
  abbrev Refuses : Remains g → Place → Type 0
  Refuses left at = RefusedAt image at fault left

  -- tables in memory are at fault for nothing
  pub refused_in_memory : (number : ℕ) (tables back : Retained) → place ≡ Memory number → (fault ≡ Refused StoreFault → FailsToLoad listed tables back) → Refuses (Err None) place
  refused_in_memory number tables back is caused =
      subst (Refuses (Err None)) (sym is) (record { leaves = refl; deserved = λ fault_is. never_fails tables back (caused fault_is); taken = λ cannot. absurd cannot; lasts = tt })

  pub refused_in_new : (file : String Global) (number : ℕ) (told : Result (Unit {0}) Fault) (left : Remains g) → place ≡ New file number → told ≡ Err fault → LeavesRefusedIn image (Some number) left
      → (fault ≡ Refused StoreFault → IsDeservedIn image (Some number) left) → Takes image (Some number) told left → IfOk left (λ conn. Lasts sound_device (device_below over_files conn)) → Refuses left place
  refused_in_new file number told left is told_is leaves deserved takes lasts =
      subst (Refuses left) (sym is) (record { leaves = leaves; deserved = deserved; taken = taken image (Some number) told left takes fault told_is; lasts = lasts })

  pub refused_in_there : (file : String Global) (told : Result (Unit {0}) Fault) (left : Remains g) → place ≡ There file → told ≡ Err fault → LeavesRefusedIn image None left
      → (fault ≡ Refused StoreFault → IsDeservedIn image None left) → Takes image None told left → IfOk left (λ conn. Lasts sound_device (device_below over_files conn)) → Refuses left place
  refused_in_there file told left is told_is leaves deserved takes lasts =
      subst (Refuses left) (sym is) (record { leaves = leaves; deserved = deserved; taken = taken image None told left takes fault told_is; lasts = lasts })

  -- no file was opened
  pub refused_for_new : (file : String Global) (number : ℕ) → place ≡ New file number → Refuses (Err None) place
  refused_for_new file number is = subst (Refuses (Err None)) (sym is) (record { leaves = tt; deserved = λ _. tt; taken = λ _. tt; lasts = tt })

  pub refused_for_there : (file : String Global) → place ≡ There file → Refuses (Err None) place
  refused_for_there file is = subst (Refuses (Err None)) (sym is) (record { leaves = tt; deserved = λ _. tt; taken = λ _. tt; lasts = tt })
