-- A run over what two files held.
use Rattle.std.proofs.Common.{◌≡◌, ℕ, false, List, sym, ap, ◌∙◌, inl, inr, arith}
use Rattle.std.specs.Prelude.{Option, Some, None, Err}
use Rattle.sqlite_disk.specs.declared.Disk as disk
use Rattle.sqlite_wal.specs.Recovery.{Image}
use Rattle.sqlite_store.specs.declared.store.FileStore.{FileStore}
use Rattle.sqlite.specs.Store.{Ghosts}
use Rattle.sqlite.specs.State.{HasCleanDisk}
use Rattle.sqlite.specs.Files.{over_files, file_state}
use Rattle.sqlite.specs.Held.{Held, state}
use Rattle.names.specs.declared.refusal.Refusal.{Refusal}
use Rattle.rows.specs.Retained.{Retained, empty_store}
use Rattle.desk.specs.Posts.{Posts}
use Rattle.store.specs.declared.store.Store.{Store}
use Rattle.command_line.specs.declared.fault.Fault.{Fault}
use Rattle.command_line.specs.declared.fault.Fault.TheVariants.{Refused, CannotRead, CannotWrite}
use Rattle.store.specs.History.{KeepsHistory}
use Rattle.store.proofs.Leaving.{clean_or_not}
use Rattle.runs.specs.Files.{FindsHistories, ImageShows, IsFoundIn}
use Rattle.runs.specs.Runs.{is_read_fault, is_write_fault}
use Rattle.runs.specs.Over.{Begins, BeginsIn, EndedOver, OpenedOver}

-- a connection whose device has not returned what was written is said to keep every history
every_kept : {S : Type 0} (g : Ghosts S) (conn : Held S) (r : Retained) → ¬ (HasCleanDisk (state g conn)) → ¬ ((held : Retained) → KeepsHistory g conn held → r ≡ held)
every_kept g conn r never only =
    let e : empty_store 1 ≡ empty_store 2 = sym (only (empty_store 1) (λ clean. absurd (never clean))) ∙ only (empty_store 2) (λ clean. absurd (never clean)) in
    let n : 1 ≡ 2 = ap (λ (s : Retained). s.number) e in
    omega (arith, n)

pub is_clean_for : {S : Type 0} (g : Ghosts S) (conn : Held S) (r : Retained) → ((held : Retained) → KeepsHistory g conn held → r ≡ held) → HasCleanDisk (state g conn)
is_clean_for g conn r only = elim (clean_or_not (state g conn).is_clean) [ inl clean ↦ clean | inr never ↦ absurd (every_kept g conn r never only) ]

-- what a connection that was just opened over two files keeps, an opening of them finds
pub shows_it : {D : Type 0} {g : disk.Ghosts D} (image : Image) (conn : Held (FileStore D g)) → (HasCleanDisk (file_state conn) → IsFoundIn image (file_state conn)) → HasCleanDisk (file_state conn)
    → (r : Retained) → KeepsHistory over_files conn r → ImageShows image r
shows_it image conn sees clean r keeps = let it = sees clean in ((file_state conn).now.trees, it.theirs, (keeps clean it.is_open).held)

pub begins_in : {D : Type 0} {g : disk.Ghosts D} (image : Image) (conn : Held (FileStore D g)) → (HasCleanDisk (file_state conn) → IsFoundIn image (file_state conn)) → FindsHistories image conn
    → (store : Option ℕ) (r : Retained) → Begins over_files conn store r → BeginsIn image store r
begins_in image conn sees found None r begins = (shows_it image conn sees (is_clean_for over_files conn r begins.1) r begins.0, λ held holds. begins.1 held (found held holds))
begins_in image conn sees found (Some number) r begins = begins

pub ended_in : {D : Type 0} {g : disk.Ghosts D} (image : Image) (conn : Held (FileStore D g)) → (HasCleanDisk (file_state conn) → IsFoundIn image (file_state conn)) → FindsHistories image conn → (store : Option ℕ) (input : List ℕ) (Did : Posts (Store (FileStore D g) over_files) → Posts (Store (FileStore D g) over_files) → Type 0) (left : Held (FileStore D g))
    → EndedOver over_files (Begins over_files conn store) input Did left → EndedOver over_files (BeginsIn image store) input Did left
ended_in image conn sees found store input Did left e = record {
  loaded = e.loaded;
  first = e.first;
  last = e.last;
  opened = e.opened;
  begins = λ clean. begins_in image conn sees found store _ (e.begins clean);
  did = e.did;
  keeps = e.keeps;
  more = e.more;
  follow = e.follow;
  asked = e.asked;
  leaves = e.leaves;
}

pub opened_in : {D : Type 0} {g : disk.Ghosts D} (image : Image) (conn : Held (FileStore D g)) → (HasCleanDisk (file_state conn) → IsFoundIn image (file_state conn)) → FindsHistories image conn → (store : Option ℕ) (desk : Posts (Store (FileStore D g) over_files))
    → OpenedOver over_files (Begins over_files conn store) desk → OpenedOver over_files (BeginsIn image store) desk
opened_in image conn sees found store desk o = record { loaded = o.loaded; opened = o.opened; begins = λ clean. begins_in image conn sees found store _ (o.begins clean); ready = o.ready }

-- a refusal is no fault of the reader, and none of the writer
pub is_unread : (A : Type 0) (fault : Fault) (why : Refusal) → fault ≡ Refused why → is_read_fault {A = A} (Err fault) ≡ false
is_unread A fault why is = let e : is_read_fault {A = A} (Err fault) ≡ is_read_fault {A = A} (Err (Refused why)) = ap (λ f. is_read_fault {A = A} (Err f)) is in e

pub is_unwritten : (A : Type 0) (fault : Fault) (why : Refusal) → fault ≡ Refused why → is_write_fault {A = A} (Err fault) ≡ false
is_unwritten A fault why is = let e : is_write_fault {A = A} (Err fault) ≡ is_write_fault {A = A} (Err (Refused why)) = ap (λ f. is_write_fault {A = A} (Err f)) is in e

pub is_no_read_fault : (fault : Fault) (why : Refusal) → fault ≡ Refused why → ¬ (fault ≡ CannotRead)
is_no_read_fault fault why is other = let e : Refused why ≡ CannotRead = sym is ∙ other in cc

pub is_no_write_fault : (fault : Fault) (why : Refusal) → fault ≡ Refused why → ¬ (fault ≡ CannotWrite)
is_no_write_fault fault why is other = let e : Refused why ≡ CannotWrite = sym is ∙ other in cc
