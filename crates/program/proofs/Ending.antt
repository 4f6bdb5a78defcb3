-- What is left at the end.
use Rattle.std.proofs.Common.{◌≡◌, ◌≤◌, ◌∙◌, ℕ, List, [], ◌∷◌, Bool, false, true, refl, sym, ap, subst, arith}
use Rattle.std.specs.Prelude.{Option, Some, None, Result, Ok, Err, IfOk, IfErr, IsOkAnd}
use Rattle.sqlite_disk.specs.declared.Disk as disk
use Rattle.sqlite_wal.specs.Recovery.{Image}
use Rattle.sqlite_wal.specs.Files.{outcomes}
use Rattle.sqlite_wal.specs.Reads.{AreClean}
use Rattle.sqlite_trees.specs.Tree.{Trees}
use Rattle.sqlite_trees.specs.View.{IsClean}
use Rattle.sqlite_store.specs.FileStore.{view, recovers}
use Rattle.sqlite_store.specs.declared.store.FileStore.{FileStore}
use Rattle.sqlite.specs.Held.{Held}
use Rattle.sqlite.specs.Files.{over_files}
use Rattle.rows.specs.Retained.{Retained}
use Rattle.store.specs.History.{KeepsHistory, LeavesHistory}
use Rattle.tracked_io.specs.Tracking.{TrackedReading, TrackedWriting}
use Rattle.tracked_io.specs.Wrote.{Taken, nothing_taken}
use Rattle.command_line.specs.Faults.{fault_status}
use Rattle.command_line.specs.declared.fault.Fault.{Fault}
use Rattle.command_line.specs.declared.fault.Fault.TheVariants.{CommandLine, Refused, CannotRead, CannotWrite, CannotListen}
use Rattle.runs.specs.Files.{Remains, HoldsOneOf, HoldsAmong}
use Rattle.program.specs.Telling.{Tells}
use Rattle.program.specs.Ends.{unbroken, untouched, Remnant, IsClosed, EndsWith, IsUnbegun}
use Rattle.program.specs.Ran.{Obeyed, Stopped}

-- ---- the files

module _ {D : Type 0} {g : disk.Ghosts D} (conn : Held (FileStore D g)) where
  pub closed_by : (r : Remnant g)
      → IfOk r (λ files. AreClean g files.log files.db → (h : Retained) → KeepsHistory over_files conn h → (left : Image) → outcomes g files.log files.db left → HoldsOneOf left (h ∷ []) × HoldsOneOf (record left { log = [] }) (h ∷ []))
      → IfOk r (λ files. AreClean g files.log files.db → (hs : List Retained) → LeavesHistory over_files conn hs → (left : Image) → outcomes g files.log files.db left → HoldsOneOf left hs)
      → IfErr r (λ store. IsClean (view store) → (hs : List Retained) → LeavesHistory over_files conn hs → (trees : Trees) → recovers store trees → HoldsAmong trees hs) → IsClosed conn r
  closed_by (Ok files) kept left refused = record { kept = kept; left = left }
  closed_by (Err store) kept left refused = refused

  pub ends_well : (status : ℕ) (left : Remains g) (r : Remnant g) → status ≡ 0 → left ≡ Ok conn → IsClosed conn r → EndsWith status left (Ok r)
  ends_well status left r zero is closed = subst (λ (s : ℕ). EndsWith s left (Ok r)) (sym zero) (subst (λ (l : Remains g). EndsWith 0 l (Ok r)) (sym is) closed)

pub ends_as : {D : Type 0} {g : disk.Ghosts D} (left : Remains g) (end : Result (Remnant g) (Remains g)) (status same : ℕ) → status ≡ same → EndsWith status left end → EndsWith same left end
ends_as left end status same is ends = subst (λ (s : ℕ). EndsWith s left end) is ends

-- ---- what was given

module _ {A F : Type 0} (r : Result A F) where
  pub not_given : (P : A → Type 0) (e : F) → r ≡ Err e → IfOk r P
  not_given P e is = subst (λ (s : Result A F). IfOk s P) (sym is) tt

  pub not_refused : (P : F → Type 0) (a : A) → r ≡ Ok a → IfErr r P
  not_refused P a is = subst (λ (s : Result A F). IfErr s P) (sym is) tt

  pub refused_for : (P : F → Type 0) (e : F) → r ≡ Err e → P e → IfErr r P
  refused_for P e is h = subst (λ (s : Result A F). IfErr s P) (sym is) h

  pub given_if : (P : A → Type 0) (a : A) → r ≡ Ok a → P a → IfOk r P
  given_if P a is h = subst (λ (s : Result A F). IfOk s P) (sym is) h

  pub given_and : (P : A → Type 0) (a : A) → r ≡ Ok a → P a → IsOkAnd r P
  given_and P a is h = subst (λ (s : Result A F). IsOkAnd s P) (sym is) h

-- ---- the writer

pub is_unbroken : {W : Type 0} (known : Option (List ℕ)) (writer : TrackedWriting W) (output : W) → writer.inner ≡ output → writer.failed ≡ false → writer.flushed ≡ true
    → writer.taken ≡ nothing_taken known → writer ≡ unbroken known output
is_unbroken {W} known writer output inner failed flushed taken =
    let none : Taken = nothing_taken known in
    subst (λ (i : W). writer ≡ record { inner = i; failed = false; flushed = true; taken = none }) inner (
    subst (λ (f : Bool). writer ≡ record { inner = writer.inner; failed = f; flushed = true; taken = none }) failed (
    subst (λ (f : Bool). writer ≡ record { inner = writer.inner; failed = writer.failed; flushed = f; taken = none }) flushed (
    subst (λ (t : Taken). writer ≡ record { inner = writer.inner; failed = writer.failed; flushed = writer.flushed; taken = t }) taken refl)))

pub is_untouched : {W F : Type 0} (contents : W → Option (List ℕ)) (r : Result W F) (output : W) (writer : TrackedWriting W) → r ≡ Ok output → writer ≡ unbroken (contents output) output → Some writer ≡ untouched contents r
is_untouched {W} {F} contents r output writer is same = subst (λ (s : Result W F). Some writer ≡ untouched contents s) (sym is) (ap (λ (w : TrackedWriting W). Some w) same)

pub untouched_as : {W F : Type 0} (contents : W → Option (List ℕ)) (r : Result W F) (e : F) → r ≡ Err e → untouched {W = W} {F = F} contents (Err e) ≡ untouched contents r
untouched_as {W} {F} contents r e is = ap (λ (s : Result W F). untouched contents s) (sym is)

module _ {R W D : Type 0} {g : disk.Ghosts D} (image : Image) (serves : Bool) (remaining : R → Option (List ℕ)) (reader : TrackedReading R) (writer start : TrackedWriting W) (new : TrackedReading R × TrackedWriting W) (left : Remains g) (is : writer ≡ start) where
  pub obeyed_from : Obeyed image serves remaining (reader, writer) new left → Obeyed image serves remaining (reader, start) new left
  obeyed_from h = subst (λ (w : TrackedWriting W). Obeyed image serves remaining (reader, w) new left) is h

  pub stopped_from : (tells : Fault → Type 0) (silence : Type 0) → Stopped image serves remaining (reader, writer) new left tells silence → Stopped image serves remaining (reader, start) new left tells silence
  stopped_from tells silence h = subst (λ (w : TrackedWriting W). Stopped image serves remaining (reader, w) new left tells silence) is h

-- ---- where nothing was begun

pub at_most_2 : (fault : Fault) (status : ℕ) → status ≡ fault_status fault → status ≤ 2
at_most_2 CommandLine status is = omega arith
at_most_2 (Refused why) status is = omega arith
at_most_2 CannotRead status is = omega arith
at_most_2 CannotWrite status is = omega arith
at_most_2 CannotListen status is = omega arith

module _ {R W E D F : Type 0} {g : disk.Ghosts D} (contents : W → Option (List ℕ)) (output : Result W F) (status : ℕ) (files : Result (Remnant g) (Remains g)) (writer : Option (TrackedWriting W)) (reader : TrackedReading R) (errors errors_after : TrackedWriting E) where
  pub unbegun_for : (fault same : Fault) → fault ≡ same → status ≡ fault_status fault → files ≡ Err (Err None) → writer ≡ untouched contents output → Tells errors errors_after fault
      → IsUnbegun contents same output status files writer reader reader errors errors_after
  unbegun_for fault same is ends none unwritten told = record {
    ends = ends ∙ ap (λ (f : Fault). fault_status f) is;
    unread = refl;
    no_files = none;
    unwritten = unwritten;
    told = subst (λ (f : Fault). Tells errors errors_after f) is told;
  }
