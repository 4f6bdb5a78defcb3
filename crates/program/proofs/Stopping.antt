-- Why a task was not done, or that it was.
use Rattle.std.proofs.Common.{◌≡◌, ℕ, List, Option, refl, sym, ap, subst, ◌∙◌, arith}
use Rattle.std.specs.Prelude.{None, Result, Err, IfErr}
use Rattle.sqlite_disk.specs.declared.Disk as disk
use Rattle.sqlite_wal.specs.Recovery.{Image}
use Rattle.names.specs.declared.refusal.Refusal.{Refusal}
use Rattle.tracked_io.specs.Tracking.{TrackedReading, TrackedWriting}
use Rattle.command_line.specs.Faults.{IsRunFault, fault_status}
use Rattle.command_line.specs.declared.fault.Fault.{Fault}
use Rattle.command_line.specs.declared.fault.Fault.TheVariants.{CommandLine, Refused, CannotRead, CannotWrite, CannotListen}
use Rattle.command_line.specs.declared.words.Place.{Place}
use Rattle.command_line.specs.declared.words.Task.{Task}
use Rattle.command_line.specs.declared.words.Task.TheVariants.{Run, Serve}
use Rattle.runs.specs.Files.{Remains}
use Rattle.runs.specs.Runs.{is_read_fault, is_write_fault}
use Rattle.program.specs.Listening.{Announced, StoppedServing}
use Rattle.program.specs.Ran.{all_lines, whole_lines, first_lines, RanAt, RefusedAt, RunStopped, input_failed, output_failed, run_refused, DoneOf, StoppedOf}
use Rattle.program.proofs.Results.{err_at}

module _ {R W D : Type 0} {g : disk.Ghosts D} (image : Image) (remaining : R → Option (List ℕ)) (reader reader_after : TrackedReading R) (writer writer_after : TrackedWriting W) (left : Remains g) where
  abbrev Done : Task → Type 0
  Done task = DoneOf image task remaining (reader, writer) (reader_after, writer_after) left

  abbrev StoppedBy : Fault → Task → Type 0
  StoppedBy fault task = StoppedOf image task fault remaining (reader, writer) (reader_after, writer_after) left

  module _ (place : Place) where
    pub done_service : (task : Task) (port : ℕ) (workers : ℕ) → task ≡ Serve place port workers → reader_after ≡ reader → Announced port writer writer_after → left ≡ Err None → Done task
    done_service task port workers is same announced none = subst Done (sym is) (same, announced, none)

    pub service_stops : (task : Task) (port : ℕ) (workers : ℕ) (fault : Fault) → task ≡ Serve place port workers → reader_after ≡ reader → StoppedServing port fault writer writer_after → left ≡ Err None → StoppedBy fault task
    service_stops task port workers fault is same stopped none = subst (StoppedBy fault) (sym is) (same, stopped, none)

    pub done_run : (task : Task) → task ≡ Run place → RanAt image all_lines place remaining (reader, writer) (reader_after, writer_after) left → Done task
    done_run task is ran = subst Done (sym is) ran

    abbrev CannotReadOn : Fault → Type 0
    CannotReadOn fault = fault ≡ CannotRead → RanAt image whole_lines place remaining (reader, writer) (reader_after, writer_after) left

    abbrev CannotWriteOn : Fault → Type 0
    CannotWriteOn fault = fault ≡ CannotWrite → RanAt image first_lines place remaining (reader, writer) (reader_after, writer_after) left

    abbrev IsRefused : Fault → Type 0
    IsRefused fault = (why : Refusal) → fault ≡ Refused why → (reader_after ≡ reader) × (writer_after ≡ writer) × RefusedAt image place fault left

    stopped_run : (A : Type 0) (fault : Fault) → IsRunFault fault → reader_after.failed ≡ is_read_fault {A = A} (Err fault) → writer_after.failed ≡ is_write_fault {A = A} (Err fault)
        → CannotReadOn fault → CannotWriteOn fault → IsRefused fault → RunStopped image place fault remaining (reader, writer) (reader_after, writer_after) left
    stopped_run A CommandLine run unread unwritten paused cut refused = absurd run
    stopped_run A (Refused why) run unread unwritten paused cut refused = let k = refused why refl in run_refused why refl run k.0 k.1 k.2
    stopped_run A CannotRead run unread unwritten paused cut refused = input_failed refl unread unwritten (paused refl)
    stopped_run A CannotWrite run unread unwritten paused cut refused = output_failed refl unread unwritten (cut refl)
    stopped_run A CannotListen run unread unwritten paused cut refused = absurd run

    pub run_stops : {A : Type 0} (task : Task) (r : Result A Fault) (fault : Fault) → task ≡ Run place → r ≡ Err fault → IfErr r IsRunFault → reader_after.failed ≡ is_read_fault r → writer_after.failed ≡ is_write_fault r
        → IfErr r CannotReadOn → IfErr r CannotWriteOn → IfErr r IsRefused → StoppedBy fault task
    run_stops {A} task r fault is told run unread unwritten paused cut refused = subst (StoppedBy fault) (sym is)
        (stopped_run A fault (err_at IsRunFault r fault told run) (unread ∙ ap (λ (s : Result A Fault). is_read_fault s) told) (unwritten ∙ ap (λ (s : Result A Fault). is_write_fault s) told)
        (err_at CannotReadOn r fault told paused) (err_at CannotWriteOn r fault told cut) (err_at IsRefused r fault told refused))

-- a fault ends with another status than 0
pub never_0 : (fault : Fault) → ¬ (fault_status fault ≡ 0)
never_0 CommandLine is = absurd (omega arith)
never_0 (Refused why) is = absurd (omega arith)
never_0 CannotRead is = absurd (omega arith)
never_0 CannotWrite is = absurd (omega arith)
never_0 CannotListen is = absurd (omega arith)

-- the one that ends with 2
pub is_bad_line : (fault : Fault) → fault_status fault ≡ 2 → fault ≡ CommandLine
is_bad_line CommandLine is = refl
is_bad_line (Refused why) is = absurd (omega arith)
is_bad_line CannotRead is = absurd (omega arith)
is_bad_line CannotWrite is = absurd (omega arith)
is_bad_line CannotListen is = absurd (omega arith)
