use Rattle.std.proofs.Common.{refl}
use Rattle.sqlite_wal.specs.Files.{image_at}
use Rattle.program.specs.Ran.{all_lines, whole_lines, first_lines}
use Rattle.program.proofs.Results.{ok_of, err_of, err_both}
use Rattle.program.proofs.Places.{ok_is_no_fault, unread_is_no_fault, unwritten_is_no_fault, ran_in_memory, ran_in_new, ran_in_there, refused_in_memory, refused_in_new, refused_in_there, refused_for_new, refused_for_there}
use Rattle.program.proofs.command.run_at.Goals as goal

pub returns-in-Memory-clause-ok : goal.returns-in-Memory-clause-ok
returns-in-Memory-clause-ok g c = ok_of c.run-ended.result.0 (λ a is h.
    ran_in_memory (image_at g.P.Start) g.R.Read.remaining c.args.reader.now c.run-ended.new.reader c.args.writer.now c.run-ended.new.writer all_lines c.args.place.now c.in-Memory.store c.new-tables.result c.run-ended.result.1 c.in-Memory.is c.new-tables.ensures h)
    c.run-ended.ensures.ok

pub returns-in-Memory-clause-cannot_read : goal.returns-in-Memory-clause-cannot_read
returns-in-Memory-clause-cannot_read g c = err_of c.run-ended.result.0 (λ e is h unread.
    ran_in_memory (image_at g.P.Start) g.R.Read.remaining c.args.reader.now c.run-ended.new.reader c.args.writer.now c.run-ended.new.writer whole_lines c.args.place.now c.in-Memory.store c.new-tables.result c.run-ended.result.1 c.in-Memory.is c.new-tables.ensures (h unread))
    c.run-ended.ensures.cannot_read

pub returns-in-Memory-clause-cannot_write : goal.returns-in-Memory-clause-cannot_write
returns-in-Memory-clause-cannot_write g c = err_of c.run-ended.result.0 (λ e is h unwritten.
    ran_in_memory (image_at g.P.Start) g.R.Read.remaining c.args.reader.now c.run-ended.new.reader c.args.writer.now c.run-ended.new.writer first_lines c.args.place.now c.in-Memory.store c.new-tables.result c.run-ended.result.1 c.in-Memory.is c.new-tables.ensures (h unwritten))
    c.run-ended.ensures.cannot_write

pub returns-in-Memory-clause-refused : goal.returns-in-Memory-clause-refused
returns-in-Memory-clause-refused g c = err_both c.run-ended.result.0 (λ e is h caused why refused. let k = h why refused in
    (k.0, k.1, refused_in_memory (image_at g.P.Start) c.args.place.now e c.in-Memory.store c.new-tables.result c.run-ended.result.1 c.in-Memory.is (λ fault. caused fault (λ clean. refl))))
    c.run-ended.ensures.refused c.run-ended.ensures.caused

pub returns-then-not-is_number-clause-refused : goal.returns-then-not-is_number-clause-refused
returns-then-not-is_number-clause-refused g c = λ why is. (refl, refl, refused_for_new (image_at g.P.Start) c.args.place.now _ c.in-New.file c.in-New.store c.in-New.is)

pub returns-else-not-is_number-clause-ok : goal.returns-else-not-is_number-clause-ok
returns-else-not-is_number-clause-ok g c = ok_of c.run_in.result.0 (λ a is h.
    ran_in_new (image_at g.P.Start) g.R.Read.remaining c.args.reader.now c.run_in.new.reader c.args.writer.now c.run_in.new.writer all_lines c.args.place.now c.in-New.file c.in-New.store c.run_in.result.0 c.run_in.result.1 c.in-New.is
    c.run_in.ensures.taken (ok_is_no_fault c.run_in.result.0 a is) c.run_in.ensures.lasts h.1)
    c.run_in.ensures.ok

pub returns-else-not-is_number-clause-cannot_read : goal.returns-else-not-is_number-clause-cannot_read
returns-else-not-is_number-clause-cannot_read g c = err_of c.run_in.result.0 (λ e is h unread.
    ran_in_new (image_at g.P.Start) g.R.Read.remaining c.args.reader.now c.run_in.new.reader c.args.writer.now c.run_in.new.writer whole_lines c.args.place.now c.in-New.file c.in-New.store c.run_in.result.0 c.run_in.result.1 c.in-New.is
    c.run_in.ensures.taken (unread_is_no_fault c.run_in.result.0 e is unread) c.run_in.ensures.lasts (h unread))
    c.run_in.ensures.cannot_read

pub returns-else-not-is_number-clause-cannot_write : goal.returns-else-not-is_number-clause-cannot_write
returns-else-not-is_number-clause-cannot_write g c = err_of c.run_in.result.0 (λ e is h unwritten.
    ran_in_new (image_at g.P.Start) g.R.Read.remaining c.args.reader.now c.run_in.new.reader c.args.writer.now c.run_in.new.writer first_lines c.args.place.now c.in-New.file c.in-New.store c.run_in.result.0 c.run_in.result.1 c.in-New.is
    c.run_in.ensures.taken (unwritten_is_no_fault c.run_in.result.0 e is unwritten) c.run_in.ensures.lasts (h unwritten))
    c.run_in.ensures.cannot_write

pub returns-else-not-is_number-clause-refused : goal.returns-else-not-is_number-clause-refused
returns-else-not-is_number-clause-refused g c = err_both c.run_in.result.0 (λ e is h cause why refused. let k = h why refused in
    (k.0, k.1, refused_in_new (image_at g.P.Start) c.args.place.now e c.in-New.file c.in-New.store c.run_in.result.0 c.run_in.result.1 c.in-New.is is k.2 cause.1 c.run_in.ensures.taken c.run_in.ensures.lasts))
    c.run_in.ensures.refused c.run_in.ensures.cause

pub returns-in-Err-clause-refused : goal.returns-in-Err-clause-refused
returns-in-Err-clause-refused g c = λ why is. (refl, refl, refused_for_there (image_at g.P.Start) c.args.place.now _ c.in-There.file c.in-There.is)

pub returns-in_default-clause-ok : goal.returns-in_default-clause-ok
returns-in_default-clause-ok g c = ok_of c.run_in-in-There.result.0 (λ a is h.
    ran_in_there (image_at g.P.Start) g.R.Read.remaining c.args.reader.now c.run_in-in-There.new.reader c.args.writer.now c.run_in-in-There.new.writer all_lines c.args.place.now c.in-There.file c.run_in-in-There.result.0 c.run_in-in-There.result.1 c.in-There.is
    c.run_in-in-There.ensures.taken (ok_is_no_fault c.run_in-in-There.result.0 a is) c.run_in-in-There.ensures.lasts h.1)
    c.run_in-in-There.ensures.ok

pub returns-in_default-clause-cannot_read : goal.returns-in_default-clause-cannot_read
returns-in_default-clause-cannot_read g c = err_of c.run_in-in-There.result.0 (λ e is h unread.
    ran_in_there (image_at g.P.Start) g.R.Read.remaining c.args.reader.now c.run_in-in-There.new.reader c.args.writer.now c.run_in-in-There.new.writer whole_lines c.args.place.now c.in-There.file c.run_in-in-There.result.0 c.run_in-in-There.result.1 c.in-There.is
    c.run_in-in-There.ensures.taken (unread_is_no_fault c.run_in-in-There.result.0 e is unread) c.run_in-in-There.ensures.lasts (h unread))
    c.run_in-in-There.ensures.cannot_read

pub returns-in_default-clause-cannot_write : goal.returns-in_default-clause-cannot_write
returns-in_default-clause-cannot_write g c = err_of c.run_in-in-There.result.0 (λ e is h unwritten.
    ran_in_there (image_at g.P.Start) g.R.Read.remaining c.args.reader.now c.run_in-in-There.new.reader c.args.writer.now c.run_in-in-There.new.writer first_lines c.args.place.now c.in-There.file c.run_in-in-There.result.0 c.run_in-in-There.result.1 c.in-There.is
    c.run_in-in-There.ensures.taken (unwritten_is_no_fault c.run_in-in-There.result.0 e is unwritten) c.run_in-in-There.ensures.lasts (h unwritten))
    c.run_in-in-There.ensures.cannot_write

pub returns-in_default-clause-refused : goal.returns-in_default-clause-refused
returns-in_default-clause-refused g c = err_both c.run_in-in-There.result.0 (λ e is h cause why refused. let k = h why refused in
    (k.0, k.1, refused_in_there (image_at g.P.Start) c.args.place.now e c.in-There.file c.run_in-in-There.result.0 c.run_in-in-There.result.1 c.in-There.is is k.2 cause.1 c.run_in-in-There.ensures.taken c.run_in-in-There.ensures.lasts))
    c.run_in-in-There.ensures.refused c.run_in-in-There.ensures.cause

pub returns-else-not-is_number-clause-handed_on : goal.returns-else-not-is_number-clause-handed_on
returns-else-not-is_number-clause-handed_on g c = ok_of c.run_in.result.0 (λ a is h. h.0) c.run_in.ensures.ok

pub returns-else-not-is_number-clause-cause : goal.returns-else-not-is_number-clause-cause
returns-else-not-is_number-clause-cause g c = err_of c.run_in.result.0 (λ e is h. h.0) c.run_in.ensures.cause

pub returns-in_default-clause-handed_on : goal.returns-in_default-clause-handed_on
returns-in_default-clause-handed_on g c = ok_of c.run_in-in-There.result.0 (λ a is h. h.0) c.run_in-in-There.ensures.ok

pub returns-in_default-clause-cause : goal.returns-in_default-clause-cause
returns-in_default-clause-cause g c = err_of c.run_in-in-There.result.0 (λ e is h. h.0) c.run_in-in-There.ensures.cause
