use Rattle.std.proofs.Common.{sym, subst}
use Rattle.sqlite_wal.specs.Files.{image_at}
use Rattle.sqlite.specs.Files.{file_state, over_files}
use Rattle.store.specs.StoreParts.{connection}
use Rattle.runs.specs.Files.{IsFoundIn}
use Rattle.runs.proofs.Carried.{begins_in}
use Rattle.runs.proofs.Imaged.{cannot_begin, deserved_in, deserved_unopened, is_whole, lasted, leaves_in, left_unopened, was_clean}
use Rattle.runs.proofs.Starting.{begins, failed_deserved, failed_lasts, failed_leaves, started_lasts, was_fault}
use Rattle.runs.proofs.in_files.tables_in.Goals as goal

pub returns-in-Ok-tables_over-clause-ok : goal.returns-in-Ok-tables_over-clause-ok
returns-in-Ok-tables_over-clause-ok g c = λ r keeps only.
    begins_in (image_at g.P.Start) c.in-Ok.conn c.in-Ok.ensures.sees c.in-Ok.ensures.found c.args.store r
    (begins over_files c.in-Ok.conn c.args.store (connection c.in-Ok-tables_over.tables) c.in-Ok-tables_over.ensures.ok r keeps only)

pub returns-in-Ok-tables_over-clause-begun : goal.returns-in-Ok-tables_over-clause-begun
returns-in-Ok-tables_over-clause-begun g c = λ cannot clean.
    let lasts = started_lasts over_files c.in-Ok.conn c.args.store (connection c.in-Ok-tables_over.tables) c.in-Ok-tables_over.ensures.ok in
    c.in-Ok-tables_over.ensures.taken
    (cannot_begin (image_at g.P.Start) c.in-Ok.conn c.in-Ok.ensures.sees c.in-Ok.ensures.found c.args.store
    (was_clean (image_at g.P.Start) c.in-Ok.conn c.in-Ok.ensures.sees c.in-Ok.ensures.found (connection c.in-Ok-tables_over.tables) lasts clean) cannot)

pub returns-in-Ok-tables_over-clause-lasts : goal.returns-in-Ok-tables_over-clause-lasts
returns-in-Ok-tables_over-clause-lasts g c =
    lasted (image_at g.P.Start) c.in-Ok.conn c.in-Ok.ensures.sees c.in-Ok.ensures.found (connection c.in-Ok-tables_over.tables)
    (started_lasts over_files c.in-Ok.conn c.args.store (connection c.in-Ok-tables_over.tables) c.in-Ok-tables_over.ensures.ok)

pub returns-in-Err-tables_over-clause-left : goal.returns-in-Err-tables_over-clause-left
returns-in-Err-tables_over-clause-left g c =
    let it = c.in-Err-tables_over in
    leaves_in (image_at g.P.Start) c.in-Ok.conn c.in-Ok.ensures.sees c.in-Ok.ensures.found it.conn
    (failed_lasts over_files c.in-Ok.conn c.args.store it.why it.conn it.ensures.err) c.args.store
    (failed_leaves over_files c.in-Ok.conn c.args.store it.why it.conn it.ensures.err)

pub returns-in-Err-tables_over-clause-taken : goal.returns-in-Err-tables_over-clause-taken
returns-in-Err-tables_over-clause-taken g c = λ cannot clean.
    let it = c.in-Err-tables_over in
    let lasts = failed_lasts over_files c.in-Ok.conn c.args.store it.why it.conn it.ensures.err in
    let before = was_clean (image_at g.P.Start) c.in-Ok.conn c.in-Ok.ensures.sees c.in-Ok.ensures.found it.conn lasts clean in
    let k = it.ensures.taken (cannot_begin (image_at g.P.Start) c.in-Ok.conn c.in-Ok.ensures.sees c.in-Ok.ensures.found c.args.store before cannot) in
    (c.fault_of.ensures.fault k.0, subst (λ d. IsFoundIn (image_at g.P.Start) (file_state d)) (sym k.1) (c.in-Ok.ensures.sees before))

pub returns-in-Err-tables_over-clause-caused : goal.returns-in-Err-tables_over-clause-caused
returns-in-Err-tables_over-clause-caused g c = λ is.
    let it = c.in-Err-tables_over in
    deserved_in (image_at g.P.Start) c.in-Ok.conn c.in-Ok.ensures.sees c.in-Ok.ensures.found it.conn
    (failed_lasts over_files c.in-Ok.conn c.args.store it.why it.conn it.ensures.err) c.args.store
    (failed_deserved over_files c.in-Ok.conn c.args.store it.why it.conn it.ensures.err (was_fault it.why c.fault_of.result c.fault_of.ensures.memory is)
    (is_whole (image_at g.P.Start) c.in-Ok.conn c.in-Ok.ensures.sees c.in-Ok.ensures.found))

pub returns-in-Err-tables_over-clause-back : goal.returns-in-Err-tables_over-clause-back
returns-in-Err-tables_over-clause-back g c =
    let it = c.in-Err-tables_over in
    lasted (image_at g.P.Start) c.in-Ok.conn c.in-Ok.ensures.sees c.in-Ok.ensures.found it.conn
    (failed_lasts over_files c.in-Ok.conn c.args.store it.why it.conn it.ensures.err)

pub returns-in-Err-clause-left : goal.returns-in-Err-clause-left
returns-in-Err-clause-left g c = left_unopened (image_at g.P.Start) c.args.store c.in-Err.left c.in-Err.ensures.left

pub returns-in-Err-clause-caused : goal.returns-in-Err-clause-caused
returns-in-Err-clause-caused g c = λ is. deserved_unopened (image_at g.P.Start) c.args.store c.in-Err.left (c.in-Err.ensures.caused is)
