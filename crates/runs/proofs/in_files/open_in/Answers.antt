use Rattle.std.proofs.Common.{sym, subst}
use Rattle.sqlite_wal.specs.Files.{image_at}
use Rattle.sqlite.specs.Files.{file_state}
use Rattle.store.specs.StoreParts.{connection}
use Rattle.runs.specs.Files.{IsFoundIn}
use Rattle.runs.proofs.Carried.{opened_in}
use Rattle.runs.proofs.Imaged.{cannot_begin, deserved_in, deserved_unopened, is_whole, lasted, leaves_in, left_unopened, was_clean}
use Rattle.runs.proofs.in_files.open_in.Goals as goal

pub returns-in-Ok-open_over-clause-ok : goal.returns-in-Ok-open_over-clause-ok
returns-in-Ok-open_over-clause-ok g c = opened_in (image_at g.P.Start) c.in-Ok.conn c.in-Ok.ensures.sees c.in-Ok.ensures.found c.args.store _ c.in-Ok-open_over.ensures.ok

pub returns-in-Ok-open_over-clause-begun : goal.returns-in-Ok-open_over-clause-begun
returns-in-Ok-open_over-clause-begun g c = λ cannot clean. c.in-Ok-open_over.ensures.taken
    (cannot_begin (image_at g.P.Start) c.in-Ok.conn c.in-Ok.ensures.sees c.in-Ok.ensures.found c.args.store
    (was_clean (image_at g.P.Start) c.in-Ok.conn c.in-Ok.ensures.sees c.in-Ok.ensures.found (connection c.in-Ok-open_over.answering.tables) c.in-Ok-open_over.ensures.lasts clean) cannot)

pub returns-in-Ok-open_over-clause-lasts : goal.returns-in-Ok-open_over-clause-lasts
returns-in-Ok-open_over-clause-lasts g c =
    lasted (image_at g.P.Start) c.in-Ok.conn c.in-Ok.ensures.sees c.in-Ok.ensures.found (connection c.in-Ok-open_over.answering.tables) c.in-Ok-open_over.ensures.lasts

pub returns-in-Err-open_over-clause-left : goal.returns-in-Err-open_over-clause-left
returns-in-Err-open_over-clause-left g c =
    leaves_in (image_at g.P.Start) c.in-Ok.conn c.in-Ok.ensures.sees c.in-Ok.ensures.found c.in-Err-open_over.conn c.in-Err-open_over.ensures.back c.args.store c.in-Err-open_over.ensures.left

pub returns-in-Err-open_over-clause-taken : goal.returns-in-Err-open_over-clause-taken
returns-in-Err-open_over-clause-taken g c = λ cannot clean.
    let before = was_clean (image_at g.P.Start) c.in-Ok.conn c.in-Ok.ensures.sees c.in-Ok.ensures.found c.in-Err-open_over.conn c.in-Err-open_over.ensures.back clean in
    let k = c.in-Err-open_over.ensures.taken (cannot_begin (image_at g.P.Start) c.in-Ok.conn c.in-Ok.ensures.sees c.in-Ok.ensures.found c.args.store before cannot) in
    (k.0, subst (λ d. IsFoundIn (image_at g.P.Start) (file_state d)) (sym k.1) (c.in-Ok.ensures.sees before))

pub returns-in-Err-open_over-clause-caused : goal.returns-in-Err-open_over-clause-caused
returns-in-Err-open_over-clause-caused g c = λ is.
    deserved_in (image_at g.P.Start) c.in-Ok.conn c.in-Ok.ensures.sees c.in-Ok.ensures.found c.in-Err-open_over.conn c.in-Err-open_over.ensures.back c.args.store
    (c.in-Err-open_over.ensures.caused is (is_whole (image_at g.P.Start) c.in-Ok.conn c.in-Ok.ensures.sees c.in-Ok.ensures.found))

pub returns-in-Err-open_over-clause-back : goal.returns-in-Err-open_over-clause-back
returns-in-Err-open_over-clause-back g c =
    lasted (image_at g.P.Start) c.in-Ok.conn c.in-Ok.ensures.sees c.in-Ok.ensures.found c.in-Err-open_over.conn c.in-Err-open_over.ensures.back

pub returns-in-Err-clause-left : goal.returns-in-Err-clause-left
returns-in-Err-clause-left g c = left_unopened (image_at g.P.Start) c.args.store c.in-Err.left c.in-Err.ensures.left

pub returns-in-Err-clause-caused : goal.returns-in-Err-clause-caused
returns-in-Err-clause-caused g c = λ is. deserved_unopened (image_at g.P.Start) c.args.store c.in-Err.left (c.in-Err.ensures.caused is)
