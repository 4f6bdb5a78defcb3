use Rattle.std.proofs.Common.{◌+◌, ◌++◌, ℕ, List, sym, ap, ◌∙◌, subst, length, drop, slice_range, arith}
use Rattle.tracked_io.proofs.Waiting.{at_each_waited}
use Rattle.http_api.specs.inside.Held.{held}
use Rattle.http_api.specs.Connection.{HasRequest}
use Rattle.http_api.specs.inside.Going.{Going}
use Rattle.http_api.proofs.Going.{going_none, waited_later, going_reads, going_settled, whole_request, ended_finished, settled_finished}
use Rattle.http_api.proofs.Pausing.{few_for_body, few_behind}
use Rattle.http_api.proofs.connection.serve_on.Goals as goal

pub loop-heading-init : goal.loop-heading-init
loop-heading-init g c = (going_none _ _ _ _ c.requires.empty c.requires.unbroken_reader c.requires.unbroken_writer, omega arith, omega (arith, ap length c.requires.empty))

pub returns-in-Err-clause-finished : goal.returns-in-Err-clause-finished
returns-in-Err-clause-finished g c =
    let at = c.loop-heading in
    ended_finished g.A.Answers.step g.R.Read.remaining (c.args.answers.now, c.args.reader.now, c.args.writer.now) at.number (held at.inbox) at.answers at.reader c.receive.new.reader
    at.writer c.receive.new.writer c.in-Err.end at.invariant.0 c.in-Err.ensures.err

pub loop-heading-preserved : goal.loop-heading-preserved
loop-heading-preserved g c =
    let at = c.loop-heading in
    let bytes = held c.receive.new.inbox in
    let heading = c.in-Ok.heading in
    let head = c.in-Ok.ensures.head in
    let rest = drop (heading.head + heading.body) bytes in
    let P : List ℕ → Type 0 = λ x. HasRequest bytes head.0 (slice_range x heading.head (heading.head + heading.body)) rest in
    let request = subst P (sym c.bytes.ensures) (whole_request bytes head.0 heading head.1 c.in-Ok.ensures.whole) in
    let here = going_reads g.A.Answers.step g.R.Read.remaining (c.args.answers.now, c.args.reader.now, c.args.writer.now) at.number (held at.inbox) bytes at.answers at.reader c.receive.new.reader at.writer c.receive.new.writer at.invariant.0 c.in-Ok.ensures.ok in
    let next = going_settled g.A.Answers.step g.R.Read.remaining (c.args.answers.now, c.args.reader.now, c.args.writer.now) at.number bytes rest at.answers c.settle.new.answers c.receive.new.reader c.receive.new.writer c.settle.new.writer tt here
    (c.in-Ok-settle.ensures.settles bytes rest head.0 request head.1.heads) c.in-Ok-settle.ensures.ok in
    let Q : List ℕ → Type 0 = λ x. Going g.A.Answers.step g.R.Read.remaining (c.args.answers.now, c.args.reader.now, c.args.writer.now) (at.number + 1) x (c.settle.new.answers, c.receive.new.reader, c.settle.new.writer) in
    (subst Q (sym c.use_up.ensures) next, c.in-Ok-settle.ensures.room, omega (arith, ap length c.use_up.ensures, few_behind bytes heading c.in-Ok.ensures.few))

pub returns-in-Err-settle-clause-finished : goal.returns-in-Err-settle-clause-finished
returns-in-Err-settle-clause-finished g c =
    let at = c.loop-heading in
    let bytes = held c.receive.new.inbox in
    let heading = c.in-Ok.heading in
    let head = c.in-Ok.ensures.head in
    let rest = drop (heading.head + heading.body) bytes in
    let P : List ℕ → Type 0 = λ x. HasRequest bytes head.0 (slice_range x heading.head (heading.head + heading.body)) rest in
    let request = subst P (sym c.bytes.ensures) (whole_request bytes head.0 heading head.1 c.in-Ok.ensures.whole) in
    let here = going_reads g.A.Answers.step g.R.Read.remaining (c.args.answers.now, c.args.reader.now, c.args.writer.now) at.number (held at.inbox) bytes at.answers at.reader c.receive.new.reader at.writer c.receive.new.writer at.invariant.0 c.in-Ok.ensures.ok in
    (settled_finished g.A.Answers.step g.R.Read.remaining (c.args.answers.now, c.args.reader.now, c.args.writer.now) at.number bytes rest at.answers c.settle.new.answers c.receive.new.reader c.receive.new.writer c.settle.new.writer c.in-Err-settle.end here (few_for_body bytes head.0 heading head.1 c.in-Ok.ensures.few)
    (c.in-Err-settle.ensures.settles bytes rest head.0 request head.1.heads)).0

pub returns-in-Err-settle-clause-read_failed : goal.returns-in-Err-settle-clause-read_failed
returns-in-Err-settle-clause-read_failed g c =
    let at = c.loop-heading in
    let bytes = held c.receive.new.inbox in
    let heading = c.in-Ok.heading in
    let head = c.in-Ok.ensures.head in
    let rest = drop (heading.head + heading.body) bytes in
    let P : List ℕ → Type 0 = λ x. HasRequest bytes head.0 (slice_range x heading.head (heading.head + heading.body)) rest in
    let request = subst P (sym c.bytes.ensures) (whole_request bytes head.0 heading head.1 c.in-Ok.ensures.whole) in
    let here = going_reads g.A.Answers.step g.R.Read.remaining (c.args.answers.now, c.args.reader.now, c.args.writer.now) at.number (held at.inbox) bytes at.answers at.reader c.receive.new.reader at.writer c.receive.new.writer at.invariant.0 c.in-Ok.ensures.ok in
    here.reader_works ∙ (settled_finished g.A.Answers.step g.R.Read.remaining (c.args.answers.now, c.args.reader.now, c.args.writer.now) at.number bytes rest at.answers c.settle.new.answers c.receive.new.reader c.receive.new.writer c.settle.new.writer c.in-Err-settle.end here (few_for_body bytes head.0 heading head.1 c.in-Ok.ensures.few)
    (c.in-Err-settle.ensures.settles bytes rest head.0 request head.1.heads)).1

pub returns-in-Err-clause-each_read : goal.returns-in-Err-clause-each_read
returns-in-Err-clause-each_read g c =
    let at = c.loop-heading in
    let e = c.in-Err.ensures.err in
    at_each_waited _ c.args.reader.now c.receive.new.reader (at.invariant.0.input ++ e.more)
    (waited_later g.A.Answers.step g.R.Read.remaining (c.args.answers.now, c.args.reader.now, c.args.writer.now) at.number (held at.inbox) at.answers at.reader at.writer at.invariant.0 c.receive.new.reader e.more e.waited)

pub returns-in-Err-settle-clause-each_read : goal.returns-in-Err-settle-clause-each_read
returns-in-Err-settle-clause-each_read g c =
    let at = c.loop-heading in
    let p = c.in-Ok.ensures.ok in
    at_each_waited _ c.args.reader.now c.receive.new.reader (at.invariant.0.input ++ p.more)
    (waited_later g.A.Answers.step g.R.Read.remaining (c.args.answers.now, c.args.reader.now, c.args.writer.now) at.number (held at.inbox) at.answers at.reader at.writer at.invariant.0 c.receive.new.reader p.more p.waited)
