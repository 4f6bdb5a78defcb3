use Rattle.std.proofs.Common.{arith, refl, sym, ◌++◌, ◌∙◌, []}
use Rattle.std.proofs.KnownBytes.{Consumes-kept}
use Rattle.tracked_io.proofs.Waiting.{gave_waited, waited_none, waited_more, waited_still}
use Rattle.lines.proofs.Going.{going_start, going_keeps, consumes_none, consumes_more, consumes_end, none_taken, cut_from_going, cut_from_short, cut_from_end, match_at_ok, match_at_err}
use Rattle.lines.proofs.served.lines.Goals as goal
use Rattle.lines.proofs.served.lines.Goals.{in-Ok-finish, in-Err}

pub loop-chunk-init : goal.loop-chunk-init
loop-chunk-init g c = (([], consumes_none _, going_start _ _ _ _ c.in-Ok.ensures, waited_none _ _), c.requires.unbroken_reader, c.requires.unbroken_writer)

pub returns-then-is_err-clause-write_fault : goal.returns-then-is_err-clause-write_fault
returns-then-is_err-clause-write_fault g c e =
    let i = c.loop-chunk.invariant.0 in
    (i.0, (i.1, gave_waited _ _ _ i.0 i.3), cut_from_going _ _ _ _ _ _ _ _ _ i.2 c.flush.ensures.taken)

pub returns-then-is_err-clause-each_read : goal.returns-then-is_err-clause-each_read
returns-then-is_err-clause-each_read g c = let w = c.loop-chunk.invariant.0.3 in (w.more, w.grown, w.held)

pub returns-in_default-read-clause-read_fault : goal.returns-in_default-read-clause-read_fault
returns-in_default-read-clause-read_fault g c e =
    let i = c.loop-chunk.invariant.0 in
    let j = going_keeps _ _ _ _ _ _ _ _ i.2 c.flush.ensures.taken in
    let w = waited_still _ _ _ _ i.0 _ _ i.3 c.in_default-read.ensures.reads refl (_, j.paused) in
    (i.0, (Consumes-kept _ _ _ _ i.1 c.in_default-read.ensures.bytes, gave_waited _ _ _ i.0 w), j.paused)

pub returns-in_default-read-clause-each_read : goal.returns-in_default-read-clause-each_read
returns-in_default-read-clause-each_read g c =
    let i = c.loop-chunk.invariant.0 in
    let j = going_keeps _ _ _ _ _ _ _ _ i.2 c.flush.ensures.taken in
    let w = waited_still _ _ _ _ i.0 _ _ i.3 c.in_default-read.ensures.reads refl (_, j.paused) in
    (w.more, w.grown, w.held)

pub returns-then-n-eq0-clause-closed : goal.returns-then-n-eq0-clause-closed
returns-then-n-eq0-clause-closed g c =
    let i = c.loop-chunk.invariant.0 in
    let b = c.in-Ok-read.ensures.bytes in
    let j = going_keeps _ _ _ _ _ _ _ _ i.2 c.flush.ensures.taken in
    let w = waited_still _ _ _ _ i.0 _ _ i.3 c.in-Ok-read.ensures.reads (none_taken _ _ c.if-n-eq0.true) (_, j.paused) in
    elim c.match-finish.branch [
      | in-Ok-finish k ↦ λ e. (i.0, ((consumes_end _ _ _ _ _ _ i.1 b.0 c.if-n-eq0.true, gave_waited _ _ _ i.0 w), b.1 c.if-n-eq0.true (omega arith)), k.in-Ok-finish.ensures.served _ _ _ j)
      | in-Err k ↦ λ e. absurd (cc)
    ]

pub returns-then-n-eq0-clause-write_fault : goal.returns-then-n-eq0-clause-write_fault
returns-then-n-eq0-clause-write_fault g c =
    let i = c.loop-chunk.invariant.0 in
    let j = going_keeps _ _ _ _ _ _ _ _ i.2 c.flush.ensures.taken in
    let w = waited_still _ _ _ _ i.0 _ _ i.3 c.in-Ok-read.ensures.reads (none_taken _ _ c.if-n-eq0.true) (_, j.paused) in
    elim c.match-finish.branch [
      | in-Ok-finish k ↦ λ e. absurd (cc)
      | in-Err k ↦ λ e. (i.0, (consumes_end _ _ _ _ _ _ i.1 c.in-Ok-read.ensures.bytes.0 c.if-n-eq0.true, gave_waited _ _ _ i.0 w), cut_from_end _ _ _ _ _ _ _ _ _ _ c.in-Ok-read.ensures.reads (none_taken _ _ c.if-n-eq0.true) (k.in-Err.ensures.served _ _ _ j))
    ]

pub returns-then-n-eq0-clause-each_read : goal.returns-then-n-eq0-clause-each_read
returns-then-n-eq0-clause-each_read g c =
    let i = c.loop-chunk.invariant.0 in
    let j = going_keeps _ _ _ _ _ _ _ _ i.2 c.flush.ensures.taken in
    let w = waited_still _ _ _ _ i.0 _ _ i.3 c.in-Ok-read.ensures.reads (none_taken _ _ c.if-n-eq0.true) (_, j.paused) in
    (w.more, w.grown, w.held)

pub returns-then-is_err-2-clause-write_fault : goal.returns-then-is_err-2-clause-write_fault
returns-then-is_err-2-clause-write_fault g c e =
    let i = c.loop-chunk.invariant.0 in
    let j = going_keeps _ _ _ _ _ _ _ _ i.2 c.flush.ensures.taken in
    let w = waited_more _ _ _ _ i.0 _ _ i.3 c.in-Ok-read.ensures.reads (_, j.paused) in
    (i.0 ++ _, (consumes_more _ _ _ _ _ i.1 c.in-Ok-read.ensures.bytes.0, gave_waited _ _ _ _ w), cut_from_short _ _ _ _ _ _ _ (match_at_err _ _ c.feed_all.result (sym c.is_err-in-loop-chunk.ensures.value ∙ c.if-is_err-2.true) (c.feed_all.ensures.goes_on _ _ _ j)))

pub returns-then-is_err-2-clause-each_read : goal.returns-then-is_err-2-clause-each_read
returns-then-is_err-2-clause-each_read g c =
    let i = c.loop-chunk.invariant.0 in
    let j = going_keeps _ _ _ _ _ _ _ _ i.2 c.flush.ensures.taken in
    let w = waited_more _ _ _ _ i.0 _ _ i.3 c.in-Ok-read.ensures.reads (_, j.paused) in
    (w.more, w.grown, w.held)

pub loop-chunk-preserved : goal.loop-chunk-preserved
loop-chunk-preserved g c =
    let i = c.loop-chunk.invariant.0 in
    let j = going_keeps _ _ _ _ _ _ _ _ i.2 c.flush.ensures.taken in
    let w = waited_more _ _ _ _ i.0 _ _ i.3 c.in-Ok-read.ensures.reads (_, j.paused) in
    let fine = sym c.is_err-in-loop-chunk.ensures.value ∙ c.if-is_err-2.false in (
      (i.0 ++ _, consumes_more _ _ _ _ _ i.1 c.in-Ok-read.ensures.bytes.0, match_at_ok _ _ c.feed_all.result fine (c.feed_all.ensures.goes_on _ _ _ j), w),
      c.in-Ok-read.ensures.failed ∙ c.loop-chunk.invariant.1,
      match_at_ok _ _ c.feed_all.result fine c.feed_all.ensures.failed ∙ match_at_ok _ _ c.flush.result (sym c.is_err.ensures.value ∙ c.if-is_err.false) c.flush.ensures.failed ∙ c.loop-chunk.invariant.2,
    )
