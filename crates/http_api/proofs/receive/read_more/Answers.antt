use Rattle.std.proofs.Common.{sym, ap, ◌∙◌, [], inl, inr, refl, true≢false}
use Rattle.answers.specs.Ends.{is_read_fault, is_write_fault}
use Rattle.answers.specs.declared.end.End.TheVariants.{ReadFault, WriteFault}
use Rattle.std.proofs.KnownBytes.{Keeps-refl}
use Rattle.tracked_io.proofs.Waiting.{gave_waited, waited_none}
use Rattle.http_api.specs.inside.Receiving.{IsPause}
use Rattle.http_api.proofs.Pausing.{at_ok, at_err, consumes_none, nothing, took_nothing, no_text, pause_ends, no_fault, waited_once, ended_now}
use Rattle.http_api.proofs.receive.read_more.Goals as goal

pub returns-then-is_err-clause-err : goal.returns-then-is_err-clause-err
returns-then-is_err-clause-err g c =
    let bad = (at_err _ _ c.flush.result (sym c.is_err.ensures.value ∙ c.if-is_err.true) c.flush.ensures.failed).1 in
    ended_now _ _ _ _ WriteFault [] (consumes_none _ _ (Keeps-refl _)) (waited_none _ _) refl (λ p. absurd (not_pause p))
    (c.args.end, [], c.requires.waits, no_text _ _ c.flush.ensures.taken) c.requires.few c.requires.reads (record { failed = bad; flushed = λ e. absurd (true≢false (sym bad ∙ e)) })
  where
    not_pause : IsPause WriteFault → ⊥
    not_pause (inl e) = true≢false (ap is_write_fault e)
    not_pause (inr e) = true≢false (ap is_write_fault e)

pub returns-in-Ok-eq0-clause-err : goal.returns-in-Ok-eq0-clause-err
returns-in-Ok-eq0-clause-err g c =
    let fine = sym c.is_err.ensures.value ∙ c.if-is_err.false in
    let writes = (at_ok _ _ c.flush.result fine c.flush.ensures.failed).1 ∙ c.requires.writes in
    let flushed = (at_ok _ _ c.flush.result fine c.flush.ensures.flushed).1 in
    let ok = c.in-Ok-eq0.ensures.ok in
    let faults = no_fault _ c.requires.pause in
    let waited = waited_once _ _ _ c.args.end _ _ ok.0 c.requires.pause c.requires.waits c.requires.few c.flush.ensures.taken ok.4 in
    ended_now _ _ _ _ c.args.end ok.0 ok.3 waited (nothing _ (ok.1 ∙ c.in-Ok-eq0.field-0-test)) (λ p. c.in-Ok-eq0.ensures.end c.in-Ok-eq0.field-0-test)
    (pause_ends _ _ _ _ c.requires.pause c.requires.waits c.flush.ensures.taken) c.requires.few (c.in-Ok-eq0.ensures.failed ∙ c.requires.reads ∙ faults.0) (record { failed = writes ∙ faults.1; flushed = λ e. flushed })

pub returns-in-Err-clause-err : goal.returns-in-Err-clause-err
returns-in-Err-clause-err g c =
    let fine = sym c.is_err.ensures.value ∙ c.if-is_err.false in
    let writes = (at_ok _ _ c.flush.result fine c.flush.ensures.failed).1 ∙ c.requires.writes in
    let flushed = (at_ok _ _ c.flush.result fine c.flush.ensures.flushed).1 in
    let waited = waited_once _ _ _ c.args.end _ _ [] c.requires.pause c.requires.waits c.requires.few c.flush.ensures.taken c.in-Err.ensures.err.2 in
    ended_now _ _ _ _ ReadFault [] (consumes_none _ _ c.in-Err.ensures.err.1) waited refl (λ p. absurd (not_pause p))
    (c.args.end, c.requires.pause, c.requires.waits, took_nothing _ _ c.flush.ensures.taken) c.requires.few c.in-Err.ensures.failed (record { failed = writes; flushed = λ e. flushed })
  where
    not_pause : IsPause ReadFault → ⊥
    not_pause (inl e) = true≢false (ap is_read_fault e)
    not_pause (inr e) = true≢false (ap is_read_fault e)

pub returns-in-Ok-clause-ok : goal.returns-in-Ok-clause-ok
returns-in-Ok-clause-ok g c =
    let fine = sym c.is_err.ensures.value ∙ c.if-is_err.false in
    let ok = c.in-Ok.ensures.ok in
    let waited = waited_once _ _ _ c.args.end _ _ ok.0 c.requires.pause c.requires.waits c.requires.few c.flush.ensures.taken ok.4 in
    record {
      more = ok.0;
      reads = (ok.3, gave_waited _ _ _ ok.0 waited);
      waited = waited;
      holds = ok.2;
      keeps = c.flush.ensures.taken;
      reader_works = c.in-Ok.ensures.failed ∙ c.requires.reads;
      writer_works = (at_ok _ _ c.flush.result fine c.flush.ensures.failed).1 ∙ c.requires.writes;
    }
