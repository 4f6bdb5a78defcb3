use Rattle.std.proofs.Common.{◌<◌, length, subst}
use Rattle.by_subject.proofs.Putting.{event_taken, event_kept}
use Rattle.by_subject.proofs.by_subject.BySubject.take_events.Goals as goal

pub loop-i-preserved : goal.loop-i-preserved
loop-i-preserved c =
    let es = c.args.events.now in
    let e = c.event.result in
    let small : c.loop-i.i < length es = subst (λ n. c.loop-i.i < n) c.len-i-end.ensures.len c.loop-i-test.true in
    record {
      taken = event_taken e c.loop-i.self c.take_event.new.self c.in_ok-take_event.ensures.ok es c.loop-i.i small c.event.ensures c.loop-i.invariant.taken;
      kept = event_kept e c.loop-i.self c.take_event.new.self c.in_ok-take_event.ensures.ok c.args.self.now c.loop-i.invariant.kept;
    }
