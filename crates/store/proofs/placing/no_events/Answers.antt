use Rattle.std.proofs.Common.{◌+◌, List, ap, ◌∙◌}
use Rattle.std.specs.Global.{Vec}
use Rattle.names.specs.declared.commit.Event.{Event}
use Rattle.store.specs.inside.Moves.{slot}
use Rattle.store.proofs.Slots.{slot_pushed, length_pushed}
use Rattle.store.proofs.placing.no_events.Goals as goal

pub loop-i-preserved : goal.loop-i-preserved
loop-i-preserved c =
    let pushed = c.in_ok-push.ensures.items in
    record {
      len = length_pushed c.loop-i.slots.items c.push.new.self.items c.new.result pushed ∙ ap (λ n. n + 1) c.loop-i.invariant.len;
      none = λ k. ap (λ (vs : List (Vec Event)). slot vs k) pushed ∙ slot_pushed c.loop-i.slots.items c.new.result c.new.ensures.items c.loop-i.invariant.none k;
    }
