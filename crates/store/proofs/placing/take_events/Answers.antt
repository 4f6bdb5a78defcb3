use Rattle.std.proofs.Common.{ap, sym, ◌∙◌}
use Rattle.std.specs.Global.{Vec}
use Rattle.names.specs.declared.commit.Event.{Event}
use Rattle.store.proofs.Slots.{slot_at, slot_kept}
use Rattle.store.proofs.placing.take_events.Goals as goal

pub returns-clause-taken : goal.returns-clause-taken
returns-clause-taken c =
    ap (λ (v : Vec Event). v.items) (c.replace.ensures.value ∙ c.index_mut.ensures.value) ∙ sym (slot_at c.args.slots.now.items c.args.at c.index_mut.result.now c.requires)

pub returns-clause-rest : goal.returns-clause-rest
returns-clause-rest c = λ k other. slot_kept c.args.slots.now.items c.args.at k c.replace.new.dest other
