use Rattle.std.proofs.Common.{◌++◌, ◌∷◌, [], ◌<◌, length, List, ap, sym, ◌∙◌, refl, arith}
use Rattle.std.specs.Global.{Vec}
use Rattle.names.specs.declared.commit.Event.{Event}
use Rattle.store.proofs.Slots.{slot_at, slot_grown, no_place, no_event}
use Rattle.store.specs.inside.Moves.{slot}
use Rattle.store.proofs.placing.push_at.Goals as goal

pub returns-then-at-len-clause-placed : goal.returns-then-at-len-clause-placed
returns-then-at-len-clause-placed c = λ k lt.
    let within : c.args.at < length c.args.slots.now.items = omega (arith, c.if-at-len.true, c.len.ensures, c.args.slots.now.ok.0) in
    slot_grown c.args.slots.now.items _ c.args.at c.add.new.events c.args.event within refl
    (c.in_ok-add.ensures.pushed ∙ ap (λ (v : Vec Event). v.items ++ c.args.event ∷ []) c.index_mut.ensures.value ∙ ap (λ (es : List Event). es ++ c.args.event ∷ []) (sym (slot_at c.args.slots.now.items c.args.at c.index_mut.result.now within))) k

pub returns-clause-placed : goal.returns-clause-placed
returns-clause-placed c = λ k lt. no_event _ c.args.event (slot c.args.slots.now.items k) (no_place c.args.at k (length c.args.slots.now.items) (omega (arith, c.if-at-len.false, c.len.ensures, c.args.slots.now.ok.0)) lt)
