use Rattle.std.proofs.Common.{◌∷◌, get_or, refl, ap, ◌∙◌, arith}
use Rattle.std.proofs.lemmas.List.{get_or_default}
use Rattle.shelf.proofs.Blocks.{count_is, ends_are, value_at, text_at}
use Rattle.shelf.proofs.Cutting.{later, out_block, out_entries}
use Rattle.shelf.proofs.block.Block.remove.Goals as goal

pub start_of-start-requires : goal.start_of-start-requires
start_of-start-requires g c = omega (arith, ends_are _ _ _ c.self.invariant _ c.self.view_is)

pub index-end-requires : goal.index-end-requires
index-end-requires g c = omega (arith, ends_are _ _ _ c.self.invariant _ c.self.view_is)

pub cut_out-requires-clause-up : goal.cut_out-requires-clause-up
cut_out-requires-clause-up g c =
    (text_at _ _ _ c.self.invariant _ c.self.view_is c.args.i c.requires _ _ _ _ refl c.deref.ensures.value c.start_of-start.ensures c.index-end.ensures).up

pub cut_out-requires-clause-starts : goal.cut_out-requires-clause-starts
cut_out-requires-clause-starts g c =
    let cut = text_at _ _ _ c.self.invariant _ c.self.view_is c.args.i c.requires _ _ _ _ refl c.deref.ensures.value c.start_of-start.ensures c.index-end.ensures in
    (cut.starts.0, λ _. cut.starts.1)

pub cut_out-requires-clause-stops : goal.cut_out-requires-clause-stops
cut_out-requires-clause-stops g c =
    let cut = text_at _ _ _ c.self.invariant _ c.self.view_is c.args.i c.requires _ _ _ _ refl c.deref.ensures.value c.start_of-start.ensures c.index-end.ensures in
    (cut.stops.0, λ _. cut.stops.1)

pub overflow_sub-end : goal.overflow_sub-end
overflow_sub-end g c =
    (text_at _ _ _ c.self.invariant _ c.self.view_is c.args.i c.requires _ _ _ _ refl c.deref.ensures.value c.start_of-start.ensures c.index-end.ensures).up

pub take_end-requires-clause-within : goal.take_end-requires-clause-within
take_end-requires-clause-within g c = omega (arith, ends_are _ _ _ c.self.invariant _ c.self.view_is)

pub take_end-requires-clause-rising : goal.take_end-requires-clause-rising
take_end-requires-clause-rising g c =
    let n = count_is _ _ _ c.self.invariant _ c.self.view_is in
    let m = ends_are _ _ _ c.self.invariant _ c.self.view_is in
    later _ _ _ c.self.invariant c.args.i (omega arith) c.self.inside.ends.items refl c.start_of-start.result c.index-end.result.now
    (c.index-end.ensures ∙ get_or_default c.self.inside.ends.items c.args.i c.index-end.result.now 0 (omega arith))

pub remove-value-requires : goal.remove-value-requires
remove-value-requires g c = omega (arith, count_is _ _ _ c.self.invariant _ c.self.view_is)

pub invariant_of-self : goal.invariant_of-self
invariant_of-self g c =
    let n = count_is _ _ _ c.self.invariant _ c.self.view_is in
    let m = ends_are _ _ _ c.self.invariant _ c.self.view_is in
    out_block _ _ _ c.self.invariant c.args.i (omega arith) c.start_of-start.result c.index-end.result.now
    (c.start_of-start.ensures ∙ ap (λ es. get_or (0 ∷ es) c.args.i 0) c.deref.ensures.value)
    (c.index-end.ensures ∙ get_or_default c.self.inside.ends.items c.args.i c.index-end.result.now 0 (omega arith))
    _ _ _ c.cut_out.ensures c.take_end.ensures c.remove-value.ensures.items

pub returns-clause-value : goal.returns-clause-value
returns-clause-value g c = value_at _ _ _ c.self.invariant _ c.self.view_is c.args.i _ c.requires c.remove-value.ensures.value

pub returns-clause-rest : goal.returns-clause-rest
returns-clause-rest g c =
    let n = count_is _ _ _ c.self.invariant _ c.self.view_is in
    let m = ends_are _ _ _ c.self.invariant _ c.self.view_is in
    c.give_back.ensures
    ∙ out_entries _ _ _ c.self.invariant c.args.i (omega arith) c.start_of-start.result c.index-end.result.now
    (c.start_of-start.ensures ∙ ap (λ es. get_or (0 ∷ es) c.args.i 0) c.deref.ensures.value)
    (c.index-end.ensures ∙ get_or_default c.self.inside.ends.items c.args.i c.index-end.result.now 0 (omega arith))
    _ _ _ c.cut_out.ensures c.take_end.ensures c.remove-value.ensures.items
    _ c.self.view_is
