use Rattle.std.proofs.Common.{◌∷◌, get_or, drop, refl, ap, ◌∙◌, arith}
use Rattle.shelf.proofs.Blocks.{count_is, ends_are}
use Rattle.shelf.proofs.Inserting.{cut_point}
use Rattle.shelf.proofs.Splitting.{rising, lowered_from, left_block, left_entries, right_block, right_entries}
use Rattle.shelf.proofs.block.Block.split_off.Goals as goal

pub start_of-start-requires : goal.start_of-start-requires
start_of-start-requires g c = omega (arith, ends_are _ _ _ c.self.invariant _ c.self.view_is)

pub range_from-requires : goal.range_from-requires
range_from-requires g c = λ later.
    let n = count_is _ _ _ c.self.invariant _ c.self.view_is in
    let cut = cut_point _ _ _ c.self.invariant c.args.at (omega arith) c.as_str.result.now c.deref.result.now c.start_of-start.result c.as_str.ensures.value c.deref.ensures.value c.start_of-start.ensures in
    (cut.0, cut.1 later)

pub ends_from-requires-clause-within : goal.ends_from-requires-clause-within
ends_from-requires-clause-within g c = omega (arith, ends_are _ _ _ c.self.invariant _ c.self.view_is)

pub ends_from-requires-clause-rising : goal.ends_from-requires-clause-rising
ends_from-requires-clause-rising g c =
    let n = count_is _ _ _ c.self.invariant _ c.self.view_is in
    rising _ _ _ c.self.invariant c.args.at (omega arith) c.deref-2.result.now c.deref-2.ensures.value

pub split_off-requires : goal.split_off-requires
split_off-requires g c = omega (arith, count_is _ _ _ c.self.invariant _ c.self.view_is)

pub truncate-requires : goal.truncate-requires
truncate-requires g c = λ _.
    let n = count_is _ _ _ c.self.invariant _ c.self.view_is in
    cut_point _ _ _ c.self.invariant c.args.at (omega arith) _ _ _ refl c.deref.ensures.value c.start_of-start.ensures

pub invariant_of-result : goal.invariant_of-result
invariant_of-result g c =
    let n = count_is _ _ _ c.self.invariant _ c.self.view_is in
    let starts = c.start_of-start.ensures ∙ ap (λ es. get_or (0 ∷ es) c.args.at 0) c.deref.ensures.value in
    right_block _ _ _ c.self.invariant c.args.at (omega arith) c.start_of-start.result starts _ _ _
    (c.in_ok-texts.ensures.ok ∙ c.range_from.ensures.value ∙ ap (drop c.start_of-start.result) c.as_str.ensures.value)
    (c.in_ok-ends.ensures ∙ lowered_from c.deref-2.result.now _ c.args.at c.start_of-start.result c.deref-2.ensures.value starts)
    c.in_ok-values.ensures.tail

pub returns-clause-right : goal.returns-clause-right
returns-clause-right g c =
    let n = count_is _ _ _ c.self.invariant _ c.self.view_is in
    let starts = c.start_of-start.ensures ∙ ap (λ es. get_or (0 ∷ es) c.args.at 0) c.deref.ensures.value in
    right_entries _ _ _ c.self.invariant c.args.at (omega arith) c.start_of-start.result starts _ _ _
    (c.in_ok-texts.ensures.ok ∙ c.range_from.ensures.value ∙ ap (drop c.start_of-start.result) c.as_str.ensures.value)
    (c.in_ok-ends.ensures ∙ lowered_from c.deref-2.result.now _ c.args.at c.start_of-start.result c.deref-2.ensures.value starts)
    c.in_ok-values.ensures.tail _ c.self.view_is

pub invariant_of-self-2 : goal.invariant_of-self-2
invariant_of-self-2 g c =
    let n = count_is _ _ _ c.self.invariant _ c.self.view_is in
    let starts = c.start_of-start.ensures ∙ ap (λ es. get_or (0 ∷ es) c.args.at 0) c.deref.ensures.value in
    left_block _ _ _ c.self.invariant c.args.at (omega arith) c.start_of-start.result starts _ _ _
    (c.shrink_to_fit.ensures.bytes ∙ c.truncate.ensures.bytes) (c.shrink_to_fit-2.ensures.items ∙ c.truncate-2.ensures.items) (c.shrink_to_fit-3.ensures.items ∙ c.in_ok-values.ensures.items)

pub returns-clause-left : goal.returns-clause-left
returns-clause-left g c =
    let n = count_is _ _ _ c.self.invariant _ c.self.view_is in
    let starts = c.start_of-start.ensures ∙ ap (λ es. get_or (0 ∷ es) c.args.at 0) c.deref.ensures.value in
    left_entries _ _ _ c.self.invariant c.args.at (omega arith) c.start_of-start.result starts _ _ _
    (c.shrink_to_fit.ensures.bytes ∙ c.truncate.ensures.bytes) (c.shrink_to_fit-2.ensures.items ∙ c.truncate-2.ensures.items) (c.shrink_to_fit-3.ensures.items ∙ c.in_ok-values.ensures.items)
    _ c.self.view_is
