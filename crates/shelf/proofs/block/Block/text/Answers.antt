use Rattle.std.proofs.Common.{◌∙◌, arith}
use Rattle.shelf.proofs.Blocks.{ends_are, text_at}
use Rattle.shelf.proofs.block.Block.text.Goals as goal

pub start_of-start-requires : goal.start_of-start-requires
start_of-start-requires g c = omega (arith, ends_are _ _ _ c.self.invariant _ c.self.view_is)

pub index-requires : goal.index-requires
index-requires g c = omega (arith, ends_are _ _ _ c.self.invariant _ c.self.view_is)

pub range-requires-clause-start_le_end : goal.range-requires-clause-start_le_end
range-requires-clause-start_le_end g c =
    (text_at _ _ _ c.self.invariant _ c.self.view_is c.args.i c.requires c.as_str.result.now c.deref.result.now c.start_of-start.result c.index.result.now c.as_str.ensures.value c.deref.ensures.value c.start_of-start.ensures c.index.ensures).up

pub range-requires-clause-start_boundary : goal.range-requires-clause-start_boundary
range-requires-clause-start_boundary g c = λ _.
    (text_at _ _ _ c.self.invariant _ c.self.view_is c.args.i c.requires c.as_str.result.now c.deref.result.now c.start_of-start.result c.index.result.now c.as_str.ensures.value c.deref.ensures.value c.start_of-start.ensures c.index.ensures).starts

pub range-requires-clause-end_boundary : goal.range-requires-clause-end_boundary
range-requires-clause-end_boundary g c =
    (text_at _ _ _ c.self.invariant _ c.self.view_is c.args.i c.requires c.as_str.result.now c.deref.result.now c.start_of-start.result c.index.result.now c.as_str.ensures.value c.deref.ensures.value c.start_of-start.ensures c.index.ensures).stops

pub returns : goal.returns
returns g c =
    c.range.ensures.value
    ∙ (text_at _ _ _ c.self.invariant _ c.self.view_is c.args.i c.requires c.as_str.result.now c.deref.result.now c.start_of-start.result c.index.result.now c.as_str.ensures.value c.deref.ensures.value c.start_of-start.ensures c.index.ensures).reads
