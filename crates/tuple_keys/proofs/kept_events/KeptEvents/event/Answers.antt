use Rattle.std.proofs.Common.{[], ap, ◌∙◌, arith, length, get_or}
use Rattle.tuple_keys.specs.Packed.{kind_of, event_of}
use Rattle.tuple_keys.proofs.Packing.{count, event_at, event_read, spelling_at}
use Rattle.tuple_keys.proofs.kept_events.KeptEvents.event.Goals as goal

pub start_of-start-requires : goal.start_of-start-requires
start_of-start-requires c = omega (arith, count _ _ c.self.invariant _ c.self.view_is, ap length c.deref.ensures.value)

pub index-requires : goal.index-requires
index-requires c = omega (arith, count _ _ c.self.invariant _ c.self.view_is)

pub bounds-as_bytes-start : goal.bounds-as_bytes-start
bounds-as_bytes-start c =
    let at = event_at _ _ c.self.invariant _ c.self.view_is c.as_str-text.result.now c.deref.result.now c.as_str-text.ensures.value c.as_str-text.utf8 c.deref.ensures.value c.args.i (event_of []) c.requires
    c.start_of-start.result c.index.result.now c.start_of-start.ensures c.index.ensures in
    omega (arith, at.within, ap length c.as_bytes.ensures.value)

pub range-requires-clause-start_le_end : goal.range-requires-clause-start_le_end
range-requires-clause-start_le_end c =
    (event_at _ _ c.self.invariant _ c.self.view_is c.as_str-text.result.now c.deref.result.now c.as_str-text.ensures.value c.as_str-text.utf8 c.deref.ensures.value c.args.i (event_of []) c.requires
    c.start_of-start.result c.index.result.now c.start_of-start.ensures c.index.ensures).up

pub range-requires-clause-end_boundary : goal.range-requires-clause-end_boundary
range-requires-clause-end_boundary c =
    (event_at _ _ c.self.invariant _ c.self.view_is c.as_str-text.result.now c.deref.result.now c.as_str-text.ensures.value c.as_str-text.utf8 c.deref.ensures.value c.args.i (event_of []) c.requires
    c.start_of-start.result c.index.result.now c.start_of-start.ensures c.index.ensures).stops

pub range-requires-clause-start_boundary : goal.range-requires-clause-start_boundary
range-requires-clause-start_boundary c = λ _.
    (event_at _ _ c.self.invariant _ c.self.view_is c.as_str-text.result.now c.deref.result.now c.as_str-text.ensures.value c.as_str-text.utf8 c.deref.ensures.value c.args.i (event_of []) c.requires
    c.start_of-start.result c.index.result.now c.start_of-start.ensures c.index.ensures).starts

pub of-requires : goal.of-requires
of-requires c =
    let at = event_at _ _ c.self.invariant _ c.self.view_is c.as_str-text.result.now c.deref.result.now c.as_str-text.ensures.value c.as_str-text.utf8 c.deref.ensures.value c.args.i (event_of []) c.requires
    c.start_of-start.result c.index.result.now c.start_of-start.ensures c.index.ensures in
    spelling_at _ _ _ _ _ at c.range.ensures.value

pub returns : goal.returns
returns c =
    let at = event_at _ _ c.self.invariant _ c.self.view_is c.as_str-text.result.now c.deref.result.now c.as_str-text.ensures.value c.as_str-text.utf8 c.deref.ensures.value c.args.i c.of.result c.requires
    c.start_of-start.result c.index.result.now c.start_of-start.ensures c.index.ensures in
    c.of.ensures ∙ event_read _ _ _ _ _ _ at (c.kind_of-kind.ensures ∙ ap (λ l. kind_of (get_or l c.start_of-start.result 0)) c.as_bytes.ensures.value) c.range.ensures.value
