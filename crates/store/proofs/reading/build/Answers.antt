use Rattle.std.proofs.Common.{◌+◌, ◌-◌, ◌≤◌, List, length, map, ap, sym, subst, ◌∙◌, arith}
use Rattle.std.specs.List.Sorted.{IsStrictlySortedBy}
use Rattle.names.specs.Order.{tuple_cmp}
use Rattle.names.specs.declared.tuple.Tuple.{Tuple}
use Rattle.meaning.specs.History.{rows_of}
use Rattle.std.proofs.lemmas.Bool.{leb-true, leb-false}
use Rattle.names.specs.declared.limits.TheConstants.{MAX_REV, MAX_ROWS}
use Rattle.store.specs.inside.Reading.{as_span, as_written}
use Rattle.store.proofs.Sound.{built, within, read_admitted, read_ordered, room_refused}
use Rattle.store.proofs.Apart.{in_turn}
use Rattle.store.proofs.Sequence.{alive_sorted}
use Rattle.store.proofs.reading.build.Goals as goal

pub returns-clause-within : goal.returns-clause-within
returns-clause-within c =
    let w = as_written c.args.head c.args.spans.items c.args.configs.now in
    let P : List Tuple → Type 0 = λ ts. IsStrictlySortedBy tuple_cmp ts in
    let tuples = ap length (c.of.ensures ∙ sym c.as_slice.ensures.value) in
    let commits = ap rows_of (c.of-2.ensures ∙ sym c.deref.ensures.value) in
    let room = leb-true _ MAX_ROWS (sym c.if-not-has_room.ensures) in
    let revs : c.args.head.floor + (c.args.head.newest - c.args.head.floor) ≤ MAX_REV = omega (arith, c.requires.head.order, c.requires.head.revs) in
    let rows : length c.of.result + rows_of c.of-2.result ≤ MAX_ROWS = omega (arith, tuples, commits, room) in
    let same = built c.args.head.number c.args.head.floor c.in_ok-config.config _ c.of.result _ c.of-2.result _ (c.in_ok-config.ensures ∙ c.config_up_to-2.ensures) (c.of.ensures ∙ c.in_ok-parts.ensures.tuples) (c.of-2.ensures ∙ c.in_ok-parts.ensures.commits) in
    within _ w (c.args.head.newest - c.args.head.floor)
    (subst P (sym (c.of.ensures ∙ c.in_ok-parts.ensures.tuples)) (alive_sorted c.args.head.floor (map as_span c.args.spans.items) (in_turn as_span c.args.head.floor c.args.head.newest c.args.spans.items c.requires.placed.apart c.requires.spans)))
    (c.of-2.ensures ∙ c.in_ok-parts.ensures.commits) revs rows
    (read_admitted c.args.head c.args.spans.items c.args.configs.now c.requires.head c.requires.spans c.requires.placed c.in_ok-parts.ensures.whole _ same)
    (read_ordered c.args.head c.args.spans.items c.args.configs.now c.requires.head c.requires.spans c.requires.placed c.in_ok-parts.ensures.whole _ same)

pub returns-then-not-has_room-clause-fault : goal.returns-then-not-has_room-clause-fault
returns-then-not-has_room-clause-fault c = λ sound.
    room_refused (as_written c.args.head c.args.spans.items c.args.configs.now) c.as_slice.result.now c.deref.result.now (c.as_slice.ensures.value ∙ c.in_ok-parts.ensures.tuples) (c.deref.ensures.value ∙ c.in_ok-parts.ensures.commits)
    (leb-false _ MAX_ROWS (sym c.if-not-has_room.ensures)) sound

pub read_parts-requires-clause-rise : goal.read_parts-requires-clause-rise
read_parts-requires-clause-rise c = (c.args.head.floor, c.requires.placed.distinct)

pub config_up_to-requires-clause-rise : goal.config_up_to-requires-clause-rise
config_up_to-requires-clause-rise c = (c.args.head.floor, c.requires.placed.distinct)
